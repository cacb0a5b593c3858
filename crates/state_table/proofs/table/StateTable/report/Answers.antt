use Rattle.std.proofs.Common.{◌∙◌, ap, sym, Some}
use Rattle.std.specs.BTreeMap.{get_by_text}
use Rattle.ha_sight.specs.StateStep.{next_object}
use Rattle.state_table.specs.Domain.{change_of}
use Rattle.state_table.proofs.DomainLemmas.{ok-then, err-then}
use Rattle.state_table.proofs.TableLemmas.{automation-changes, automation-here, automations-agree, ok-along, other-changes, other-here, others-agree}
use Rattle.state_table.proofs.table.StateTable.report.Goals as goal

pub returns-in-Some-clause-change : goal.returns-in-Some-clause-change
returns-in-Some-clause-change c =
    let t = c.args.self.now in
    let before = ap (get_by_text t.automations) c.in-Some.ensures.1 ∙ sym (automation-here (get_by_text t.automations) (get_by_text t.others) c.args.entity.now c.in-Some.ensures.0) in
    ok-along c.report_in.result (λ o. change_of o c.args.text.now c.args.attributes.now) _ _ before c.report_in.ensures.change

pub returns-in-Some-clause-ok : goal.returns-in-Some-clause-ok
returns-in-Some-clause-ok c =
    let t = c.args.self.now in
    let before = ap (get_by_text t.automations) c.in-Some.ensures.1 ∙ sym (automation-here (get_by_text t.automations) (get_by_text t.others) c.args.entity.now c.in-Some.ensures.0) in
    ok-then c.report_in.result
    (automation-changes (get_by_text t.automations) (get_by_text t.others) c.args.entity.now (get_by_text c.report_in.new.states) _ _ _
    (ap (λ o. Some (next_object o c.args.text.now c.args.attributes.now c.args.now)) before) c.in-Some.ensures.0 c.in-Some.ensures.1)
    c.report_in.ensures.ok

pub returns-in-Some-clause-err : goal.returns-in-Some-clause-err
returns-in-Some-clause-err c =
    let t = c.args.self.now in
    err-then c.report_in.result (automations-agree (get_by_text t.automations) (get_by_text t.others) (get_by_text c.report_in.new.states)) c.report_in.ensures.err

pub returns-in-None-clause-change : goal.returns-in-None-clause-change
returns-in-None-clause-change c =
    let t = c.args.self.now in
    let before = ap (get_by_text t.others) c.text.ensures.value ∙ sym (other-here (get_by_text t.automations) (get_by_text t.others) c.args.entity.now c.in-None.ensures c.text.ensures.domain) in
    ok-along c.report_in-in-None.result (λ o. change_of o c.args.text.now c.args.attributes.now) _ _ before c.report_in-in-None.ensures.change

pub returns-in-None-clause-ok : goal.returns-in-None-clause-ok
returns-in-None-clause-ok c =
    let t = c.args.self.now in
    let written = c.text.ensures.value in
    let before = ap (get_by_text t.others) written ∙ sym (other-here (get_by_text t.automations) (get_by_text t.others) c.args.entity.now c.in-None.ensures c.text.ensures.domain) in
    ok-then c.report_in-in-None.result
    (other-changes (get_by_text t.automations) (get_by_text t.others) c.args.entity.now (get_by_text c.report_in-in-None.new.states) _ _ _
    (ap (λ o. Some (next_object o c.args.text.now c.args.attributes.now c.args.now)) before) c.in-None.ensures c.text.ensures.domain written)
    c.report_in-in-None.ensures.ok

pub returns-in-None-clause-err : goal.returns-in-None-clause-err
returns-in-None-clause-err c =
    let t = c.args.self.now in
    err-then c.report_in-in-None.result (others-agree (get_by_text t.automations) (get_by_text t.others) (get_by_text c.report_in-in-None.new.states)) c.report_in-in-None.ensures.err
