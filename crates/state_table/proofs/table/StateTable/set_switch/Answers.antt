use Rattle.std.proofs.Common.{ap, Some}
use Rattle.std.specs.BTreeMap.{get_by_text}
use Rattle.state_table.specs.Anew.{switch_object}
use Rattle.state_table.proofs.DomainLemmas.{ok-then, err-then}
use Rattle.state_table.proofs.TableLemmas.{automation-changes, automations-agree, other-changes, others-agree}
use Rattle.state_table.proofs.table.StateTable.set_switch.Goals as goal

pub returns-in-Some-clause-ok : goal.returns-in-Some-clause-ok
returns-in-Some-clause-ok c =
    let t = c.args.self.now in
    ok-then c.put_in.result
    (automation-changes (get_by_text t.automations) (get_by_text t.others) c.args.entity.now (get_by_text c.put_in.new.states) _ _ (Some (switch_object c.args.on c.args.now))
    (ap (λ o. Some o) c.in_ok-object.ensures) c.in-Some.ensures.0 c.in-Some.ensures.1)
    c.put_in.ensures.ok

pub returns-in-Some-clause-err : goal.returns-in-Some-clause-err
returns-in-Some-clause-err c =
    let t = c.args.self.now in
    err-then c.put_in.result (automations-agree (get_by_text t.automations) (get_by_text t.others) (get_by_text c.put_in.new.states)) c.put_in.ensures.err

pub returns-in-None-clause-ok : goal.returns-in-None-clause-ok
returns-in-None-clause-ok c =
    let t = c.args.self.now in
    ok-then c.put_in-in-None.result
    (other-changes (get_by_text t.automations) (get_by_text t.others) c.args.entity.now (get_by_text c.put_in-in-None.new.states) _ _ (Some (switch_object c.args.on c.args.now))
    (ap (λ o. Some o) c.in_ok-object.ensures) c.in-None.ensures c.text.ensures.domain c.text.ensures.value)
    c.put_in-in-None.ensures.ok

pub returns-in-None-clause-err : goal.returns-in-None-clause-err
returns-in-None-clause-err c =
    let t = c.args.self.now in
    err-then c.put_in-in-None.result (others-agree (get_by_text t.automations) (get_by_text t.others) (get_by_text c.put_in-in-None.new.states)) c.put_in-in-None.ensures.err
