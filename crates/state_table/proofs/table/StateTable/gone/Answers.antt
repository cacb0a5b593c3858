use Rattle.std.proofs.Common.{◌∙◌, ap, refl, sym, None}
use Rattle.std.specs.Prelude.{is_some}
use Rattle.std.specs.BTreeMap.{get_by_text}
use Rattle.state_table.proofs.TableLemmas.{automation-changes, automation-here, other-changes, other-here}
use Rattle.state_table.proofs.table.StateTable.gone.Goals as goal

pub returns-in-Some-clause-found : goal.returns-in-Some-clause-found
returns-in-Some-clause-found c =
    let t = c.args.self.now in
    c.remove_from.ensures.found ∙ ap is_some (ap (get_by_text t.automations) c.in-Some.ensures.1 ∙ sym (automation-here (get_by_text t.automations) (get_by_text t.others) c.args.entity.now c.in-Some.ensures.0))

pub returns-in-Some-clause-rest : goal.returns-in-Some-clause-rest
returns-in-Some-clause-rest c =
    let t = c.args.self.now in
    automation-changes (get_by_text t.automations) (get_by_text t.others) c.args.entity.now (get_by_text c.remove_from.new.states) _ None None refl c.in-Some.ensures.0 c.in-Some.ensures.1 c.remove_from.ensures.rest

pub returns-in-None-clause-found : goal.returns-in-None-clause-found
returns-in-None-clause-found c =
    let t = c.args.self.now in
    c.remove_from-in-None.ensures.found
    ∙ ap is_some (ap (get_by_text t.others) c.text.ensures.value ∙ sym (other-here (get_by_text t.automations) (get_by_text t.others) c.args.entity.now c.in-None.ensures c.text.ensures.domain))

pub returns-in-None-clause-rest : goal.returns-in-None-clause-rest
returns-in-None-clause-rest c =
    let t = c.args.self.now in
    other-changes (get_by_text t.automations) (get_by_text t.others) c.args.entity.now (get_by_text c.remove_from-in-None.new.states) _ None None refl c.in-None.ensures c.text.ensures.domain
    c.text.ensures.value c.remove_from-in-None.ensures.rest
