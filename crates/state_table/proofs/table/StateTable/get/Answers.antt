use Rattle.std.proofs.Common.{◌∙◌, ap, sym}
use Rattle.std.specs.BTreeMap.{get_by_text}
use Rattle.state_table.proofs.TableLemmas.{automation-here, other-here}
use Rattle.state_table.proofs.table.StateTable.get.Goals as goal

pub returns-in-Some : goal.returns-in-Some
returns-in-Some c =
    let t = c.args.self.now in
    c.get.ensures.value ∙ ap (get_by_text t.automations) c.in-Some.ensures.1 ∙ sym (automation-here (get_by_text t.automations) (get_by_text t.others) c.args.entity.now c.in-Some.ensures.0)

pub returns-in-None : goal.returns-in-None
returns-in-None c =
    let t = c.args.self.now in
    c.get-in-None.ensures.value ∙ ap (get_by_text t.others) c.text.ensures.value
    ∙ sym (other-here (get_by_text t.automations) (get_by_text t.others) c.args.entity.now c.in-None.ensures c.text.ensures.domain)
