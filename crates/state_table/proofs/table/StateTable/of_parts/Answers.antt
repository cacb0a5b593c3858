use Rattle.std.proofs.Common.{◌∙◌, ap, sym}
use Rattle.std.specs.BTreeMap.{get_by_text}
use Rattle.ha_value.specs.declared.value.EntityId.{EntityId}
use Rattle.ha_value.proofs.EntityLemmas.{read_parts}
use Rattle.state_table.proofs.TableLemmas.{automation-here, other-here}
use Rattle.state_table.proofs.table.StateTable.of_parts.Goals as goal

pub returns-then-eq : goal.returns-then-eq
returns-then-eq c =
    let t = c.args.self.now in
    let e : EntityId = record { domain = c.args.domain.now; object = c.args.object.now } in
    c.get.ensures.value ∙ sym (automation-here (get_by_text t.automations) (get_by_text t.others) e (sym (rw c.if-eq.true at c.eq.ensures)))

pub returns-else-eq : goal.returns-else-eq
returns-else-eq c =
    let t = c.args.self.now in
    let e : EntityId = record { domain = c.args.domain.now; object = c.args.object.now } in
    let parts = read_parts c.args.id.now e c.requires.2 in
    c.get-else-eq.ensures.value ∙ ap (get_by_text t.others) parts.0
    ∙ sym (other-here (get_by_text t.automations) (get_by_text t.others) e (sym (rw c.if-eq.false at c.eq.ensures)) parts.1)
