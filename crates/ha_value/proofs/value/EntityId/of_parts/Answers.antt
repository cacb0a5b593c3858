use Rattle.std.proofs.Common.{sym, ap, subst, ◌∙◌}
use Rattle.ha_value.specs.Entities.{IsKept, entity_in}
use Rattle.ha_value.proofs.EntityLemmas.{kept_joined, parts_joined}
use Rattle.ha_value.proofs.value.EntityId.of_parts.Goals as goal

pub invariant_of-result : goal.invariant_of-result
invariant_of-result c =
    subst IsKept (sym c.in_ok-of_parts.ensures) (kept_joined c.args.domain.now c.args.object.now c.requires c.utf8.domain c.utf8.object)

pub returns : goal.returns
returns c = ap entity_in c.in_ok-of_parts.ensures ∙ parts_joined c.args.domain.now c.args.object.now c.requires
