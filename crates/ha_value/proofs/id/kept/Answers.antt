use Rattle.std.proofs.Common.{◌≡◌, ℕ, List, true, Some, sym, ap, subst, ◌∙◌}
use Rattle.ha_value.specs.Entities.{IsKept, entity_in}
use Rattle.ha_value.specs.Ids.{is_entity}
use Rattle.ha_value.proofs.EntityLemmas.{kept_utf8, read_form, read_is, read_kept}
use Rattle.ha_value.proofs.id.kept.Goals as goal

pub from_bytes-requires : goal.from_bytes-requires
from_bytes-requires c = kept_utf8 c.args.text.now (read_kept c.args.text.now c.requires)

pub invariant_of-result : goal.invariant_of-result
invariant_of-result c = subst IsKept (sym c.in_ok-from_bytes.ensures) (read_kept c.args.text.now c.requires)

pub returns-clause-value : goal.returns-clause-value
returns-clause-value c = read_is c.args.text.now c.requires ∙ ap (λ (t : List ℕ). Some (entity_in t)) (sym c.in_ok-from_bytes.ensures)

pub returns-clause-form : goal.returns-clause-form
returns-clause-form c =
    subst (λ (t : List ℕ). is_entity (entity_in t) ≡ true) (sym c.in_ok-from_bytes.ensures) (read_form c.args.text.now c.requires)
