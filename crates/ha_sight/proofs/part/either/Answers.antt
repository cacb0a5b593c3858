use Rattle.std.proofs.Common.{◌≡◌, subst}
use Rattle.std.specs.Prelude.{IfOk}
use Rattle.ha_value.specs.declared.value.Value.{Value}
use Rattle.ha_sight.specs.Parts.{part_value}
use Rattle.ha_sight.proofs.FieldLemmas.{field-front, field-behind}
use Rattle.ha_sight.proofs.part.either.Goals as goal

pub returns-in-Ok-Some : goal.returns-in-Ok-Some
returns-in-Ok-Some c = λ name ps qs h k.
    field-front name ps qs c.in-Ok-Some.field-0 (rw c.in-Ok-Some.is at h) c.in-Ok-Some.value c.in-Ok-Some.field-0-is

pub returns-in-Ok-None : goal.returns-in-Ok-None
returns-in-Ok-None c = λ name ps qs h k.
    let e = field-behind name ps qs c.in-Ok-None.field-0 (rw c.in-Ok-None.is at h) c.in-Ok-None.field-0-is in
    subst (λ (v : Value). IfOk c.args.later (λ p. part_value p ≡ v)) e k
