use Rattle.std.proofs.Common.{◌≡◌, Bool, true, false, refl, sym}
use Rattle.std.specs.Prelude.{None, option_and_then}
use Rattle.ha_value.specs.declared.value.Value.TheOpen.{Value-F}
use Rattle.ha_value.specs.declared.value.Value.TheVariants.{outs-Flag}
use Rattle.ha_value.specs.Numbers.{read_number}
use Rattle.ha_sight.specs.Conditions.{attribute_kind_text}
use Rattle.trig_numeric.proofs.numbers.number_of.Goals as goal

none_of_flag : (b : Bool) → option_and_then read_number (attribute_kind_text (Value-F.Flag b)) ≡ None
unfolding read_number
none_of_flag true = refl
none_of_flag false = refl

pub returns-in-Flag : goal.returns-in-Flag
returns-in-Flag c = rw (c.in-Flag.is, outs-Flag) (sym (none_of_flag c.in-Flag.field-0))
