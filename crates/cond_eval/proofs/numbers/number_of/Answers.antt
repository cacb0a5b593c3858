use Rattle.std.proofs.Common.{◌≡◌, ◌∙◌, ap, refl, sym, Bool, true, false, codes}
use Rattle.std.specs.Prelude.{Some, None, option_and_then, if◌then◌else◌}
use Rattle.ha_value.specs.declared.value.Value.{Value}
use Rattle.ha_value.specs.declared.value.Value.TheVariants.{outs-Flag}
use Rattle.ha_sight.specs.Conditions.{attribute_kind_text, attribute_text}
use Rattle.ha_value.specs.Numbers.{read_number}
use Rattle.cond_eval.proofs.numbers.number_of.Goals as goal

-- neither `true` nor `false` is a number
no-number : (b : Bool) → option_and_then read_number (attribute_text (Value.Flag b)) ≡ None
unfolding read_number
no-number b = ap (λ x. option_and_then read_number (attribute_kind_text x)) (outs-Flag b) ∙ by b
  where
    by : (b : Bool) → option_and_then read_number (Some (if b then codes "true" else codes "false")) ≡ None
    by true = refl
    by false = refl

pub returns-in-Flag : goal.returns-in-Flag
returns-in-Flag c = sym (ap (λ v. option_and_then read_number (attribute_text v)) c.in-Flag.is ∙ no-number _)
