-- What is sound: a trigger with a `for` over 0, where it may have one; and a choice between sound expressions.
use Rattle.std.proofs.Common.{◌∙◌, ℕ, Bool, ap, refl, sym, Option}
use Rattle.std.specs.Prelude.{None, Some, IsTrue, nat_lt, ◌&&◌}
use Rattle.ha_config.specs.declared.template.Expr.{Expr}
use Rattle.ha_config.specs.declared.template.Expr.TheVariants as exprs
use Rattle.ha_config.specs.declared.template.Expr.TheOpen.{Expr-F}
use Rattle.ha_config.specs.declared.template.Expr.TheFolds.{fold-roll-Expr}
use Rattle.ha_config.specs.Sound.{if_there, is_sound_expr, sound_expr_step}

pub held-well : (hold : Option ℕ) (may : Bool) → IsTrue (if_there (λ d. nat_lt 0 d) hold) → IsTrue may → IsTrue (if_there (λ d. nat_lt 0 d && may) hold)
held-well None may over h = refl
held-well (Some d) may over h = (λ i. over i && may) ∙ h

pub chosen-sound : (test yes' no' : Expr) → IsTrue (is_sound_expr test) → IsTrue (is_sound_expr yes') → IsTrue (is_sound_expr no') → IsTrue (is_sound_expr (exprs.Pick test yes' (Some no')))
chosen-sound test yes' no' t y n =
    ap is_sound_expr (sym (exprs.rolls-Pick test yes' (Some no'))) ∙ fold-roll-Expr Bool sound_expr_step (Expr-F.Pick test yes' (Some no')) ∙ (λ i. t i && y i && n i)
