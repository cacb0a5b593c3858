use Rattle.std.proofs.Common.{◌++◌, subst, sym}
use Rattle.std.specs.Prelude.{Bool, Option, option_map}
use Rattle.ha_value.specs.declared.value.Value.{Value}
use Rattle.ha_value.specs.Truth.{truth}
use Rattle.tpl_fns.specs.Outcome.{Gives}
use Rattle.tpl_eval.proofs.AlikeLemmas.{value-alike}
use Rattle.tpl_eval.proofs.pieces.holds.Goals as goal

pub returns : goal.returns
returns c = λ sight h whole alike.
    subst (λ (o : Option Value). Gives {X = Bool} c.truth_of.result (option_map truth o))
    (sym (value-alike sight whole (c.args.env.now ++ c.args.set.now) alike c.args.expr.now)) (c.truth_of.ensures _ (c.value_of.ensures sight h))
