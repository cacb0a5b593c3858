use Rattle.std.proofs.Common.{◌≡◌, ◌∙◌, ap, sym, subst, ◌++◌}
use Rattle.std.specs.Prelude.{Option, Err}
use Rattle.ha_value.specs.declared.value.Value.{Value}
use Rattle.ha_config.specs.Words.{Pairs}
use Rattle.ha_sight.specs.Templates.{value_of}
use Rattle.tpl_fns.specs.Outcome.{Gives}
use Rattle.tpl_eval.proofs.AlikeLemmas.{value-alike}
use Rattle.tpl_eval.proofs.PieceLemmas.{set-fault, set-writes}
use Rattle.tpl_eval.proofs.pieces.assign.Goals as goal

pub returns-in-Ok : goal.returns-in-Ok
returns-in-Ok c = λ sight sees whole alike.
    let is =
    value-alike sight whole (c.args.env.now ++ c.args.page.now.set) alike c.args.expr.now
    ∙ ap (λ (s : Pairs). value_of sight c.args.expr.now (c.args.env.now ++ s)) (sym c.as_slice.ensures) ∙ c.in-Ok.ensures sight sees in
    set-writes c.args.env.now whole c.args.page.now c.set_name.new.page c.args.name.now c.in-Ok.value _ c.set_name.result is alike c.set_name.ensures

pub returns-in-Err : goal.returns-in-Err
returns-in-Err c = λ sight sees whole alike.
    let given = value_of sight c.args.expr.now whole in
    let is : given ≡ value_of sight c.args.expr.now (c.args.env.now ++ c.as_slice.result.now) =
    value-alike sight whole (c.args.env.now ++ c.args.page.now.set) alike c.args.expr.now
    ∙ ap (λ (s : Pairs). value_of sight c.args.expr.now (c.args.env.now ++ s)) (sym c.as_slice.ensures) in
    set-fault c.args.env.now whole c.args.page.now c.args.page.now c.args.name.now given c.in-Err.fault
    (subst (λ (o : Option Value). Gives {X = Value} (Err c.in-Err.fault) o) (sym is) (rw c.in-Err.is at (c.kept_value.ensures sight sees)))
