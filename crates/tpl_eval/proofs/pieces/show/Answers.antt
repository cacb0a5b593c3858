use Rattle.std.proofs.Common.{◌++◌, ◌∙◌, ap, refl, sym}
use Rattle.ha_config.specs.Words.{Pairs}
use Rattle.ha_sight.specs.Templates.{value_of}
use Rattle.tpl_eval.proofs.AlikeLemmas.{value-alike}
use Rattle.tpl_eval.proofs.PieceLemmas.{show-writes}
use Rattle.tpl_eval.proofs.pieces.show.Goals as goal

pub returns : goal.returns
returns c = λ sight h whole alike.
    let is =
    value-alike sight whole (c.args.env.now ++ c.args.page.now.set) alike c.args.expr.now
    ∙ ap (λ (s : Pairs). value_of sight c.args.expr.now (c.args.env.now ++ s)) (sym c.as_slice.ensures) in
    show-writes c.args.env.now whole c.args.page.now (record c.args.page.now { text = c.add_shown.new.text }) _ _ c.add_shown.result is alike refl (c.add_shown.ensures sight h)
