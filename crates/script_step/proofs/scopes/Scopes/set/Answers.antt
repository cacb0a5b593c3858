use Rattle.std.proofs.Common.{◌∙◌, sym}
use Rattle.std.proofs.lemmas.Result.{on_ok_weaker}
use Rattle.script_step.proofs.NameLemmas.{set-named, set-unnamed}
use Rattle.script_step.proofs.scopes.Scopes.set.Goals as goal

pub returns-in-Some : goal.returns-in-Some
returns-in-Some c =
    on_ok_weaker c.add_at.result
    (λ e. e ∙ sym (set-named (c.args.name, c.args.value) c.args.self.now c.is_own.result c.in-Some.k c.is_own.ensures c.if-is_own.false c.in-Some.ensures.value))
    c.add_at.ensures

pub returns-in-None : goal.returns-in-None
returns-in-None c =
    on_ok_weaker c.add_inside-in-None.result
    (λ e. e ∙ sym (set-unnamed (c.args.name, c.args.value) c.args.self.now c.is_own.result c.is_own.ensures c.if-is_own.false c.in-None.ensures.value))
    c.add_inside-in-None.ensures
