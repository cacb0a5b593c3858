use Rattle.std.proofs.Common.{◌∙◌, arith}
use Rattle.script_step.proofs.CutLemmas.{add-last}
use Rattle.script_step.proofs.IfLemmas.{on_ok}
use Rattle.script_step.proofs.scopes.Scopes.add_inside.Goals as goal

pub returns-else-blocks-eq0 : goal.returns-else-blocks-eq0
returns-else-blocks-eq0 c = on_ok c.add_at-else-blocks-eq0.result (λ e. e ∙ add-last c.args.self.now _ (c.args.name, c.args.value) c.blocks-blocks.ensures (omega (arith, c.if-blocks-eq0.false))) c.add_at-else-blocks-eq0.ensures
