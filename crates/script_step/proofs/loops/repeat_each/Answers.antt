use Rattle.std.proofs.Common.{◌≡◌, ◌∙◌, sym, ap, length, Some, arith}
use Rattle.std.proofs.lemmas.Bool.{le-leb}
use Rattle.ha_sight.specs.Calls.{forms_of}
use Rattle.ha_sight.specs.Scripts.{flat}
use Rattle.script_step.proofs.IfLemmas.{if_ok}
use Rattle.script_step.proofs.KindLemmas.{each-done}
use Rattle.script_step.proofs.loops.repeat_each.Goals as goal

pub returns-else-most-eq0-clause-step : goal.returns-else-most-eq0-clause-step
returns-else-most-eq0-clause-step g c =
    let sight = g.A.Answers.sight c.args.answers.now in
    let is : forms_of sight (flat c.args.thread.now.scopes) c.args.forms.now ≡ Some c.in-Ok.values = (λ i. forms_of sight (sym c.flat.ensures i) (sym c.as_slice.ensures i)) ∙ c.in-Ok.ensures in
    if_ok c.enter_first.result (λ r first body. each-done sight c.args.thread.now c.args.forms.now c.in-Ok.values _ body r.0 c.enter_first.new.thread r.1 is (ap length c.as_slice-in-Ok.ensures)
    (le-leb 1 _ (omega (arith, c.if-most-eq0.false))) first) c.enter_first.ensures.step
