use Rattle.std.proofs.Common.{◌≡◌, ◌∙◌, sym, ap, Ok, arith}
use Rattle.std.proofs.lemmas.Bool.{le-leb}
use Rattle.ha_sight.specs.Calls.{count_of}
use Rattle.ha_sight.specs.Scripts.{flat}
use Rattle.script_step.proofs.IfLemmas.{if_ok}
use Rattle.script_step.proofs.KindLemmas.{count-done}
use Rattle.script_step.proofs.loops.repeat_count.Goals as goal

pub returns-else-n-eq0-clause-step : goal.returns-else-n-eq0-clause-step
returns-else-n-eq0-clause-step g c =
    let sight = g.A.Answers.sight c.args.answers.now in
    let h = c.if-n-eq0 in
    let is : count_of sight (flat c.args.thread.now.scopes) c.args.count.now ≡ Ok c.in-Ok.n = ap (λ env. count_of sight env c.args.count.now) (sym c.flat.ensures) ∙ c.in-Ok.ensures.value in
    if_ok c.enter_first.result (λ r first body. count-done sight c.args.thread.now c.args.count.now c.in-Ok.n body r.0 c.enter_first.new.thread r.1 is (le-leb 1 c.in-Ok.n (omega (arith, c.if-n-eq0.false))) first) c.enter_first.ensures.step
