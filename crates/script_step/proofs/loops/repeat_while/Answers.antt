use Rattle.std.proofs.Common.{◌≡◌, ◌∙◌, sym, ap, ◌++◌, ◌∷◌, [], true}
use Rattle.ha_sight.specs.Conditions.{hold_all}
use Rattle.ha_sight.specs.Scripts.{flat, plain_turn}
use Rattle.script_step.specs.declared.thread.Rounds.{Rounds}
use Rattle.script_step.proofs.IfLemmas.{if_ok}
use Rattle.script_step.proofs.KindLemmas.{while-done, first-from}
use Rattle.script_step.proofs.loops.repeat_while.Goals as goal

pub returns-then-branch-clause-step : goal.returns-then-branch-clause-step
returns-then-branch-clause-step g c =
    let sight = g.A.Answers.sight c.args.answers.now in
    let holds : hold_all sight c.args.tests.now (flat (c.args.thread.now.scopes ++ (plain_turn 1 ∷ []))) ≡ true =
    sym (c.in_ok-hold_in_turn.ensures.value ∙ ap (λ l. hold_all sight l (flat (c.args.thread.now.scopes ++ (plain_turn 1 ∷ [])))) c.as_slice.ensures) ∙ c.if-branch.true in
    if_ok c.enter_first.result (λ r first body. while-done sight c.args.thread.now c.args.tests.now body r.0 c.enter_first.new.thread r.1 holds
    (first-from Rounds.While 10000 c.args.thread.now (record { scopes = c.hold_in_turn.new.scopes; outer = c.args.thread.now.outer; here = c.args.thread.now.here }) c.enter_first.new.thread r.0 r.1 c.in_ok-hold_in_turn.ensures.scopes first)) c.enter_first.ensures.step
