use Rattle.std.proofs.Common.{◌≡◌, ◌∙◌, sym, ap, arith, suc, true, false, ◌++◌, ◌∷◌, []}
use Rattle.std.specs.Prelude.{codes}
use Rattle.ha_sight.specs.Scripts.{outer}
use Rattle.script_step.specs.Blocks.{goes_on}
use Rattle.script_step.specs.Parts.{tests_at, loop_by, blocks_of}
use Rattle.script_step.specs.Turns.{turn_value}
use Rattle.script_step.proofs.NextLemmas.{turn-over, turn-too-many, turn-next}
use Rattle.script_step.proofs.next.next_turn.Goals as goal

pub returns-then-not-branch-clause-step : goal.returns-then-not-branch-clause-step
returns-then-not-branch-clause-step g c =
    let sight = g.A.Answers.sight c.args.answers.now in
    let list = c.args.list.now in
    let t = c.args.thread.now in
    let turn = c.in-Some.turn in
    let tests = c.tests_at-tests.ensures ∙ ap (tests_at list []) c.as_slice.ensures in
    let no : (loop_by turn.rounds turn.most (tests_at list [] t.outer)).enters (suc turn.index) (outer t.scopes) sight ≡ false =
    (λ i. (loop_by turn.rounds turn.most (sym tests i)).enters (suc turn.index) (sym c.close.ensures i) sight) ∙ sym c.in_ok-enters_next.ensures.value ∙ c.if-not-branch.true in
    turn-over sight list t turn (sym c.in-Some.ensures.value) c.requires.over c.leave.new.thread c.leave.result no
    (λ b began ps. (λ i. goes_on b (blocks_of list [] t.outer []) (sym (c.in_ok-enters_next.ensures.scopes ∙ c.close.ensures) i) ps) ∙ c.leave.ensures.goes list b began ps)

pub returns-then-turn-clause-step : goal.returns-then-turn-clause-step
returns-then-turn-clause-step g c =
    let sight = g.A.Answers.sight c.args.answers.now in
    let list = c.args.list.now in
    let t = c.args.thread.now in
    let turn = c.in-Some.turn in
    let tests = c.tests_at-tests.ensures ∙ ap (tests_at list []) c.as_slice.ensures in
    let yes' : (loop_by turn.rounds turn.most (tests_at list [] t.outer)).enters (suc turn.index) (outer t.scopes) sight ≡ true =
    (λ i. (loop_by turn.rounds turn.most (sym tests i)).enters (suc turn.index) (sym c.close.ensures i) sight) ∙ sym c.in_ok-enters_next.ensures.value ∙ c.if-not-branch.false in
    turn-too-many sight list t turn (sym c.in-Some.ensures.value) c.requires.over (record { scopes = c.enters_next.new.scopes; outer = t.outer; here = record { inside = t.here.inside; at = t.here.at; turn = c.take.new.self } }) yes' c.if-turn.true

pub returns-clause-step : goal.returns-clause-step
returns-clause-step g c =
    let sight = g.A.Answers.sight c.args.answers.now in
    let list = c.args.list.now in
    let t = c.args.thread.now in
    let turn = c.in-Some.turn in
    let next = c.following.result in
    let tests = c.tests_at-tests.ensures ∙ ap (tests_at list []) c.as_slice.ensures in
    let yes' : (loop_by turn.rounds turn.most (tests_at list [] t.outer)).enters (suc turn.index) (outer t.scopes) sight ≡ true =
    (λ i. (loop_by turn.rounds turn.most (sym tests i)).enters (suc turn.index) (sym c.close.ensures i) sight) ∙ sym c.in_ok-enters_next.ensures.value ∙ c.if-not-branch.false in
    turn-next sight list t turn (sym c.in-Some.ensures.value) c.requires.over c.begin_again.new.thread next yes' (omega (arith, c.if-turn.false, turn.fits))
    c.following.ensures.rounds c.following.ensures.index c.following.ensures.most c.in_ok-begin_again.ensures.outer c.in_ok-begin_again.ensures.here
    (c.in_ok-begin_again.ensures.scopes ∙ (λ i. (c.in_ok-enters_next.ensures.scopes ∙ c.close.ensures) i ++ (((codes "repeat", turn_value next.rounds next.most next.index) ∷ []) ∷ [])))
