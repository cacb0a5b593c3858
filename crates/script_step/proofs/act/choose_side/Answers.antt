use Rattle.std.proofs.Common.{◌≡◌, ◌∙◌, sym, true, false, refl}
use Rattle.ha_sight.specs.Scripts.{flat}
use Rattle.ha_sight.specs.Conditions.{hold_all}
use Rattle.script_step.proofs.IfLemmas.{if_ok}
use Rattle.script_step.proofs.KindLemmas.{if-done}
use Rattle.script_step.proofs.act.choose_side.Goals as goal

pub returns-then-branch-clause-step : goal.returns-then-branch-clause-step
returns-then-branch-clause-step g c =
    let sight = g.A.Answers.sight c.args.answers.now in
    let holds : hold_all sight c.args.tests.now (flat c.args.thread.now.scopes) ≡ true =
    sym (c.in_ok-all_hold.ensures ∙ (λ i. hold_all sight (c.as_slice.ensures i) (c.flat.ensures i))) ∙ c.if-branch.true in
    if_ok c.go_into.result (λ r into yes' no'. if-done sight c.args.tests.now yes' no' c.args.thread.now c.go_into.new.thread 0 r.0 r.1 (rw holds refl) into) c.go_into.ensures.step

pub returns-else-branch-clause-step : goal.returns-else-branch-clause-step
returns-else-branch-clause-step g c =
    let sight = g.A.Answers.sight c.args.answers.now in
    let holds : hold_all sight c.args.tests.now (flat c.args.thread.now.scopes) ≡ false =
    sym (c.in_ok-all_hold.ensures ∙ (λ i. hold_all sight (c.as_slice.ensures i) (c.flat.ensures i))) ∙ c.if-branch.false in
    if_ok c.go_into-else-branch.result (λ r into yes' no'. if-done sight c.args.tests.now yes' no' c.args.thread.now c.go_into-else-branch.new.thread 1 r.0 r.1 (rw holds refl) into) c.go_into-else-branch.ensures.step
