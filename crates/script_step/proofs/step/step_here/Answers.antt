use Rattle.std.proofs.Common.{◌≡◌, [], Ok, Err}
use Rattle.std.specs.Prelude.{Result, Option, IfOk}
use Rattle.ha_sight.specs.declared.item.Item.{Item}
use Rattle.ha_sight.specs.declared.waiting.WaitEnd.{WaitEnd}
use Rattle.ha_sight.specs.Scripts.{Branch}
use Rattle.script_step.specs.declared.strand.Stage.{Stage}
use Rattle.script_step.specs.Step.{IsStep}
use Rattle.script_step.proofs.StepLemmas.{may-ready}
use Rattle.script_step.proofs.step.step_here.Goals as goal

ok-then : {T E : Type 0} (P Q : T → Type 0) (r : Result T E) → ((v : T) → P v → Q v) → IfOk r P → IfOk r Q
ok-then P Q (Ok x) f p = f x p
ok-then P Q (Err e) f p = tt

pub step_ready-requires-clause-next : goal.step_ready-requires-clause-next
step_ready-requires-clause-next g c =
    (may-ready c.args.strand.now c.args.list.now c.args.path.now (g.A.Answers.sight c.args.answers.now).now c.args.end c.requires.may (c.is_ready.ensures c.if-is_ready.true)).1

pub returns-then-is_ready-clause-step : goal.returns-then-is_ready-clause-step
returns-then-is_ready-clause-step g c =
    let sight = g.A.Answers.sight c.args.answers.now in
    let list = c.args.list.now in
    let old = c.args.strand.now in
    let new = c.step_ready.new.strand in
    let ready = c.is_ready.ensures c.if-is_ready.true in
    let here = (may-ready old list c.args.path.now sight.now c.args.end c.requires.may ready).0 in
    ok-then (λ (item : Item). (path : Branch) (end : Option WaitEnd) → old.stage ≡ Stage.Ready → path ≡ [] → IsStep sight list path end old item new)
    (λ (item : Item). IsStep sight list c.args.path.now c.args.end old item new) c.step_ready.result (λ item h. h c.args.path.now c.args.end ready here) c.step_ready.ensures.step
