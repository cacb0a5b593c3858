use Rattle.std.proofs.Common.{◌≡◌, ◌∙◌, sym, ap, subst, length}
use Rattle.ha_config.specs.declared.config.ActionKind.TheOpen.{ActionKind-F}
use Rattle.ha_config.specs.declared.config.ActionKind.TheViews.{out-ActionKind}
use Rattle.ha_config.specs.declared.config.ActionKind.TheVariants.{outs-Call, outs-Delay, outs-WaitUntil, outs-WaitFor, outs-Choose, outs-If, outs-Repeat, outs-Parallel, outs-Block, outs-Set, outs-Fire, outs-Stop, outs-Test}
use Rattle.ha_config.specs.declared.config.Action.{Action}
use Rattle.ha_config.specs.declared.config.ActionKind.{ActionKind}
use Rattle.ha_sight.specs.declared.item.Item.{Item}
use Rattle.script_step.specs.declared.strand.End.{End}
use Rattle.script_step.specs.declared.strand.Stage.{Stage}
use Rattle.script_step.specs.Parts.{kind_of, list_in, lists_in}
use Rattle.script_step.specs.Continuation.{last_action, lists_of}
use Rattle.script_step.specs.Sides.{is_fresh, is_whole}
use Rattle.script_step.specs.Step.{IsDone}
use Rattle.script_step.proofs.IfLemmas.{if_ok}
use Rattle.script_step.proofs.KindLemmas.{acted, advanced, at-own, behind, block-done, stop-done, taken}
use Rattle.script_step.proofs.StepTold.{sides-fresh}
use Rattle.script_step.proofs.WholeLemmas.{begun-whole}
use Rattle.script_step.proofs.act.act.Goals as goal

pub returns-in-Call-clause-step : goal.returns-in-Call-clause-step
returns-in-Call-clause-step g c =
    let sight = g.A.Answers.sight c.args.answers.now in
    let t = c.args.thread.now in
    let a = c.index-own-thread.result in
    let at = at-own c.args.list.now t c.as_slice.result.now c.list_in-own.result.now a c.as_slice.ensures c.list_in-own.ensures c.requires.left c.index-own-thread.is in
    if_ok c.call.result (λ r d. acted sight c.args.list.now t a (ActionKind-F.Call c.in-Call.service c.in-Call.target c.in-Call.fields) r.0 (advanced t) r.1 at (ap out-ActionKind c.in-Call.is ∙ outs-Call c.in-Call.service c.in-Call.target c.in-Call.fields) (d)) c.call.ensures.step

pub returns-in-Delay-clause-step : goal.returns-in-Delay-clause-step
returns-in-Delay-clause-step g c =
    let sight = g.A.Answers.sight c.args.answers.now in
    let t = c.args.thread.now in
    let a = c.index-own-thread.result in
    let at = at-own c.args.list.now t c.as_slice.result.now c.list_in-own.result.now a c.as_slice.ensures c.list_in-own.ensures c.requires.left c.index-own-thread.is in
    if_ok c.delay.result (λ r d. acted sight c.args.list.now t a (ActionKind-F.Delay c.in-Delay.form) r.0 (advanced t) r.1 at (ap out-ActionKind c.in-Delay.is ∙ outs-Delay c.in-Delay.form) (d)) c.delay.ensures.step

pub returns-in-WaitUntil-clause-step : goal.returns-in-WaitUntil-clause-step
returns-in-WaitUntil-clause-step g c =
    let sight = g.A.Answers.sight c.args.answers.now in
    let t = c.args.thread.now in
    let a = c.index-own-thread.result in
    let at = at-own c.args.list.now t c.as_slice.result.now c.list_in-own.result.now a c.as_slice.ensures c.list_in-own.ensures c.requires.left c.index-own-thread.is in
    if_ok c.wait.result (λ r d. acted sight c.args.list.now t a (ActionKind-F.WaitUntil c.in-WaitUntil.test c.in-WaitUntil.timeout c.in-WaitUntil.go_on) r.0 (advanced t) r.1 at (ap out-ActionKind c.in-WaitUntil.is ∙ outs-WaitUntil c.in-WaitUntil.test c.in-WaitUntil.timeout c.in-WaitUntil.go_on) (d c.in-WaitUntil.test c.in-WaitUntil.go_on)) c.wait.ensures.until

pub returns-in-WaitFor-clause-step : goal.returns-in-WaitFor-clause-step
returns-in-WaitFor-clause-step g c =
    let sight = g.A.Answers.sight c.args.answers.now in
    let t = c.args.thread.now in
    let a = c.index-own-thread.result in
    let at = at-own c.args.list.now t c.as_slice.result.now c.list_in-own.result.now a c.as_slice.ensures c.list_in-own.ensures c.requires.left c.index-own-thread.is in
    if_ok c.wait-in-WaitFor.result (λ r d. acted sight c.args.list.now t a (ActionKind-F.WaitFor c.in-WaitFor.triggers c.in-WaitFor.timeout c.in-WaitFor.go_on) r.0 (advanced t) r.1 at (ap out-ActionKind c.in-WaitFor.is ∙ outs-WaitFor c.in-WaitFor.triggers c.in-WaitFor.timeout c.in-WaitFor.go_on) (d c.in-WaitFor.triggers c.in-WaitFor.go_on)) c.wait-in-WaitFor.ensures.triggers

pub returns-in-Choose-clause-step : goal.returns-in-Choose-clause-step
returns-in-Choose-clause-step g c =
    let sight = g.A.Answers.sight c.args.answers.now in
    let t = c.args.thread.now in
    let a = c.index-own-thread.result in
    let at = at-own c.args.list.now t c.as_slice.result.now c.list_in-own.result.now a c.as_slice.ensures c.list_in-own.ensures c.requires.left c.index-own-thread.is in
    if_ok c.choose.result (λ r d. acted sight c.args.list.now t a (ActionKind-F.Choose c.in-Choose.options c.in-Choose.fallback) r.0 c.choose.new.thread r.1 at (ap out-ActionKind c.in-Choose.is ∙ outs-Choose c.in-Choose.options c.in-Choose.fallback) (d c.in-Choose.fallback)) c.choose.ensures.step

pub returns-in-If-clause-step : goal.returns-in-If-clause-step
returns-in-If-clause-step g c =
    let sight = g.A.Answers.sight c.args.answers.now in
    let t = c.args.thread.now in
    let a = c.index-own-thread.result in
    let at = at-own c.args.list.now t c.as_slice.result.now c.list_in-own.result.now a c.as_slice.ensures c.list_in-own.ensures c.requires.left c.index-own-thread.is in
    if_ok c.choose_side.result (λ r d. acted sight c.args.list.now t a (ActionKind-F.If c.in-If.tests c.in-If.yes c.in-If.no) r.0 c.choose_side.new.thread r.1 at (ap out-ActionKind c.in-If.is ∙ outs-If c.in-If.tests c.in-If.yes c.in-If.no) (d c.in-If.yes c.in-If.no)) c.choose_side.ensures.step

pub returns-in-Repeat-clause-step : goal.returns-in-Repeat-clause-step
returns-in-Repeat-clause-step g c =
    let sight = g.A.Answers.sight c.args.answers.now in
    let t = c.args.thread.now in
    let a = c.index-own-thread.result in
    let at = at-own c.args.list.now t c.as_slice.result.now c.list_in-own.result.now a c.as_slice.ensures c.list_in-own.ensures c.requires.left c.index-own-thread.is in
    if_ok c.repeat.result (λ r d. acted sight c.args.list.now t a (ActionKind-F.Repeat c.in-Repeat.kind c.in-Repeat.body) r.0 c.repeat.new.thread r.1 at (ap out-ActionKind c.in-Repeat.is ∙ outs-Repeat c.in-Repeat.kind c.in-Repeat.body) (d c.in-Repeat.body)) c.repeat.ensures.step

pub returns-in-Parallel-clause-step : goal.returns-in-Parallel-clause-step
returns-in-Parallel-clause-step g c =
    let sight = g.A.Answers.sight c.args.answers.now in
    let t = c.args.thread.now in
    let a = c.index-own-thread.result in
    let at = at-own c.args.list.now t c.as_slice.result.now c.list_in-own.result.now a c.as_slice.ensures c.list_in-own.ensures c.requires.left c.index-own-thread.is in
    if_ok c.parallel.result (λ r d. acted sight c.args.list.now t a (ActionKind-F.Parallel c.in-Parallel.lists) r.0 (advanced t) r.1 at (ap out-ActionKind c.in-Parallel.is ∙ outs-Parallel c.in-Parallel.lists) (d sight)) c.parallel.ensures.step

pub returns-in-Set-clause-step : goal.returns-in-Set-clause-step
returns-in-Set-clause-step g c =
    let sight = g.A.Answers.sight c.args.answers.now in
    let t = c.args.thread.now in
    let a = c.index-own-thread.result in
    let at = at-own c.args.list.now t c.as_slice.result.now c.list_in-own.result.now a c.as_slice.ensures c.list_in-own.ensures c.requires.left c.index-own-thread.is in
    if_ok c.set.result (λ r d. acted sight c.args.list.now t a (ActionKind-F.Set c.in-Set.pairs) r.0 c.set.new.thread r.1 at (ap out-ActionKind c.in-Set.is ∙ outs-Set c.in-Set.pairs) (d)) c.set.ensures.step

pub returns-in-Fire-clause-step : goal.returns-in-Fire-clause-step
returns-in-Fire-clause-step g c =
    let sight = g.A.Answers.sight c.args.answers.now in
    let t = c.args.thread.now in
    let a = c.index-own-thread.result in
    let at = at-own c.args.list.now t c.as_slice.result.now c.list_in-own.result.now a c.as_slice.ensures c.list_in-own.ensures c.requires.left c.index-own-thread.is in
    if_ok c.fire.result (λ r d. acted sight c.args.list.now t a (ActionKind-F.Fire c.in-Fire.event c.in-Fire.fields) r.0 (advanced t) r.1 at (ap out-ActionKind c.in-Fire.is ∙ outs-Fire c.in-Fire.event c.in-Fire.fields) (d)) c.fire.ensures.step

pub returns-in-Block-clause-step : goal.returns-in-Block-clause-step
returns-in-Block-clause-step g c =
    let sight = g.A.Answers.sight c.args.answers.now in
    let t = c.args.thread.now in
    let a = c.index-own-thread.result in
    let at = at-own c.args.list.now t c.as_slice.result.now c.list_in-own.result.now a c.as_slice.ensures c.list_in-own.ensures c.requires.left c.index-own-thread.is in
    let body = c.in-Block.field-0 in
    if_ok c.go_into.result (λ r d. acted sight c.args.list.now t a (ActionKind-F.Block body) r.0 c.go_into.new.thread r.1 at (ap out-ActionKind c.in-Block.is ∙ outs-Block body)
    (block-done sight body (advanced t) c.go_into.new.thread r.0 r.1 d)) c.go_into.ensures.step

pub returns-in-Stop-clause-step : goal.returns-in-Stop-clause-step
returns-in-Stop-clause-step g c =
    let sight = g.A.Answers.sight c.args.answers.now in
    let t = c.args.thread.now in
    let a = c.index-own-thread.result in
    let at = at-own c.args.list.now t c.as_slice.result.now c.list_in-own.result.now a c.as_slice.ensures c.list_in-own.ensures c.requires.left c.index-own-thread.is in
    acted sight c.args.list.now t a ActionKind-F.Stop Item.Nothing (advanced t) (Stage.Ended End.Stopped) at (ap out-ActionKind c.in-Stop.is ∙ outs-Stop) (stop-done sight (advanced t))

pub returns-in-Test-clause-step : goal.returns-in-Test-clause-step
returns-in-Test-clause-step g c =
    let sight = g.A.Answers.sight c.args.answers.now in
    let t = c.args.thread.now in
    let a = c.index-own-thread.result in
    let at = at-own c.args.list.now t c.as_slice.result.now c.list_in-own.result.now a c.as_slice.ensures c.list_in-own.ensures c.requires.left c.index-own-thread.is in
    let condition = c.in-Test.condition in
    let kind : kind_of a ≡ ActionKind-F.Test condition = ap out-ActionKind c.in-Test.is ∙ outs-Test condition in
    let len = ap length (sym (c.list_in-own.ensures ∙ ap (list_in c.args.list.now) c.as_slice.ensures)) in
    if_ok c.test.result (λ r d. taken sight c.args.list.now t a r.0 c.test.new.thread r.1 at
    (subst (λ (x : ActionKind-F ActionKind Action). IsDone sight c.args.list.now x (advanced t) r.0 c.test.new.thread r.1) (sym kind) (d c.args.list.now len))) c.test.ensures.step

pub returns-in-Parallel-clause-whole : goal.returns-in-Parallel-clause-whole
returns-in-Parallel-clause-whole g c =
    let t = c.args.thread.now in
    let list = c.args.list.now in
    let a = c.index-own-thread.result in
    let lists = c.in-Parallel.lists in
    let at = at-own list t c.as_slice.result.now c.list_in-own.result.now a c.as_slice.ensures c.list_in-own.ensures c.requires.left c.index-own-thread.is in
    let is : lists_of (last_action list (advanced t)) ≡ lists = ap lists_of (behind list t a at) ∙ ap lists_in (ap out-ActionKind c.in-Parallel.is ∙ outs-Parallel lists) in
    if_ok c.parallel.result (λ r d. (λ i. is_whole (d i) list (advanced t)) ∙ begun-whole t.scopes list (advanced t) lists is) c.parallel.ensures.begins

pub returns-in-Parallel-clause-fresh : goal.returns-in-Parallel-clause-fresh
returns-in-Parallel-clause-fresh g c =
    if_ok c.parallel.result (λ r d. ap is_fresh d ∙ sides-fresh c.args.thread.now.scopes c.in-Parallel.lists) c.parallel.ensures.begins
