use Rattle.std.proofs.Common.{◌≡◌, ℕ, List, ◌-◌, ◌<◌, Bool, length, sym, subst, ap, ◌∙◌, arith}
use Rattle.std.specs.Prelude.{[], ◌^◌, fold, vec_len, if◌then◌else◌}
use Rattle.std.specs.Global.{Vec}
use Rattle.ha_model.specs.declared.record.EndCause.{EndCause}
use Rattle.ha_journal.specs.Journal.{Journal}
use Rattle.ha_model.specs.Records.{Records}
use Rattle.run_modes.specs.Calls.{stop_turned}
use Rattle.ha_engine.specs.Named.{AreFirsts, named_as}
use Rattle.ha_ready.specs.RestedFlags.{RestedKept}
use Rattle.engine_parts.specs.declared.parts.Parts.{Parts}
use Rattle.engine_parts.specs.Kept.{Going, nobody}
use Rattle.engine_parts.specs.Records.{HasRoom, IsTable}
use Rattle.engine_parts.specs.Stages.{RunsBefore}
use Rattle.ha_engine.proofs.SwitchLine.{pushed-before, pushed-few, pushed-journal, pushed-known, pushed-named, pushed-numbers, pushed-stopped, pushed-table, pushed-turning, pushed-within}
use Rattle.ha_engine.proofs.switch.follow_switch.Goals as goal

pub number_of-automation-requires-clause-numbers : goal.number_of-automation-requires-clause-numbers
number_of-automation-requires-clause-numbers c = pushed-numbers c.args.name.now c.args.on c.args.stop c.args.journal.now c.args.runs.now.list c.args.parts.now c.requires.pushed

pub number_of-automation-requires-clause-named : goal.number_of-automation-requires-clause-named
number_of-automation-requires-clause-named c = pushed-named c.args.name.now c.args.on c.args.stop c.args.journal.now c.args.runs.now.list c.args.parts.now c.requires.pushed

pub enter_switches-requires : goal.enter_switches-requires
enter_switches-requires c =
    pushed-turning c.args.name.now c.args.on c.args.stop c.args.journal.now c.args.runs.now.list c.args.parts.now c.requires.pushed c.number_of-automation.result c.number_of-automation.ensures c.args.runs.now.firsts c.requires.named

pub prepare-requires-clause-journal : goal.prepare-requires-clause-journal
prepare-requires-clause-journal c = pushed-journal c.args.name.now c.args.on c.args.stop c.args.journal.now c.args.runs.now.list c.args.parts.now c.requires.pushed

pub prepare-requires-clause-sees : goal.prepare-requires-clause-sees
prepare-requires-clause-sees c =
    let k : Journal = c.args.journal.now in
    let rs : Records = c.args.runs.now.list in
    let before : RunsBefore k rs c.enter_switches.new.parts.waits c.enter_switches.new.parts.delays c.enter_switches.new.parts.frames.items c.enter_switches.new.parts.ready.pairs.items c.enter_switches.new.parts.calls
    = subst (λ (q : Parts). RunsBefore k rs q.waits q.delays q.frames.items q.ready.pairs.items q.calls) (sym c.in_ok-before.ensures.rest) (pushed-before c.args.name.now c.args.on c.args.stop k rs c.args.parts.now c.requires.pushed) in
    (c.in_ok-fired.ensures.going rs before).sees

pub settle-requires-clause-stopped : goal.settle-requires-clause-stopped
settle-requires-clause-stopped c =
    let k : Journal = c.args.journal.now in
    let p : Parts = c.args.parts.now in
    let rs : Records = c.args.runs.now.list in
    let a = c.number_of-automation.result in
    let before : RunsBefore k rs c.enter_switches.new.parts.waits c.enter_switches.new.parts.delays c.enter_switches.new.parts.frames.items c.enter_switches.new.parts.ready.pairs.items c.enter_switches.new.parts.calls
    = subst (λ (q : Parts). RunsBefore k rs q.waits q.delays q.frames.items q.ready.pairs.items q.calls) (sym c.in_ok-before.ensures.rest) (pushed-before c.args.name.now c.args.on c.args.stop k rs p c.requires.pushed) in
    let old : c.make_room.new.runs.list ≡ rs = c.make_room.ensures.list in
    let going : Going nobody k c.make_room.new.runs.list c.make_room.new.parts
    = subst (λ (l : Records). Going nobody k l c.make_room.new.parts) (sym old) (c.in_ok-make_room.ensures.going k rs (c.in_ok-fired.ensures.going rs before)) in
    let table : IsTable k c.make_room.new.runs.list = subst (λ (l : Records). IsTable k l) (sym old) (pushed-table c.args.name.now c.args.on c.args.stop k rs p c.requires.pushed) in
    let at : c.place.result ≡ length k - 1 = c.place.ensures.place in
    let within : length k - 1 < length k = pushed-within c.args.name.now c.args.on c.args.stop k rs p c.requires.pushed in
    let kept = c.stop_named_if.ensures.kept k at (omega (arith, within)) table going in
    let rested = c.stop_named_if.ensures.rested ∙ c.in_ok-make_room.ensures.rested ∙ c.in_ok-fired.ensures.rested ∙ ap (λ (q : Parts). q.rested) c.in_ok-before.ensures.rest in
    pushed-stopped c.args.name.now c.args.on c.args.stop k rs p c.requires.pushed a c.number_of-automation.ensures c.args.runs.now.firsts c.requires.named c.stop_named_if.new.runs.list c.stop_named_if.new.parts
    (c.stop_named_if.ensures.list ∙ (λ i. fold (stop_turned (at i) EndCause.SwitchedOff) (old i) (if c.ends_runs-stops.ensures i then named_as (c.make_room.ensures.firsts i) a else [])))
    kept.0 kept.1 (subst (λ (v : Vec Bool). RestedKept c.requires.pushed.pushed.j rs v.items) (sym rested) c.requires.pushed.pushed.kept.rested_is)

pub settle-requires-clause-room : goal.settle-requires-clause-room
settle-requires-clause-room c = c.stop_named_if.ensures.room (vec_len c.in_ok-stack.stack) (subst (λ n. HasRoom n c.make_room.new.parts) c.len.ensures c.in_ok-make_room.ensures.room)

pub stop_named_if-requires-clause-room : goal.stop_named_if-requires-clause-room
stop_named_if-requires-clause-room c = (omega arith, omega (arith, c.in_ok-make_room.ensures.room.1))

pub stop_named_if-requires-clause-known : goal.stop_named_if-requires-clause-known
stop_named_if-requires-clause-known c =
    subst (λ (l : List ℕ). c.number_of-automation.result < length l) (sym c.make_room.ensures.firsts)
    (pushed-known c.args.name.now c.args.on c.args.stop c.args.journal.now c.args.runs.now.list c.args.parts.now c.requires.pushed c.number_of-automation.result c.number_of-automation.ensures c.args.runs.now.firsts c.requires.named)

pub settle-requires-clause-named : goal.settle-requires-clause-named
settle-requires-clause-named c = subst (AreFirsts c.args.journal.now) (sym (c.stop_named_if.ensures.firsts ∙ c.make_room.ensures.firsts)) c.requires.named

pub stop_named_if-requires-clause-few : goal.stop_named_if-requires-clause-few
stop_named_if-requires-clause-few c =
    subst (λ (l : List ℕ). length l < 2 ^ 32) (sym c.make_room.ensures.firsts)
    (pushed-few c.args.name.now c.args.on c.args.stop c.args.journal.now c.args.runs.now.list c.args.parts.now c.requires.pushed c.number_of-automation.result c.number_of-automation.ensures c.args.runs.now.firsts c.requires.named)
