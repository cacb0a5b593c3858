use Rattle.std.proofs.Common.{◌≡◌, ◌-◌, ◌<◌, Bool, length, sym, subst, ap, ◌∙◌, arith}
use Rattle.std.specs.Prelude.{fold, vec_len}
use Rattle.std.specs.Global.{Vec}
use Rattle.ha_model.specs.declared.record.EndCause.{EndCause}
use Rattle.ha_journal.specs.Journal.{Journal}
use Rattle.ha_model.specs.Records.{Records}
use Rattle.run_modes.specs.Calls.{stop_turned}
use Rattle.ha_ready.specs.RestedFlags.{RestedKept}
use Rattle.engine_parts.specs.declared.parts.Parts.{Parts}
use Rattle.engine_parts.specs.Kept.{Going, nobody}
use Rattle.engine_parts.specs.Records.{HasRoom, IsTable}
use Rattle.engine_parts.specs.Stages.{RunsBefore}
use Rattle.ha_engine.specs.Named.{AreFirsts}
use Rattle.ha_engine.specs.Reloads.{marks_of, unmarked}
use Rattle.ha_engine.proofs.ReloadLemmas.{marks-many}
use Rattle.ha_engine.proofs.ReloadLine.{entering, entering-before, entering-count, entering-journal, entering-stopped, entering-table, entering-within}
use Rattle.ha_engine.proofs.reload.follow_entered.Goals as goal

pub enter_reload-requires : goal.enter_reload-requires
enter_reload-requires c = (c.requires.entering.config, entering c.args.journal.now c.args.old.now c.args.plan c.args.runs.now.list c.args.parts.now c.requires.entering)

pub prepare-requires-clause-journal : goal.prepare-requires-clause-journal
prepare-requires-clause-journal c = entering-journal c.args.journal.now c.args.old.now c.args.plan c.args.runs.now.list c.args.parts.now c.requires.entering

pub prepare-requires-clause-sees : goal.prepare-requires-clause-sees
prepare-requires-clause-sees c =
    let k : Journal = c.args.journal.now in
    let rs : Records = c.args.runs.now.list in
    let before : RunsBefore k rs c.enter_reload.new.parts.waits c.enter_reload.new.parts.delays c.enter_reload.new.parts.frames.items c.enter_reload.new.parts.ready.pairs.items c.enter_reload.new.parts.calls
    = subst (λ (q : Parts). RunsBefore k rs q.waits q.delays q.frames.items q.ready.pairs.items q.calls) (sym c.in_ok-before.ensures.rest) (entering-before k c.args.old.now c.args.plan rs c.args.parts.now c.requires.entering) in
    (c.in_ok-fired.ensures.going rs before).sees

pub drop_unmarked-requires-clause-few : goal.drop_unmarked-requires-clause-few
drop_unmarked-requires-clause-few c =
    (let made = ap length (c.as_slice-2.ensures.value ∙ c.in_ok-marks.ensures) in
    let many = marks-many c.as_slice.result.now c.args.parts.now.free in
    let few = entering-count c.args.journal.now c.args.old.now c.args.plan c.args.runs.now.list c.args.parts.now c.requires.entering in
    omega (arith, made, many, few))

pub drop_unmarked-requires-clause-room : goal.drop_unmarked-requires-clause-room
drop_unmarked-requires-clause-room c = (omega arith, omega (arith, c.in_ok-make_room.ensures.room.1))

pub settle-requires-clause-stopped : goal.settle-requires-clause-stopped
settle-requires-clause-stopped c =
    let k : Journal = c.args.journal.now in
    let p : Parts = c.args.parts.now in
    let rs : Records = c.args.runs.now.list in
    let h = c.requires.entering in
    let before : RunsBefore k rs c.enter_reload.new.parts.waits c.enter_reload.new.parts.delays c.enter_reload.new.parts.frames.items c.enter_reload.new.parts.ready.pairs.items c.enter_reload.new.parts.calls
    = subst (λ (q : Parts). RunsBefore k rs q.waits q.delays q.frames.items q.ready.pairs.items q.calls) (sym c.in_ok-before.ensures.rest) (entering-before k c.args.old.now c.args.plan rs p h) in
    let same : c.make_room.new.runs.list ≡ rs = c.make_room.ensures.list in
    let going : Going nobody k c.make_room.new.runs.list c.make_room.new.parts
    = subst (λ (l : Records). Going nobody k l c.make_room.new.parts) (sym same) (c.in_ok-make_room.ensures.going k rs (c.in_ok-fired.ensures.going rs before)) in
    let table : IsTable k c.make_room.new.runs.list = subst (λ (l : Records). IsTable k l) (sym same) (entering-table k c.args.old.now c.args.plan rs p h) in
    let at : c.place.result ≡ length k - 1 = c.place.ensures.place in
    let within : length k - 1 < length k = entering-within k c.args.old.now c.args.plan rs p h in
    let kept = c.drop_unmarked.ensures.kept k at (omega (arith, within)) table going in
    let rested = c.drop_unmarked.ensures.rested ∙ c.in_ok-make_room.ensures.rested ∙ c.in_ok-fired.ensures.rested ∙ ap (λ (q : Parts). q.rested) c.in_ok-before.ensures.rest in
    entering-stopped k c.args.old.now c.args.plan rs p h c.place.result c.drop_unmarked.new.runs.list c.drop_unmarked.new.parts at
    (c.drop_unmarked.ensures.list ∙ (λ i. fold (stop_turned c.place.result EndCause.Reloaded) (same i) (unmarked 0 ((c.as_slice-2.ensures.value ∙ c.in_ok-marks.ensures ∙ (λ m. marks_of (c.as_slice.ensures m) p.free)) i))))
    kept.0 kept.1 (subst (λ (v : Vec Bool). RestedKept h.j rs v.items) (sym rested) h.kept.rested_is)

pub settle-requires-clause-room : goal.settle-requires-clause-room
settle-requires-clause-room c = c.drop_unmarked.ensures.room (vec_len c.in_ok-stack.stack) (subst (λ n. HasRoom n c.make_room.new.parts) c.len.ensures c.in_ok-make_room.ensures.room)

pub settle-requires-clause-named : goal.settle-requires-clause-named
settle-requires-clause-named c = subst (AreFirsts c.args.journal.now) (sym (c.drop_unmarked.ensures.firsts ∙ c.make_room.ensures.firsts)) c.requires.named
