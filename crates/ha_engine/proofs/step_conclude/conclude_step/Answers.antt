use Rattle.std.proofs.Common.{◌≡◌, ◌∙◌, ◌+◌, suc, subst, arith}
use Rattle.std.specs.Prelude.{vec_len}
use Rattle.engine_parts.specs.Records.{HasRoom}
use Rattle.ha_engine.proofs.TellLemmas.{told-again, told-journal}
use Rattle.ha_engine.proofs.step_conclude.conclude_step.Goals as goal

pub prepare-requires-clause-journal : goal.prepare-requires-clause-journal
prepare-requires-clause-journal c = told-journal c.args.journal.now c.args.runs.now.list c.args.parts.now c.args.progress c.requires.told

pub tell_records-requires-clause-told : goal.tell_records-requires-clause-told
tell_records-requires-clause-told c =
    told-again c.args.journal.now c.args.runs.now.list c.make_room.new.runs.list c.args.parts.now c.make_room.new.parts c.args.progress c.requires.told c.make_room.ensures.list
    (c.in_ok-make_room.ensures.going c.args.journal.now c.args.runs.now.list c.requires.told.going) c.in_ok-make_room.ensures.rested

pub settle-requires-clause-room : goal.settle-requires-clause-room
settle-requires-clause-room c =
    let n = vec_len c.in_ok-stack.stack in
    let more : c.len.result + 1 ≡ suc n = omega (arith, c.len.ensures) in
    c.tell_records.ensures.room n (subst (λ m. HasRoom m c.make_room.new.parts) more c.in_ok-make_room.ensures.room)

pub settle-requires-clause-named : goal.settle-requires-clause-named
settle-requires-clause-named c = c.tell_records.ensures.firsts ∙ c.make_room.ensures.firsts ∙ c.requires.named
