use Rattle.std.proofs.Common.{◌∙◌, ◌-◌, ap, arith, length, refl, sym}
use Rattle.ha_journal.specs.Entries.{is_again}
use Rattle.ha_replay.proofs.RoomLemmas.{all-in-segment, in-last-segment, none-from-first}
use Rattle.ha_replay.proofs.room.in_segment.Goals as goal

pub returns-then-is_again : goal.returns-then-is_again
returns-then-is_again c =
    let j = c.args.journal.now in
    let i = c.loop-i.i in
    in-last-segment j (length j - 1 - i) i c.index-journal-journal.result c.requires c.loop-i-test.true refl
    (ap is_again (sym c.index-journal-journal.is) ∙ sym c.is_again.ensures ∙ c.if-is_again.true) c.loop-i.invariant

pub returns : goal.returns
returns c =
    let j = c.args.journal.now in
    all-in-segment j (none-from-first j (length j - c.loop-i.i) (omega (arith, c.loop-i-test.false)) c.loop-i.invariant)
