use Rattle.std.proofs.Common.{◌<◌, ◌-◌, ◌∙◌, List, sym, subst, arith, length}
use Rattle.std.specs.Prelude.{◌^◌}
use Rattle.ha_journal.specs.declared.entry.Entry.{Entry}
use Rattle.segment_view.specs.Views.{HasBoot, seen_at}
use Rattle.segment_view.proofs.ViewLemmas.{boot-front, held-last, last-at, length-taken, seen-last}
use Rattle.segment_view.proofs.segment.Segment.of_list.Goals as goal

pub make-entries-requires-clause-boot : goal.make-entries-requires-clause-boot
make-entries-requires-clause-boot c =
    subst (λ (l : List Entry). HasBoot l) (sym c.front_of.ensures) (boot-front c.args.journal.now (length c.args.journal.now - 1) c.requires.boot (omega (arith, c.requires.front)))

pub make-entries-requires-clause-front : goal.make-entries-requires-clause-front
make-entries-requires-clause-front c =
    let taken = length-taken c.args.journal.now (length c.args.journal.now - 1) (omega arith) in
    subst (λ (l : List Entry). c.args.front < length l) (sym c.front_of.ensures) (omega (arith, taken, c.requires.front))

pub make-entries-requires-clause-few : goal.make-entries-requires-clause-few
make-entries-requires-clause-few c =
    let taken = length-taken c.args.journal.now (length c.args.journal.now - 1) (omega arith) in
    subst (λ (l : List Entry). length l < 2 ^ 56) (sym c.front_of.ensures) (omega (arith, taken, c.requires.few))

pub invariant_of-result : goal.invariant_of-result
invariant_of-result c =
    let h = c.requires.held in
    held-last c.args.journal.now h.j c.make-entries.result c.args.front c.args.base (length c.args.journal.now - 1) h.x c.entry_at-last.result.now c.args.book.now h.journal_is
    (last-at c.args.journal.now h.j h.x h.journal_is) (c.make-entries.ensures.seen ∙ (λ i. seen_at (c.front_of.ensures i) c.args.front c.args.base)) c.entry_at-last.ensures h.holds

pub returns : goal.returns
returns c j x is =
    seen-last c.args.journal.now j c.make-entries.result c.args.front c.args.base (length c.args.journal.now - 1) x c.entry_at-last.result.now is
    (last-at c.args.journal.now j x is) (c.make-entries.ensures.seen ∙ (λ i. seen_at (c.front_of.ensures i) c.args.front c.args.base)) c.entry_at-last.ensures
