use Rattle.std.proofs.Common.{◌≡◌, ◌∙◌, false, get_or, subst, sym}
use Rattle.wait_set.specs.Concern.{OfOthers, fires_for, has}
use Rattle.wait_set.specs.Timers.{IsLater}
use Rattle.wait_set.proofs.CalmLemmas.{still-aside}
use Rattle.wait_set.proofs.note.note_entry.Goals as goal

pub note_some-requires : goal.note_some-requires
note_some-requires g c n d lt none =
    let places = c.in_ok-places.places in
    let asks = c.args.asks.now.items in
    let timers = c.args.pending.now.timers in
    let tested = c.args.tested.now in
    let dues = subst (λ xs. OfOthers (λ a. IsLater c.now.result timers a.owner) places xs) c.as_slice.ensures.value c.in_ok-places.ensures.dues in
    let tests = subst (λ xs. OfOthers (λ a. has tested a.owner ≡ false) places xs) c.as_slice.ensures.value c.in_ok-places.ensures.tests in
    let fires = subst (λ xs. OfOthers (λ a. fires_for c.as_slice-2.result.now a.owner ≡ false) places xs) c.as_slice.ensures.value c.in_ok-places.ensures.fires in
    still-aside c.args.place (g.A.Answers.sight c.args.answers.now) c.args.fired.now asks timers c.args.pending.now.readers tested c.args.pending.now.runs c.args.ordered c.now.result c.requires.kept c.requires.quiet c.now.ensures
    n d lt (dues n d lt none) (tests n d lt none) ((λ k. fires_for (sym c.as_slice-2.ensures k) (get_or asks n d).owner) ∙ fires n d lt none)

pub returns-clause-kept : goal.returns-clause-kept
returns-clause-kept g c = c.note_some.ensures.kept c.args.ordered c.requires.kept

pub returns-then-is_empty-clause-kept : goal.returns-then-is_empty-clause-kept
returns-then-is_empty-clause-kept g c = c.note_all.ensures.kept c.args.ordered c.requires.kept
