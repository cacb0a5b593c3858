use Rattle.std.proofs.Common.{◌≡◌, ℕ, suc, ◌+◌, ◌-◌, length, sym, ap, subst, ◌∙◌, arith}
use Rattle.std.specs.Prelude.{Some, None, slice_get}
use Rattle.ha_model.specs.declared.record.Record.{Record}
use Rattle.run_modes.specs.Fits.{AreNumbered}
use Rattle.ha_journal.specs.Journal.{Journal}
use Rattle.ha_model.specs.Lawful.{record_of}
use Rattle.ha_model.specs.Records.{Records}
use Rattle.run_modes.specs.Table.{HasBegun, begun_by, ended_at}
use Rattle.engine_parts.specs.Called.{told_by}
use Rattle.engine_parts.specs.Kept.{Going, left_branches, nobody}
use Rattle.engine_parts.specs.Records.{also}
use Rattle.engine_parts.proofs.CalledLemmas.{numbered-at}
use Rattle.ha_engine.proofs.BeginGoing.{before-none, found-behind, going-begun, going-ended, high, low, new}
use Rattle.ha_engine.proofs.step_end.end_run.Goals as goal

-- the run that ends had not ended
live-run : (s : ℕ) (rs : Records) → AreNumbered 0 rs → ((r : Record) × (record_of rs s ≡ Some r) × (r.serial ≡ s) × HasBegun r.begin × (r.end ≡ None)) → (i : ℕ) (x : Record) → slice_get rs i ≡ Some x → x.serial ≡ s → x.end ≡ None
live-run s rs num run i x found own =
    (let at : x.serial ≡ suc (0 + i) = numbered-at 0 i rs x num found in
    let index : s - 1 ≡ i = omega (arith, at, own) in
    let same : Some run.0 ≡ Some x = sym run.1 ∙ ap (slice_get rs) index ∙ found in
    let is : run.0 ≡ x = cc in
    subst (λ (y : Record). y.end ≡ None) is run.4)

pub forget-requires : goal.forget-requires
forget-requires c = (omega arith, omega (arith, c.requires.room.1))

pub begin_run-requires : goal.begin_run-requires
begin_run-requires c = c.forget.ensures.room 1 c.requires.room

pub returns-in-Some-clause-room : goal.returns-in-Some-clause-room
returns-in-Some-clause-room c n h = c.begin_run.ensures.room n (c.forget.ensures.room (suc n) h)

pub returns-in-None-clause-room : goal.returns-in-None-clause-room
returns-in-None-clause-room c n h = (let g = c.forget.ensures.room (suc n) h in (omega (arith, g.0), omega (arith, g.1)))

pub returns-in-None-clause-kept : goal.returns-in-None-clause-kept
returns-in-None-clause-kept c h going =
    let s : ℕ = c.args.serial in
    let k : Journal = c.args.journal.now in
    let rs : Records = c.args.runs.now.list in
    let gone : Going (also nobody s) k rs c.forget.new.parts = c.forget.ensures.going nobody k rs c.place-place.ensures.place h.table h.low h.high going in
    let none : begun_by s rs ≡ None = sym c.ended.ensures.answer ∙ c.in-None.is in
    subst (λ (l : Records). Going nobody k l c.forget.new.parts) (sym (c.ended.ensures.list ∙ (λ i. ended_at s (c.place-place.ensures.place i) c.args.cause rs))) (going-ended k rs s c.args.cause h (live-run s rs h.table.numbered c.requires.run) c.forget.new.parts gone none)

pub returns-in-Some-clause-kept : goal.returns-in-Some-clause-kept
returns-in-Some-clause-kept c h going =
    let s : ℕ = c.args.serial in
    let k : Journal = c.args.journal.now in
    let rs : Records = c.args.runs.now.list in
    let p = c.forget.new.parts in
    let q : ℕ = c.in-Some.next in
    let gone : Going (also nobody s) k rs p = c.forget.ensures.going nobody k rs c.place-place.ensures.place h.table h.low h.high going in
    let live = live-run s rs h.table.numbered c.requires.run in
    let is : begun_by s rs ≡ Some q = sym c.ended.ensures.answer ∙ c.in-Some.is in
    let found : record_of c.ended.new.self.list q ≡ Some (new k rs s c.args.cause h live p gone q is) = ap (λ (l : Records). record_of l q) (c.ended.ensures.list ∙ (λ i. ended_at s (c.place-place.ensures.place i) c.args.cause rs)) ∙ found-behind k rs s c.args.cause h live p gone q is in
    let acts = c.begin_run.ensures.sound (new k rs s c.args.cause h live p gone q is) found in
    subst (λ (l : Records). Going nobody k l c.begin_run.new.parts) (sym (c.ended.ensures.list ∙ (λ i. ended_at s (c.place-place.ensures.place i) c.args.cause rs)))
    (going-begun k rs s c.args.cause h live p gone q is acts c.begin_run.new.parts c.begin_run.ensures.rest
    (c.begin_run.ensures.pairs (length rs) (left_branches (also nobody s) (told_by (also nobody s) k rs) rs k) (new k rs s c.args.cause h live p gone q is) gone.runs_kept.pairs_are (before-none k rs s c.args.cause h live p gone q is)
    (low k rs s c.args.cause h live p gone q is) (high k rs s c.args.cause h live p gone q is) found))
