-- Runs that went: where their records end, the runs are kept.
use Rattle.std.proofs.Common.{◌≡◌, ℕ, zero, suc, ◌+◌, ◌-◌, ◌<◌, ◌≤◌, inl, List, [], ◌∷◌, length, Bool, true, false, refl, sym, ap, subst, ◌∙◌, arith}
use Rattle.std.specs.Prelude.{Option, Some, slice_get, None}
use Rattle.std.specs.Option.{option_map_or}
use Rattle.timer_queue.specs.Timers.{Timer}
use Rattle.ha_model.specs.declared.record.Record.{Record}
use Rattle.ha_journal.specs.Journal.{Journal}
use Rattle.ha_sight.specs.Scripts.{Branch}
use Rattle.ha_model.specs.Records.{Records, CallEnds}
use Rattle.ha_model.specs.Lawful.{record_of}
use Rattle.run_modes.specs.Fits.{AreNumbered}
use Rattle.script_step.specs.declared.frames.Frames.{Frames}
use Rattle.wait_set.specs.Asked.{WaitTable as Waits}
use Rattle.engine_parts.specs.Kept.{Gone, RunsKept, SlotBut, slot_if, left_branches, left_if, nobody}
use Rattle.ha_ready.specs.RunPast.{AllPast, IsPast}
use Rattle.ha_ready.specs.ReadyPairs.{pairs_from, branches_with, ready_with}
use Rattle.engine_parts.specs.Records.{AreEnded, EndsIf}
use Rattle.engine_parts.specs.Runs.{SlotKept, SlotsWith, HasEnd}
use Rattle.engine_parts.proofs.ChangeLemmas.{same-branches}
use Rattle.ha_ready.proofs.ReadyLemmas.{pairs-same}
use Rattle.ha_ready.proofs.RunPast.{past-at, resting-with}
use Rattle.engine_parts.proofs.SlotChangeLemmas.{slot-changed}
use Rattle.engine_parts.proofs.SlotLemmas.{ended-off}
use Rattle.ha_model.specs.declared.record.EndCause.{EndCause}
use Rattle.ha_config.specs.Words.{or_else}
use Rattle.engine_parts.specs.Called.{place_of}

same-length : (gone : Gone) (q : ℕ) (rs rs' : Records) → AreEnded gone q rs rs' → length rs ≡ length rs'
same-length gone q [] [] h = refl
same-length gone q [] (r' ∷ rs') h = absurd h
same-length gone q (r ∷ rs) [] h = absurd h
same-length gone q (r ∷ rs) (r' ∷ rs') h = ap suc (same-length gone q rs rs' h.1)

-- a run that went has an end
pub has-end : (e e' : Option (ℕ × EndCause)) (q : ℕ) → place_of e' ≡ or_else (place_of e) (Some q) → HasEnd e'
has-end e (Some x) q h = tt
has-end None None q h = absurd (let bad : ◌≡◌ {A = Option ℕ} None (Some q) = h in cc)
has-end (Some y) None q h = absurd (let bad : ◌≡◌ {A = Option ℕ} None (Some y.0) = h in cc)

-- the record at a place before and after
record Both (gone : Gone) (q n i : ℕ) (rs rs' : Records) : Type 0 where
  old : Record
  new : Record
  old_is : slice_get rs i ≡ Some old
  new_is : slice_get rs' i ≡ Some new
  numbered : old.serial ≡ suc (n + i)
  ends : EndsIf (gone old.serial) q old new

both-at : (gone : Gone) (q n i : ℕ) (rs rs' : Records) → AreEnded gone q rs rs' → AreNumbered n rs → i < length rs → Both gone q n i rs rs'
both-at gone q n i [] rs' h num lt = absurd (omega (arith, lt))
both-at gone q n i (r ∷ rs) [] h num lt = absurd h
both-at gone q n zero (r ∷ rs) (r' ∷ rs') h num lt = record { old = r; new = r'; old_is = refl; new_is = refl; numbered = omega (arith, num.0); ends = h.0 }
both-at gone q n (suc i) (r ∷ rs) (r' ∷ rs') h num lt =
    let later = both-at gone q (suc n) i rs rs' h.1 num.1 (omega (arith, lt)) in
    record { old = later.old; new = later.new; old_is = later.old_is; new_is = later.new_is; numbered = omega (arith, later.numbered); ends = later.ends }

module _ (told : CallEnds) (gone : Gone) (q0 : ℕ) (k : Journal) (delays : List Timer) (w : Waits) where
  slot-ended : (r r' : Record) (o : Option Frames) (b : Bool) → EndsIf b q0 r r' → slot_if b told k delays w r o → SlotKept told k delays w r' o
  slot-ended r r' o true ends h = subst (SlotKept told k delays w r') (sym h) (has-end r.end r'.end q0 ends.2)
  slot-ended r r' o false same h = slot-changed told k delays w w r r' o o (same.0.script, inl (same.0.end, refl)) (λ none b. refl) h

  slots-ended : (rs rs' : Records) (os : List (Option Frames)) → AreEnded gone q0 rs rs' → SlotsWith (SlotBut gone told k delays w) rs os → SlotsWith (SlotKept told k delays w) rs' os
  slots-ended [] [] [] ends h = tt
  slots-ended [] [] (o ∷ os) ends h = absurd h
  slots-ended [] (r' ∷ rs') os ends h = absurd ends
  slots-ended (r ∷ rs) [] os ends h = absurd ends
  slots-ended (r ∷ rs) (r' ∷ rs') [] ends h = absurd h
  slots-ended (r ∷ rs) (r' ∷ rs') (o ∷ os) ends h = (slot-ended r r' o (gone r.serial) ends.0 h.0, slots-ended rs rs' os ends.1 h.1)

  branches-ended : (rs rs' : Records) → AllPast (length k) rs' → AreNumbered 0 rs → AreEnded gone q0 rs rs' → (q : ℕ) → 0 < q → q ≤ 0 + length rs → left_branches gone told rs k q ≡ branches_with told rs' k q
  branches-ended rs rs' past num ends q low high =
      let both = both-at gone q0 0 (q - 1) rs rs' ends num (omega (arith, low, high)) in
      let own : both.old.serial ≡ q = omega (arith, both.numbered, low) in
      (λ i. left_if (gone (sym own i)) told rs k q)
      ∙ by both.old both.new both.old_is both.new_is (past-at (length k) rs' (q - 1) both.new past both.new_is) (gone both.old.serial) both.ends
    where
      by : (r r' : Record) → record_of rs q ≡ Some r → record_of rs' q ≡ Some r' → IsPast (length k) r' → (b : Bool) → EndsIf b q0 r r' → left_if b told rs k q ≡ branches_with told rs' k q
      by r r' e e' past true ended = sym (resting-with told k r' (ended-off (length k) (length k) (omega arith) r' (has-end r.end r'.end q0 ended.2) past)) ∙ (λ i. option_map_or (ready_with told k) (sym e' i) [])
      by r r' e e' past false same = (λ i. option_map_or (ready_with told k) (e i) []) ∙ same-branches told k r r' same.0 ∙ (λ i. option_map_or (ready_with told k) (sym e' i) [])

  -- LAW: the runs that went end, and all runs are kept
  pub gone-ended : (rs rs' : Records) (os : List (Option Frames)) (pairs : List (ℕ × Branch)) → AllPast (length k) rs' → AreNumbered 0 rs → AreEnded gone q0 rs rs'
      → RunsKept told gone k rs delays w os pairs → RunsKept told nobody k rs' delays w os pairs
  gone-ended rs rs' os pairs past num ends kept = record {
    slots = slots-ended rs rs' os ends kept.slots;
    pairs_are = kept.pairs_are ∙ pairs-same 0 (length rs) (left_branches gone told rs k) (branches_with told rs' k) (branches-ended rs rs' past num ends)
        ∙ (λ i. pairs_from 0 (same-length gone q0 rs rs' ends i) (branches_with told rs' k));
    held = kept.held;
  }
