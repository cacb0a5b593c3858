-- Runs that are stopped: those of an automation, or all.
use Rattle.std.proofs.Common.{◌≡◌, ℕ, suc, ◌-◌, ◌<◌, [], ◌∷◌, length, Bool, true, false, refl, sym, ap, subst, ◌∙◌, arith}
use Rattle.std.specs.Prelude.{Option, Some, None, is_none, nat_eq, nat_lt, ◌&&◌, if◌then◌else◌}
use Rattle.std.specs.Option.{option_map_or}
use Rattle.ha_model.specs.declared.record.EndCause.{EndCause}
use Rattle.ha_model.specs.declared.record.Record.{Record}
use Rattle.ha_config.specs.Words.{or_else}
use Rattle.ha_journal.specs.Journal.{Journal, last_place}
use Rattle.ha_model.specs.Records.{CallEnds, Records}
use Rattle.run_modes.specs.Fits.{AreNumbered}
use Rattle.run_modes.specs.Table.{end_one, is_live, is_stopped, live_of, stopped}
use Rattle.segment_runs.specs.Goes.{AllEnded}
use Rattle.ha_ready.specs.RunPast.{AllPast, BeginBefore, IsPast}
use Rattle.engine_parts.specs.declared.parts.Parts.{Parts}
use Rattle.ha_engine.specs.Admits.{are_in}
use Rattle.engine_parts.specs.Changes.{SameRun}
use Rattle.engine_parts.specs.Called.{place_of, told_by}
use Rattle.engine_parts.specs.Kept.{Going, Gone, RunsKept, nobody}
use Rattle.engine_parts.specs.Records.{AreEnded, EndsIf, IsTable}
use Rattle.engine_parts.proofs.ToldLemmas.{ended-alike, told-alike}
use Rattle.engine_parts.proofs.CalledLemmas.{calls-alike}
use Rattle.engine_parts.proofs.GoneLemmas.{gone-ended}
use Rattle.ha_engine.proofs.LiveLemmas.{AreLive, all-live}

-- ---- one record

-- the record as it is, or stopped
abbrev one_stopped : Bool → ℕ → EndCause → Record → Record
one_stopped b place cause r = if b then end_one true place cause r else r

numbered-one : (b : Bool) (place : ℕ) (cause : EndCause) (r : Record) → (one_stopped b place cause r).serial ≡ r.serial
numbered-one true place cause r = refl
numbered-one false place cause r = refl

past-one : (b : Bool) (n place : ℕ) (cause : EndCause) (r : Record) → place < n → IsPast n r → IsPast n (one_stopped b place cause r)
past-one true n place cause r lt h = record { place = h.place; begin = begins (nat_lt r.place place && option_map_or (λ b. nat_eq b place) r.begin false); end = lt }
  where
    begins : (c : Bool) → BeginBefore n (if c then None else r.begin)
    begins true = tt
    begins false = h.begin
past-one false n place cause r lt h = h

same-run : (r : Record) → SameRun r r
same-run r = record { script = record { serial = refl; automation = refl; env = refl }; begin = refl; end = refl }

-- ---- all of them

pub numbered-stopped : (which : Option ℕ) (place : ℕ) (cause : EndCause) (n : ℕ) (rs : Records) → AreNumbered n rs → AreNumbered n (stopped which place cause rs)
numbered-stopped which place cause n [] h = tt
numbered-stopped which place cause n (r ∷ rs) h = (numbered-one (is_stopped which r) place cause r ∙ h.0, numbered-stopped which place cause (suc n) rs h.1)

pub length-stopped : (which : Option ℕ) (place : ℕ) (cause : EndCause) (rs : Records) → length (stopped which place cause rs) ≡ length rs
length-stopped which place cause [] = refl
length-stopped which place cause (r ∷ rs) = ap suc (length-stopped which place cause rs)

pub past-stopped : (which : Option ℕ) (place : ℕ) (cause : EndCause) (n : ℕ) (rs : Records) → place < n → AllPast n rs → AllPast n (stopped which place cause rs)
past-stopped which place cause n [] lt h = tt
past-stopped which place cause n (r ∷ rs) lt h = (past-one (is_stopped which r) n place cause r lt h.0, past-stopped which place cause n rs lt h.1)

-- LAW: they are a table again
pub stopped-table : (k : Journal) (which : Option ℕ) (place : ℕ) (cause : EndCause) (rs : Records) → place < length k → IsTable k rs → IsTable k (stopped which place cause rs)
stopped-table k which place cause rs lt table = record {
  numbered = numbered-stopped which place cause 0 rs table.numbered;
  past = past-stopped which place cause (length k) rs lt table.past;
  unstepped = λ s p behind. table.unstepped s p (omega (arith, behind, length-stopped which place cause rs));
}

none-of : {X : Type 0} (o : Option X) → is_none o ≡ true → o ≡ None
none-of None h = refl
none-of (Some x) h = absurd (let bad : ◌≡◌ {A = Bool} false true = h in cc)

both : (p q : Bool) → (p && q) ≡ true → (p ≡ true) × (q ≡ true)
both true q e = (refl, e)
both false q e = absurd (let bad : ◌≡◌ {A = Bool} false true = e in cc)

ends-one : (b : Bool) (place : ℕ) (cause : EndCause) (r : Record) → (b ≡ true → r.end ≡ None) → EndsIf b place r (one_stopped b place cause r)
ends-one true place cause r live = (record { serial = refl; automation = refl; env = refl }, refl, (λ i. or_else (place_of (sym (live refl) i)) (Some place)))
ends-one false place cause r live = (same-run r, refl)

stopped-each : (gone : Gone) (a place : ℕ) (cause : EndCause) (rs : Records) → AreLive gone a rs → AreEnded gone place rs (stopped (Some a) place cause rs)
stopped-each gone a place cause [] h = tt
stopped-each gone a place cause (r ∷ rs) h =
    (subst (λ b. EndsIf b place r (one_stopped (is_live a r) place cause r)) (sym h.0) (ends-one (is_live a r) place cause r (λ is. none-of r.end (both (nat_eq r.automation a) (is_none r.end) is).1)), stopped-each gone a place cause rs h.1)

-- LAW: the live runs of an automation end, and the others are the same
pub stopped-ended : (a place : ℕ) (cause : EndCause) (rs : Records) → AreNumbered 0 rs → AreEnded (are_in (live_of a rs)) place rs (stopped (Some a) place cause rs)
stopped-ended a place cause rs num = stopped-each (are_in (live_of a rs)) a place cause rs (all-live a 0 rs num)

-- ---- the parts

-- LAW: where those that went end at the last place, the parts stand for the records behind
pub going-ended : (gone : Gone) (k : Journal) (rs rs' : Records) (p : Parts) → IsTable k rs' → AreNumbered 0 rs → AreEnded gone (last_place k) rs rs' → Going gone k rs p → Going nobody k rs' p
going-ended gone k rs rs' p table num ends going = record {
  sees = going.sees;
  triggers_stand = going.triggers_stand;
  waits_stand = going.waits_stand;
  owned = going.owned;
  keys_early = going.keys_early;
  runs_kept = subst (λ (told : CallEnds). RunsKept told nobody k rs' p.delays p.waits p.frames.items p.ready.pairs.items) (told-alike gone k rs rs' (ended-alike gone (last_place k) rs rs' ends))
      (gone-ended (told_by gone k rs) gone (last_place k) k p.delays p.waits rs rs' p.frames.items p.ready.pairs.items table.past num ends going.runs_kept);
  calls_kept = calls-alike gone k rs rs' p.delays p.waits p.frames.items p.calls num (ended-alike gone (last_place k) rs rs' ends) going.runs_kept.slots going.calls_kept;
}

-- LAW: where all are stopped, all have ended
pub all-stopped : (place : ℕ) (cause : EndCause) (rs : Records) → AllEnded (stopped None place cause rs)
all-stopped place cause [] = tt
all-stopped place cause (r ∷ rs) = (one (is_none r.end) refl, all-stopped place cause rs)
  where
    one : (b : Bool) → is_none r.end ≡ b → is_none (one_stopped b place cause r).end ≡ false
    one true e = refl
    one false e = e
