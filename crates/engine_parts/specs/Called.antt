-- Where called runs ended as far as it is told, and who waits for which. While the records of an entry are told one after the other, the
-- engine's pairs are those by what is told; where all is told they are the definition's.
use Rattle.std.specs.Prelude.{◌≡◌, ℕ, suc, ◌-◌, ◌<◌, Bool, true, false, nat_eq, List, [], ◌∷◌, find, length, slice_get, Option, Some, None, option_map, option_to_list, if◌then◌else◌}
use Rattle.std.specs.Option.{option_map_or}
use Rattle.ha_config.specs.Words.{comes_before, or_else}
use Rattle.ha_journal.specs.Journal.{Journal, last_place}
use Rattle.ha_model.specs.declared.record.EndCause.{EndCause}
use Rattle.ha_model.specs.declared.record.Record.{Record}
use Rattle.ha_model.specs.Lawful.{is_running, record_of}
use Rattle.ha_model.specs.Records.{CallEnds, Records, spots}
use Rattle.ha_sight.specs.Scripts.{Ask, Branch}
use Rattle.script_calls.specs.Waiting.{Waiting, caller_of}
use Rattle.script_step.specs.declared.frames.Frames.{Frames}
use Rattle.script_step.specs.Gates.{Gate, Fronts, gate_at}
use Rattle.wait_set.specs.declared.asked.Asked.{Asked}
use Rattle.wait_set.specs.Asked.{finished, wait_of}
use Rattle.engine_parts.specs.Fronts.{fronts}

-- ---- where called runs ended

-- the first run whose attempt is at a place
abbrev pub run_at : ℕ → Records → Option Record
run_at p rs = find (λ r. nat_eq r.place p) rs

abbrev pub place_of : Option (ℕ × EndCause) → Option ℕ
place_of e = option_map (λ x. x.0) e

-- where a run ended; one that went, and is still to be ended, ends at the last place
abbrev pub ended_in : (ℕ → Bool) → Journal → Record → Option ℕ
ended_in gone k r = or_else (place_of r.end) (if gone r.serial then Some (last_place k) else None)

-- where called runs ended as far as it is told: of what the last entry called nothing is told before it has a run
abbrev pub told_by : (ℕ → Bool) → Journal → Records → CallEnds
told_by gone k rs p = option_map_or (ended_in gone k) (run_at p rs) (if nat_eq p (last_place k) then None else Some p)

-- the serial of the run that was called at a place; where there is none yet it is that of the next run
abbrev pub called_by : Records → ℕ → ℕ
called_by rs p = option_map_or (λ r. r.serial) (run_at p rs) (suc (length rs))

-- the same with the end of one more run at place q, if it had not ended
abbrev pub told_after : ℕ → ℕ → CallEnds → Records → CallEnds
told_after called q told rs p = or_else (told p) (if nat_eq (called_by rs p) called then Some q else None)

-- ---- who waits for them

-- a branch of run s that waits for a called run which has not ended is the one that waits for it
abbrev pub IsAwaited : CallEnds → Records → Waiting → ℕ → Branch × Gate → Type 0
IsAwaited told rs waiting s (b, Gate.Free) = Unit {0}
IsAwaited told rs waiting s (b, Gate.From due) = Unit {0}
IsAwaited told rs waiting s (b, Gate.Behind ask p) = ask.called ≡ true → told p ≡ None → caller_of (called_by rs p) waiting ≡ Some (s, b)

abbrev pub AreAwaited : CallEnds → Records → Waiting → ℕ → Fronts → Type 0
AreAwaited told rs waiting s [] = Unit {0}
AreAwaited told rs waiting s (x ∷ xs) = IsAwaited told rs waiting s x × AreAwaited told rs waiting s xs

-- of each live run with its frames this holds, by its serial; the first is that behind run n
abbrev pub EachSlot : (ℕ → Frames → Type 0) → ℕ → List (Option Frames) → Type 0
EachSlot P n [] = Unit {0}
EachSlot P n (None ∷ os) = EachSlot P (suc n) os
EachSlot P n (Some f ∷ os) = P (suc n) f × EachSlot P (suc n) os

-- so it is with the branches of a run
abbrev pub SlotAwaited : CallEnds → Records → Waiting → Journal → ℕ → Frames → Type 0
SlotAwaited told rs waiting k s f = AreAwaited told rs waiting s (fronts f (spots k s))

-- run s waits in branch b for a run that has not ended
pub record IsCaller (told : CallEnds) (k : Journal) (rs : Records) (os : List (Option Frames)) (called s : ℕ) (b : Branch) : Type 0 where
  pub low : 0 < s
  pub run : Record
  pub found : record_of rs s ≡ Some run
  pub running : is_running (length k) run ≡ true
  pub frames : Frames
  pub there : slice_get os (s - 1) ≡ Some (Some frames)
  pub ask : Ask
  pub place : ℕ
  pub gate : gate_at b (fronts frames (spots k s)) ≡ Some (Gate.Behind ask place)
  pub calls : ask.called ≡ true
  pub called_is : called ≡ called_by rs place
  pub opened : told place ≡ None

-- exactly these are known
pub record CallsKept (told : CallEnds) (k : Journal) (rs : Records) (waiting : Waiting) (os : List (Option Frames)) : Type 0 where
  pub awaited : EachSlot (SlotAwaited told rs waiting k) 0 os
  pub callers : (called s : ℕ) (b : Branch) → caller_of called waiting ≡ Some (s, b) → IsCaller told k rs os called s b

-- ---- the wait that ends with a run

-- the owner of the wait of a run in a branch, if there is one
abbrev pub owner_at : ℕ → Branch → List Asked → List ℕ
owner_at serial branch asks = option_to_list (option_map {T = Asked} {U = ℕ} (λ a. a.owner) (wait_of serial branch asks))

-- that of the wait for a run
abbrev pub woken_owners : ℕ → Waiting → List Asked → List ℕ
woken_owners called waiting asks = option_map_or (λ w. owner_at w.0 w.1 asks) (caller_of called waiting) []

-- the waits where the wait for a run has ended at place q
abbrev pub woken_asks : ℕ → ℕ → Waiting → List Asked → List Asked
woken_asks called q waiting asks = option_map_or (λ w. finished w.0 w.1 q asks) (caller_of called waiting) asks

-- ---- records that are told anew

-- the same run, which ends at place q where it went, unless it had ended; and runs where it ran if it did not go
pub record Alike (gone : ℕ → Bool) (q : ℕ) (r r' : Record) : Type 0 where
  pub serial : r.serial ≡ r'.serial
  pub place : r.place ≡ r'.place
  pub ends : place_of r'.end ≡ or_else (place_of r.end) (if gone r.serial then Some q else None)
  pub runs : (n : ℕ) → gone r.serial ≡ false → is_running n r ≡ true → is_running n r' ≡ true

abbrev pub AreAlike : (ℕ → Bool) → ℕ → Records → Records → Type 0
AreAlike gone q [] [] = Unit {0}
AreAlike gone q [] (r' ∷ rs') = ⊥
AreAlike gone q (r ∷ rs) [] = ⊥
AreAlike gone q (r ∷ rs) (r' ∷ rs') = Alike gone q r r' × AreAlike gone q rs rs'

-- ---- pairs

-- a branch among others in their order
abbrev pub placed : Branch → List Branch → List Branch
placed b [] = b ∷ []
placed b (c ∷ cs) = if comes_before c b then c ∷ placed b cs else b ∷ c ∷ cs
