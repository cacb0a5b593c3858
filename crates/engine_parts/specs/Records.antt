-- The table of records while the records of an entry are told.
use Rattle.std.specs.Prelude.{◌≡◌, ℕ, ◌+◌, ◌<◌, ◌≤◌, vec_len, vec_capacity, Bool, true, false, ◌||◌, nat_eq, List, [], ◌∷◌, length, Some}
use Rattle.ha_config.specs.Words.{or_else}
use Rattle.ha_config.specs.declared.config.Action.{Action}
use Rattle.ha_model.specs.declared.record.Record.{Record}
use Rattle.ha_journal.specs.Journal.{Journal}
use Rattle.ha_sight.specs.Scripts.{Branch}
use Rattle.ha_model.specs.Records.{Records}
use Rattle.run_modes.specs.Fits.{AreNumbered}
use Rattle.engine_parts.specs.declared.parts.Parts.{Parts}
use Rattle.engine_parts.specs.Changes.{SameRun}
use Rattle.engine_parts.specs.Kept.{Gone}
use Rattle.ha_ready.specs.RunPast.{AllPast, SameScript}
use Rattle.engine_parts.specs.Called.{place_of}
use Rattle.ha_ready.specs.Agree.{step_at}

-- they are numbered, tell of the places of the journal alone, and nobody behind them made a step
pub record IsTable (k : Journal) (rs : Records) : Type 0 where
  pub numbered : AreNumbered 0 rs
  pub past : AllPast (length k) rs
  pub unstepped : (s p : ℕ) → length rs < s → step_at k s p ≡ false

-- the runs that went, and this one
abbrev pub also : Gone → ℕ → Gone
also gone s q = gone q || nat_eq q s

-- a run that went ended at place q, unless it had ended, and another is the same
abbrev pub EndsIf : Bool → ℕ → Record → Record → Type 0
EndsIf true q r r' = SameScript r r' × (r.place ≡ r'.place) × (place_of r'.end ≡ or_else (place_of r.end) (Some q))
EndsIf false q r r' = SameRun r r' × (r.place ≡ r'.place)

abbrev pub AreEnded : Gone → ℕ → Records → Records → Type 0
AreEnded gone q [] [] = Unit {0}
AreEnded gone q [] (r' ∷ rs') = ⊥
AreEnded gone q (r ∷ rs) [] = ⊥
AreEnded gone q (r ∷ rs) (r' ∷ rs') = EndsIf (gone r.serial) q r r' × AreEnded gone q rs rs'

-- there is room for the frames and a pair of so many runs more, and for a pair of each call that waits
abbrev pub HasRoom : ℕ → Parts → Type 0
HasRoom n p = (n ≤ p.frames.spare) × (vec_len p.ready.pairs + n + length p.calls ≤ vec_capacity p.ready.pairs)

-- the branches of a run that just begins
abbrev pub first_branches : List Action → List Branch
first_branches [] = []
first_branches (a ∷ rest) = [] ∷ []
