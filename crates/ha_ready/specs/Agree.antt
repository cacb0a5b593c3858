-- Which runs have a Step at some places, and ready pairs that agree but for some runs.
use Rattle.std.specs.Prelude.{◌≡◌, ℕ, ◌<◌, ◌≤◌, Bool, false, not, ◌&&◌, nat_eq, List, length, slice_get}
use Rattle.std.specs.List.{list_any}
use Rattle.std.specs.Option.{option_map_or}
use Rattle.ha_journal.specs.Entries.{step_of}
use Rattle.ha_journal.specs.Journal.{Journal}
use Rattle.ha_sight.specs.Scripts.{Branch}
use Rattle.ha_model.specs.Records.{CallEnds, Records}
use Rattle.ha_ready.specs.ReadyPairs.{branches_with, pairs_from}

-- a Step of this run stands at place p
abbrev pub step_at : Journal → ℕ → ℕ → Bool
step_at j serial p = option_map_or (λ x. option_map_or (λ s. nat_eq s.serial serial) (step_of x) false) (slice_get j p) false

-- one of these places has a Step of the run
abbrev pub touched : Journal → List ℕ → ℕ → Bool
touched j places serial = list_any (step_at j serial) places

-- the pairs are those of these records at this journal, where called runs ended so, but for the runs that are left
pub record AgreesBut (told : CallEnds) (left : ℕ → Bool) (rs : Records) (j : Journal) (pairs : List (ℕ × Branch)) : Type 0 where
  pub by : ℕ → List Branch
  pub pairs_are : pairs ≡ pairs_from 0 (length rs) by
  pub agree : (s : ℕ) → 0 < s → s ≤ length rs → left s ≡ false → by s ≡ branches_with told rs j s

abbrev pub nobody : ℕ → Bool
nobody s = false

-- one run less
abbrev pub but : (ℕ → Bool) → ℕ → ℕ → Bool
but left s q = left q && not (nat_eq q s)
