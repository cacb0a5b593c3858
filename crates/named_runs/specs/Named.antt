-- A table of runs that are numbered by the names of their units.
use Rattle.std.specs.Prelude.{◌≡◌, ◌+◌, ◌<◌, ◌^◌, ℕ, suc, true, nat_eq, nat_lt, List, count_by, length, map, slice_get, slice_index_or, unwrap_or}
use Rattle.std.specs.List.{list_all}
use Rattle.ha_config.specs.Words.{up_to}
use Rattle.ha_model.specs.Records.{Records}
use Rattle.segment_runs.specs.Segment.{Closed, SegmentTable, number_at}

-- what a table is: the records of its segment alone, for how many more attempts it has room, what closed segments left, and for each unit
-- the first one of its name
pub record NamedTable : Type 0 where
  pub list : Records
  pub spare : ℕ
  pub closed : Closed
  pub firsts : List ℕ

-- the first unit of the name of unit a
abbrev pub first_in : List ℕ → ℕ → ℕ
first_in firsts a = unwrap_or (slice_get firsts a) a

-- how many of these are runs of units that have unit n as the first of their name
abbrev pub runs_named : List ℕ → ℕ → Records → ℕ
runs_named firsts n rs = count_by (λ r. nat_eq (first_in firsts r.automation) n) rs

-- by unit the number of the last run of its name, over all segments, and 0 where there is none
abbrev pub last_of : List ℕ → Closed → Records → List ℕ
last_of firsts closed rs = map {A = ℕ} {B = ℕ} (λ a. number_at closed.numbers a + runs_named firsts (first_in firsts a) rs) (up_to (length firsts))

-- the units are known, and the runs are counted by the first unit of a name
pub record IsCounted (firsts counts : List ℕ) (t : SegmentTable) : Type 0 where
  pub whole : length counts ≡ length firsts
  pub within : list_all (λ n. nat_lt n (length firsts)) firsts ≡ true
  pub known : list_all (λ r. nat_lt r.automation (length firsts)) t.list ≡ true
  pub counted : (n : ℕ) → n < length counts → slice_index_or counts n 0 ≡ runs_named firsts n t.list
  pub small : (a : ℕ) → number_at t.closed.numbers a < 2 ^ 62

-- the firsts of more units, where those that were there have the same
pub record GoesOn (old new : List ℕ) : Type 0 where
  pub within : list_all (λ n. nat_lt n (length new)) new ≡ true
  pub longer : length old < suc (length new)
  pub alike : (a : ℕ) → a < length old → slice_get new a ≡ slice_get old a
