-- The table of the last segment's runs, as it stands behind the records of closed segments.
use Rattle.std.specs.Prelude.{◌≡◌, ℕ, ◌-◌, ◌<◌, ◌≤◌, ◌^◌, ◌++◌, List, length, take, drop, map, option_map, slice_index_or}
use Rattle.ha_model.specs.declared.record.Record.{Record}
use Rattle.ha_model.specs.Records.{Records}
use Rattle.run_modes.specs.Fits.{AreNumbered}
use Rattle.segment_runs.specs.Goes.{AllEnded, moved_all}

-- what closed segments left: their records, how many entries they have, and for each unit of the last segment, by its number there, how
-- many runs of its name they have
pub record Closed : Type 0 where
  pub records : Records
  pub entries : ℕ
  pub numbers : List ℕ

-- what a table is: the records of its segment alone, for how many more attempts it has room, and what closed segments left
pub record SegmentTable : Type 0 where
  pub list : Records
  pub spare : ℕ
  pub closed : Closed

-- how many runs closed segments have of a unit's name
abbrev pub number_at : List ℕ → ℕ → ℕ
number_at numbers a = slice_index_or numbers a 0

-- the records of all segments, where these are the last one's own: its serials, numbers and places go on
abbrev pub all_of : Closed → Records → Records
all_of c own = c.records ++ moved_all c.entries (length c.records) (number_at c.numbers) own

-- ---- what the one list of all says

-- a record as its segment alone has it, behind so many entries and runs, and so many runs of its unit's name
abbrev pub taken_back : ℕ → ℕ → (ℕ → ℕ) → Record → Record
taken_back n base num r = record r {
  serial = r.serial - base;
  number = r.number - num r.automation;
  place = r.place - n;
  begin = option_map (λ p. p - n) r.begin;
  end = option_map (λ e. (e.0 - n, e.1)) r.end;
}

-- what closed segments left, where they have so many entries and runs, and so many runs of each name; and the own records of the last one
abbrev pub closed_in : ℕ → ℕ → List ℕ → Records → Closed
closed_in front base numbers rs = record { records = take base rs; entries = front; numbers = numbers }

abbrev pub own_in : ℕ → ℕ → List ℕ → Records → Records
own_in front base numbers rs = map {A = Record} {B = Record} (taken_back front base (number_at numbers)) (drop base rs)

-- these are the records of all segments, numbered from 1, of which those of closed ones have ended
pub record Splits (rs : Records) (c : Closed) (own : Records) : Type 0 where
  pub is : rs ≡ all_of c own
  pub ended : AllEnded c.records
  pub numbered : AreNumbered 0 rs

pub record StandsOver (front base : ℕ) (numbers : List ℕ) (rs : Records) : Type 0 where
  pub splits : Splits rs (closed_in front base numbers rs) (own_in front base numbers rs)
  pub within : base ≤ length rs
  pub most : front < 2 ^ 63
