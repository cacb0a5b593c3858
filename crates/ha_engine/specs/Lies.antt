-- Where the last segment of a journal stands, and how far it may go on.
use Rattle.std.specs.Prelude.{◌≡◌, ℕ, ◌+◌, ◌≤◌, ◌⊎◌, length}
use Rattle.ha_journal.specs.Journal.{Journal}
use Rattle.ha_whole.specs.Segments.{carried, front, segment, segments}
use Rattle.ha_whole.specs.Whole.{AreEntries, most_entries, most_in_segment, most_segments}
use Rattle.ha_engine.specs.declared.bounds.Bounds.{Bounds}

-- so many entries and runs stand before it
pub record Lies (j : Journal) (b : Bounds) : Type 0 where
  pub entries : AreEntries j
  pub few : length j ≤ most_entries
  pub front_is : b.front ≡ front j
  pub base_is : b.base ≡ carried (segment j)

-- the limit is that of the segment behind so many entries, or that of the journal, whichever is less
pub record IsLeast (limit front : ℕ) : Type 0 where
  pub own : limit ≤ front + most_in_segment
  pub all : limit ≤ most_entries
  pub is : (limit ≡ front + most_in_segment) ⊎ (limit ≡ most_entries)

-- and so far may it go on
pub record IsBounded (j : Journal) (b : Bounds) : Type 0 where
  pub segments_are : b.segments ≡ length (segments j)
  pub few : b.segments ≤ most_segments
  pub limit : IsLeast b.limit (front j)
  pub within : length j ≤ b.limit

-- the bounds of a segment that stands behind so many entries and runs, and is one of so many
pub record Follows (b : Bounds) (front base segments : ℕ) : Type 0 where
  pub front_is : b.front ≡ front
  pub base_is : b.base ≡ base
  pub segments_are : b.segments ≡ segments
  pub limit : IsLeast b.limit front
