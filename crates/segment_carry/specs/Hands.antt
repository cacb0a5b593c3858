-- What the opening of a journal's last segment tells of the whole journal.
use Rattle.std.specs.Prelude.{◌≡◌, ◌+◌, ◌<◌, ℕ, suc, true, ◌||◌, List, [], ◌∷◌, ◌++◌, length, count_by, nat_eq, slice_index}
use Rattle.std.specs.List.{list_any}
use Rattle.ha_config.specs.Names.{name_of}
use Rattle.ha_config.specs.Sound.{are_in_name_order}
use Rattle.ha_journal.specs.declared.entry.Entry.{Entry}
use Rattle.ha_journal.specs.Entries.{BeginsSegment, is_again}
use Rattle.ha_journal.specs.Journal.{Journal, units}
use Rattle.ha_model.specs.Lawful.{is_line_of, shuts}
use Rattle.ha_model.specs.Records.{Records, has_name}
use Rattle.ha_whole.specs.Segments.{cut, front, segment}
use Rattle.ha_whole.specs.Whole.{numbers_carried, records_from}
use Rattle.segment_carry.specs.Sources.{carry_in}

-- the records of the segments that a Restart closed
abbrev pub closed_of : Journal → Records
closed_of k = records_from 0 (cut k).closed

-- the number of each of these records, behind others, is one more than how many of its unit's name stand before it
abbrev pub Counted : Journal → Records → Records → Type 0
Counted s before [] = Unit {0}
Counted s before (r ∷ rs) = (r.number ≡ suc (count_by (has_name s (name_of (units s) r.automation)) before)) × Counted s (before ++ (r ∷ [])) rs

-- the journal is what stands before its last segment, what opened that, and the entries behind the opening. What the opening took over of
-- sources, and those entries, tell how many lines each source gave and which of them have no further line; what it took over of runs is
-- what the segment has of it, in the order of the names
pub record Hands (k : Journal) : Type 0 where
  pub before : List Entry
  pub opening : Entry
  pub behind : List Entry
  pub is : k ≡ before ++ (opening ∷ behind)
  pub front_is : length before ≡ front k
  pub opens : BeginsSegment opening
  pub lines : (s : ℕ) → s < 16 → count_by (is_line_of s) k ≡ slice_index (carry_in opening).lines s + count_by (is_line_of s) behind
  pub shut : (s : ℕ) → s < 16 → list_any (shuts s) k ≡ (list_any (nat_eq s) (carry_in opening).shut || list_any (shuts s) behind)
  pub agains : count_by is_again k ≡ length (cut k).closed
  pub carried : numbers_carried (segment k) ≡ (carry_in opening).numbers
  pub ordered : are_in_name_order (carry_in opening).numbers ≡ true
