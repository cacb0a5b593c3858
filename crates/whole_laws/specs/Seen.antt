-- Where the last segment lies in the flat list.
use Rattle.std.specs.Prelude.{◌≡◌, List, ◌∷◌, ◌++◌, length, Some}
use Rattle.ha_journal.specs.declared.entry.Entry.{Entry}
use Rattle.ha_journal.specs.Entries.{Opening, boot_of}
use Rattle.ha_journal.specs.Journal.{Journal, configured}
use Rattle.ha_whole.specs.Segments.{carried, front, segment}
use Rattle.segment_view.specs.Views.{opened_as, seen_behind}

-- the segment's own Boot has the text and the zone of the journal's
pub record SameOpening (boot first : Entry) : Type 0 where
  pub b : Opening
  pub f : Opening
  pub boot_is : boot_of boot ≡ Some b
  pub first_is : boot_of first ≡ Some f
  pub text : b.text ≡ f.text
  pub zone : b.zone ≡ f.zone

-- the journal is what stands before the last segment, what opened it, and the entries behind that, as they are seen
pub record LiesIn (boot : Entry) (j : Journal) : Type 0 where
  pub before : List Entry
  pub opening : Entry
  pub settled : List Entry
  pub is : j ≡ before ++ (opening ∷ settled)
  pub front_is : length before ≡ front j
  pub same : SameOpening boot (opened_as boot (boot_of boot) (configured before) opening)
  pub seen : segment j ≡ seen_behind boot (configured before) opening settled (carried (segment j))
