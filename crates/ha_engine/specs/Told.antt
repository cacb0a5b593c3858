-- What stands for a whole journal.
use Rattle.std.specs.Prelude.{◌≡◌, ◌<◌, ℕ, suc, Bool, List, Option, Some, length, slice_get}
use Rattle.ha_config.specs.Names.{name_of}
use Rattle.ha_journal.specs.Force.{force}
use Rattle.ha_journal.specs.Journal.{Journal, units}
use Rattle.ha_model.specs.Records as alone
use Rattle.ha_model.specs.Lawful as alone_right
use Rattle.ha_whole.specs.Lasts.{last_triggered}
use Rattle.ha_whole.specs.Segments.{carried_number, cut, front, segment}
use Rattle.ha_whole.specs.Whole.{Right, records_from}
use Rattle.segment_runs.specs.Segment.{all_of, number_at}
use Rattle.named_runs.specs.Named.{NamedTable, first_in}
use Rattle.unit_book.specs.declared.book.UnitBook.{UnitBook}
use Rattle.unit_book.specs.Book.{Holds}
use Rattle.engine_parts.specs.declared.parts.Parts.{Parts}
use Rattle.engine_parts.specs.Kept.{Kept}
use Rattle.ha_engine.specs.declared.bounds.Bounds.{Bounds}
use Rattle.ha_engine.specs.Lies.{IsBounded, Lies}
use Rattle.ha_engine.specs.Noted.{changes_switches}

-- the runs of the last segment, read alone, behind the records of closed ones, of which so many are of each unit's name
pub record AreRuns (j : Journal) (t : NamedTable) : Type 0 where
  pub own : t.list ≡ alone.records_of (segment j)
  pub records : t.closed.records ≡ records_from 0 (cut j).closed
  pub entries : t.closed.entries ≡ front j
  pub numbers : (a : ℕ) → a < length (units (segment j)) → number_at t.closed.numbers a ≡ carried_number (segment j) (name_of (units (segment j)) a)

-- also where memory ran out
pub record IsTold (j : Journal) (b : Bounds) (u : UnitBook) (t : NamedTable) : Type 0 where
  pub right : Right j (all_of t.closed t.list)
  pub own_right : alone_right.Right (segment j) t.list
  pub runs : AreRuns j t
  pub lies : Lies j b
  pub bounded : IsBounded j b
  pub holds : Holds j (force (segment j)) u

-- by the first unit of a name, when it last triggered
pub record AreLasts (s : Journal) (u : UnitBook) (lasts : List (Option ℕ)) : Type 0 where
  pub whole : length lasts ≡ length (units s)
  pub last : (a : ℕ) → a < length (units s) → slice_get lasts (first_in u.firsts.items a) ≡ Some (last_triggered s (name_of (units s) a))

-- as long as it does not
pub record IsFollowed (j : Journal) (u : UnitBook) (t : NamedTable) (p : Parts) (lasts : List (Option ℕ)) (reset : Bool) : Type 0 where
  pub kept : Kept (segment j) t.list p
  pub firsts_are : t.firsts ≡ u.firsts.items
  pub lasts_are : AreLasts (segment j) u lasts
  pub reset_is : length j ≡ suc (front j) → changes_switches j ≡ reset
