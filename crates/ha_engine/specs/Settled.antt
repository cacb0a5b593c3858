-- A command that is settled behind entries of which a book holds what is in force.
use Rattle.std.specs.Prelude.{◌≡◌, Bool}
use Rattle.ha_journal.specs.declared.entry.Entry.{Entry}
use Rattle.ha_journal.specs.Commands.{lets_reload}
use Rattle.ha_journal.specs.Force.{Force}
use Rattle.ha_journal.specs.Journal.{Journal, configured, more}
use Rattle.unit_book.specs.declared.book.UnitBook.{UnitBook}
use Rattle.unit_book.specs.Book.{Holds}
use Rattle.helper_set.specs.declared.set.Helpers.{Helpers}
use Rattle.ha_engine.specs.Put.{KnowsHelpers}

-- the book holds the configuration in force after these entries
pub record IsSettled (j : Journal) (u : UnitBook) : Type 0 where
  pub f : Force
  pub holds : Holds j f u
  pub config_is : f.config ≡ configured j

pub record SettlesLast (k : Journal) (s : Helpers) (u : UnitBook) (lets : Bool) : Type 0 where
  pub j : Journal
  pub x : Entry
  pub journal_is : k ≡ more j x
  pub knows : KnowsHelpers s j
  pub settled : IsSettled j u
  pub lets_is : lets ≡ lets_reload j
