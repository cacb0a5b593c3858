-- A configuration that comes into force.
use Rattle.std.specs.Prelude.{◌≡◌, ◌<◌, ◌^◌, ℕ, List, length, take, Some}
use Rattle.ha_config.specs.declared.config.Automation.{Automation}
use Rattle.ha_config.specs.declared.config.Config.{Config}
use Rattle.ha_config.specs.Names.{names_of}
use Rattle.ha_config.specs.Sound.{IsSoundConfig}
use Rattle.ha_config.specs.Units.{units_of}
use Rattle.ha_journal.specs.declared.entry.Entry.{Entry}
use Rattle.ha_journal.specs.Entries.{reload_in}
use Rattle.ha_journal.specs.Force.{force, reloaded}
use Rattle.ha_journal.specs.Journal.{Journal, more, units}
use Rattle.unit_book.specs.declared.book.UnitBook.{UnitBook}
use Rattle.unit_book.specs.Book.{AreAt, Holds, Origin, config_at, firsts_of, numbers_in}

-- units stand at these origins, and of their names so many firsts are known
pub record IsMade (es : List Entry) (os : List Origin) (known : List ℕ) : Type 0 where
  pub us : List Automation
  pub units_are : AreAt es os us
  pub few : length us < 2 ^ 32
  pub known_are : known ≡ take (length known) (firsts_of (names_of us))

-- the configuration at a place is to be in force, and its units have as many numbers
pub record Opens (es : List Entry) (at : ℕ) (numbers : List ℕ) : Type 0 where
  pub c : Config
  pub config_is : config_at es at ≡ Some c
  pub sound : IsSoundConfig c
  pub numbered : length numbers ≡ length (units_of c)

-- a Reload stands last, behind which the units in force have these numbers; the book holds what was in force after a segment before it
pub record Reloads (es : List Entry) (numbers : List ℕ) (b : UnitBook) : Type 0 where
  pub j : Journal
  pub s : Journal
  pub x : Entry
  pub c : Config
  pub journal_is : es ≡ more j x
  pub reloads : reload_in x ≡ Some c
  pub sound : IsSoundConfig c
  pub holds : Holds j (force s) b
  pub numbers_are : numbers ≡ numbers_in (reloaded (force s) c)
  pub few : length (reloaded (force s) c).units < 2 ^ 32
