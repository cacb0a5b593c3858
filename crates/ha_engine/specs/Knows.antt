-- What is known of the units where attempts are made.
use Rattle.std.specs.Prelude.{◌≡◌}
use Rattle.ha_journal.specs.Force.{force}
use Rattle.ha_journal.specs.Journal.{Journal, automations}
use Rattle.unit_book.specs.Book.{Holds}
use Rattle.engine_parts.specs.Numbers.{numbers_in}
use Rattle.ha_engine.specs.declared.prepare.Known.{Known}

-- the book says where the units of the journal stand, and the numbers are those of what is in force
pub record IsKnown (k : Journal) (n : Known) : Type 0 where
  pub holds : Holds n.journal.now (force k) n.book.now
  pub config_is : n.config.now.automations ≡ automations k
  pub numbers_are : n.numbers.now ≡ numbers_in k
