-- An entry that was pushed to the list of all entries, and what becomes of it.
use Rattle.std.specs.Prelude.{◌≡◌, ◌+◌, ℕ, false, List, Option, Some}
use Rattle.ha_journal.specs.declared.entry.Entry.{Entry}
use Rattle.ha_journal.specs.declared.entry.Entry.TheVariants.{Step}
use Rattle.ha_journal.specs.Entries.{is_restart}
use Rattle.ha_journal.specs.Force.{force}
use Rattle.ha_journal.specs.Journal.{Journal, helpers, more}
use Rattle.ha_sight.specs.declared.item.Item.{Item}
use Rattle.ha_sight.specs.declared.steps.Progress.{Progress}
use Rattle.ha_sight.specs.declared.waiting.WaitAsk.{WaitAsk}
use Rattle.ha_sight.specs.Scripts.{Branch}
use Rattle.ha_model.specs.Records.{Records}
use Rattle.ha_model.specs.Lawful.{Right, pick, ready}
use Rattle.ha_whole.specs.Segments.{segment}
use Rattle.helper_set.specs.declared.set.Helpers.{Helpers}
use Rattle.helper_set.specs.Kept.{StandsFor}
use Rattle.unit_book.specs.declared.book.UnitBook.{UnitBook}
use Rattle.unit_book.specs.Book.{Holds}
use Rattle.engine_parts.specs.declared.parts.Parts.{Parts}
use Rattle.engine_parts.specs.Kept.{Kept}
use Rattle.engine_parts.specs.Stages.{Pushed}
use Rattle.engine_entry.specs.Stepping.{StepPushed}
use Rattle.ha_engine.specs.declared.bounds.Bounds.{Bounds}
use Rattle.ha_engine.specs.Lies.{Lies}
use Rattle.ha_engine.specs.Named.{AreFirsts}

-- the helpers stand for the last segment, and are those of the configuration
pub record KnowsHelpers (s : Helpers) (j : Journal) : Type 0 where
  pub stand : StandsFor s (segment j)
  pub same : helpers (segment j) ≡ helpers j

-- a line was pushed to it that is no restart, which nothing knows of yet
pub record Adds (k : Journal) (b : Bounds) (u : UnitBook) (firsts : List ℕ) (rs : Records) (p : Parts) : Type 0 where
  pub j : Journal
  pub x : Entry
  pub journal_is : k ≡ more j x
  pub stays : is_restart x ≡ false
  pub lies : Lies j b
  pub holds : Holds k (force (more (segment j) x)) u
  pub named : AreFirsts (more (segment j) x) firsts
  pub pushed : Pushed (more (segment j) x) rs p

-- a step was pushed to it, whose run counts from the segment's first
pub record Makes (k : Journal) (b : Bounds) (u : UnitBook) (firsts : List ℕ) (rs : Records) (p : Parts) (progress : Progress) (wait : Option WaitAsk) (due : Option ℕ) : Type 0 where
  pub j : Journal
  pub x : Entry
  pub journal_is : k ≡ more j x
  pub lies : Lies j b
  pub holds : Holds k (force (more (segment j) x)) u
  pub named : AreFirsts (more (segment j) x) firsts
  pub pushed : StepPushed (more (segment j) x) rs p progress wait due

-- the journal has the step that the worker picks, whose run counts from the first of all; of the segment alone records and parts stand for
-- it, where the run counts from the segment's first
abbrev pub IsAdvanced : ℕ → ℕ → Records → Records → Parts → Journal → Journal → Type 0
IsAdvanced worker base rs rs' p' j k =
    (serial : ℕ) × (branch : Branch) × (item : Item)
    × (pick worker (ready rs (segment j)) ≡ Some (serial, branch)) × (k ≡ more j (Step worker (base + serial) branch item))
    × Right (more (segment j) (Step worker serial branch item)) rs' × Kept (more (segment j) (Step worker serial branch item)) rs' p'
