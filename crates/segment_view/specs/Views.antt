-- The last segment of a journal as it lies in the list of all entries.
use Rattle.std.specs.Prelude.{◌≡◌, ◌+◌, ◌<◌, ◌^◌, ◌++◌, ℕ, length, Bool, true, false, nat_eq, List, [], ◌∷◌, drop, take, map, Option, Some, None, slice_get}
use Rattle.std.specs.Option.{option_map_or}
use Rattle.ha_config.specs.declared.config.Automation.{Automation}
use Rattle.ha_config.specs.declared.config.Config.{Config}
use Rattle.ha_config.specs.declared.config.Script.{Script}
use Rattle.ha_journal.specs.declared.entry.Entry.{Entry}
use Rattle.ha_journal.specs.Entries.{Opening, IsBoot, again_in, boot_of, step_of}
use Rattle.ha_journal.specs.Force.{IsAlike, force}
use Rattle.ha_journal.specs.Journal.{HasEntry, Journal, configured, helpers, in_force, more}
use Rattle.ha_whole.specs.Segments.{boot_again, counted_from}
use Rattle.unit_book.specs.declared.book.UnitBook.{UnitBook}
use Rattle.unit_book.specs.Book.{Holds, config_at}

-- what opens it, as a Boot: the boot of the journal itself, or an Again with that one's text and zone and the configuration in force there
abbrev pub opened_as : Entry → Option Opening → Config → Entry → Entry
opened_as boot None config opening = boot
opened_as boot (Some b) config opening = option_map_or (λ a. boot_again a b config) (again_in opening) boot

-- the segment that an entry opens, with the entries behind it, where this configuration was in force and so many runs stand before: read
-- alone
abbrev pub seen_behind : Entry → Config → Entry → List Entry → ℕ → Journal
seen_behind boot config opening settled base = opened_as boot (boot_of boot) config opening ∷ map {A = Entry} {B = Entry} (counted_from base) settled

abbrev pub seen_from : Entry → Config → List Entry → ℕ → Journal
seen_from boot config [] base = []
seen_from boot config (opening ∷ settled) base = seen_behind boot config opening settled base

-- of the list of all entries, the segment that has so many entries and so many runs before it
abbrev pub seen_at : Journal → ℕ → ℕ → Journal
seen_at [] front base = []
seen_at (boot ∷ es) front base = seen_from boot (configured (take front (boot ∷ es))) (drop front (boot ∷ es)) base

-- such entries: a Boot, and no more than so many, so that the place of any of them has room for those before the segment
pub record IsSeen (boot : Entry) (settled : List Entry) : Type 0 where
  pub boots : IsBoot boot
  pub few : length settled + 1 < 2 ^ 56

-- the first entry is a Boot
abbrev pub HasBoot : Journal → Type 0
HasBoot [] = ⊥
HasBoot (e ∷ es) = IsBoot e

-- ---- what is in force

-- a book of the list of all entries holds what is in force after a segment
pub record IsHeld (es : List Entry) (j : Journal) (b : UnitBook) : Type 0 where
  pub some : HasEntry j
  pub holds : Holds es (force j) b

-- so it does, and the helpers of the segment are those of the boot, which stands first
pub record HoldsBehind (es : List Entry) (j : Journal) (b : UnitBook) : Type 0 where
  pub held : IsHeld es j b
  pub boots : HasBoot es
  pub helpers_are : (c : Config) → config_at es 0 ≡ Some c → c.helpers ≡ helpers j

-- it holds what is in force after the segment with the last entry, which has so many entries and so many runs before it
pub record HoldsLast (es : List Entry) (front base : ℕ) (b : UnitBook) : Type 0 where
  pub j : Journal
  pub x : Entry
  pub journal_is : es ≡ more j x
  pub holds : Holds es (force (more (seen_at j front base) x)) b

-- the numbers of the units in force, automations first, as configured
abbrev pub numbers_in : Journal → List ℕ
numbers_in j = map {A = ℕ × Automation} {B = ℕ} (λ p. p.0) (in_force j) ++ map {A = ℕ × Script} {B = ℕ} (λ p. p.0) (force j).scripts

-- the configuration in force after a segment, and the numbers of its units
pub record IsShown (j : Journal) (config : Config) (numbers : List ℕ) : Type 0 where
  pub some : HasEntry j
  pub config_is : IsAlike config (configured j)
  pub numbers_are : numbers ≡ numbers_in j

-- this number stands there
abbrev pub stands : ℕ → Option ℕ → Bool
stands a o = option_map_or (λ m. nat_eq m a) o false

-- ---- steps

-- a Step of this run stands at place p
abbrev pub step_at : Journal → ℕ → ℕ → Bool
step_at j serial p = option_map_or (λ x. option_map_or (λ s. nat_eq s.serial serial) (step_of x) false) (slice_get j p) false

-- the answer is the run whose Step stands there, or that there is none
abbrev pub IsStepper : Journal → ℕ → Option ℕ → Type 0
IsStepper j p None = (s : ℕ) → step_at j s p ≡ false
IsStepper j p (Some serial) = step_at j serial p ≡ true
