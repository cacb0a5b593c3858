-- A reload that was pushed to the list of all entries, and what becomes of it.
use Rattle.std.specs.Prelude.{◌≡◌, ◌<◌, ◌^◌, ◌+◌, ℕ, suc, Bool, true, false, List, [], ◌∷◌, length, map, replicate, slice_get, slice_set, Option, Some, option_map, if◌then◌else◌}
use Rattle.std.specs.Option.{option_map_or}
use Rattle.ha_config.specs.declared.config.Config.{Config}
use Rattle.ha_config.specs.Names.{name_of}
use Rattle.ha_config.specs.Sound.{IsSoundConfig}
use Rattle.ha_config.specs.Words.{Text}
use Rattle.ha_config.specs.declared.command.Cmd.TheVariants.{Reload}
use Rattle.ha_journal.specs.declared.carry.Carry.{Carry}
use Rattle.ha_journal.specs.declared.entry.Entry.{Entry}
use Rattle.ha_journal.specs.declared.entry.Entry.TheVariants.{Line}
use Rattle.ha_journal.specs.Commands.{IsFair}
use Rattle.ha_journal.specs.Entries.{BeginsSegment, reload_in}
use Rattle.ha_journal.specs.Force.{IsAlike, force, reloaded}
use Rattle.ha_journal.specs.Journal.{Journal, configured, more, units}
use Rattle.ha_model.specs.Lawful as alone
use Rattle.ha_model.specs.Records.{Records}
use Rattle.ha_whole.specs.Lasts.{lasts_carried}
use Rattle.ha_whole.specs.Segments.{carried_number, segment}
use Rattle.conf_reload.specs.declared.outcome.Plan.{Plan}
use Rattle.conf_reload.specs.Plan.{IsPlan}
use Rattle.ha_whole.specs.Whole.{numbers_carried}
use Rattle.segment_carry.specs.ByName.{rule_order}
use Rattle.segment_carry.specs.Sources.{carry_in}
use Rattle.segment_runs.specs.Segment.{number_at}
use Rattle.named_runs.specs.Named.{NamedTable}
use Rattle.unit_book.specs.declared.book.UnitBook.{UnitBook}
use Rattle.unit_book.specs.Book.{Holds, config_at, numbers_in}
use Rattle.engine_parts.specs.declared.parts.Parts.{Parts}
use Rattle.engine_parts.specs.Kept.{Kept}
use Rattle.engine_parts.specs.Numbers.{AreFew}
use Rattle.ha_engine.specs.declared.bounds.Bounds.{Bounds}
use Rattle.ha_engine.specs.declared.reload.Reloaded.{Reloaded}
use Rattle.ha_engine.specs.Noted.{known_lasts}
use Rattle.ha_engine.specs.Told.{AreLasts, IsTold}

-- ---- marks

-- of so many places those are marked that are among these
abbrev pub marked : List ℕ → List Bool → List Bool
marked [] marks = marks
marked (n ∷ ns) marks = marked ns (slice_set marks n true)

abbrev pub marks_of : List ℕ → ℕ → List Bool
marks_of numbers count = marked numbers (replicate count false)

-- the places that are not marked, counted from n on
abbrev pub unmarked : ℕ → List Bool → List ℕ
unmarked n [] = []
unmarked n (m ∷ ms) = if m then unmarked (suc n) ms else n ∷ unmarked (suc n) ms

-- ---- what an opening took over

abbrev pub carry_found : List Entry → ℕ → Option Carry
carry_found es front = option_map carry_in (slice_get es front)

abbrev pub lasts_at : List Entry → ℕ → List (Text × ℕ)
lasts_at es front = option_map_or (λ (c : Carry). c.last) (carry_found es front) []

abbrev pub numbers_at : List Entry → ℕ → List (Text × ℕ)
numbers_at es front = option_map_or (λ (c : Carry). c.numbers) (carry_found es front) []

-- ---- the reload

-- it was pushed, and nothing knows of it yet
pub record AddsReload (k : Journal) (b : Bounds) (u : UnitBook) (t : NamedTable) (p : Parts) (lasts : List (Option ℕ)) : Type 0 where
  pub j : Journal
  pub source : ℕ
  pub number : ℕ
  pub text : Text
  pub config : Config
  pub journal_is : k ≡ more j (Line source number (Reload text (Some config)))
  pub known : source < 16
  pub fair : IsFair j (Reload text (Some config))
  pub sound : IsSoundConfig config
  pub told : IsTold j b u t
  pub kept : Kept (segment j) t.list p
  pub firsts_are : t.firsts ≡ u.firsts.items
  pub lasts_are : AreLasts (segment j) u lasts
  pub small : length k < 2 ^ 56

-- the configuration before it and its own stand in the list, and there is room for numbers
pub record PlansLast (k : Journal) (u : UnitBook) (p : Parts) : Type 0 where
  pub j : Journal
  pub s : Journal
  pub x : Entry
  pub new : Config
  pub journal_is : k ≡ more j x
  pub new_is : config_at k (length j) ≡ Some new
  pub sound : IsSoundConfig new
  pub holds : Holds k (force s) u
  pub numbers_are : p.numbers ≡ numbers_in (force s)
  pub free_is : p.free ≡ length (units s)
  pub room : p.free + (length new.automations + length new.scripts) < 2 ^ 32

-- its units have these numbers
pub record BringsNext (k : Journal) (b : Bounds) (u : UnitBook) (numbers : List ℕ) : Type 0 where
  pub j : Journal
  pub s : Journal
  pub x : Entry
  pub new : Config
  pub journal_is : k ≡ more j x
  pub reloads : reload_in x ≡ Some new
  pub new_is : config_at k (length j) ≡ Some new
  pub sound : IsSoundConfig new
  pub holds : Holds j (force s) u
  pub numbers_are : numbers ≡ numbers_in (reloaded (force s) new)
  pub few : length (reloaded (force s) new).units < 2 ^ 32
  pub opens : (e : Entry) × (slice_get k b.front ≡ Some e) × BeginsSegment e
  pub front : lasts_at k b.front ≡ lasts_carried s

-- what an engine has anew
pub record IsBrought (k : Journal) (b : Bounds) (u : UnitBook) (numbers : List ℕ) (lasts : List (Option ℕ)) (n : Reloaded) : Type 0 where
  pub holds : (h : BringsNext k b u numbers) → Holds k (reloaded (force h.s) h.new) n.book
  pub order_is : (h : BringsNext k b u numbers) → n.order ≡ rule_order h.new.automations
  pub lasts_are : (h : BringsNext k b u numbers) → n.lasts.items ≡ known_lasts lasts n.book.names (lasts_carried h.s)

-- the table of runs is to have the units of a book
pub record EntersUnits (k : Journal) (b : Bounds) (u : UnitBook) (t : NamedTable) : Type 0 where
  pub s : Journal
  pub j : Journal
  pub x : Entry
  pub holds : Holds k (force (more s x)) u
  pub names_grow : (a : ℕ) → a < length (units s) → name_of (units (more s x)) a ≡ name_of (units s) a
  pub firsts_are : (a : ℕ) → a < length t.firsts → slice_get u.firsts.items a ≡ slice_get t.firsts a
  pub longer : length t.firsts < suc (length u.firsts.items)
  pub numbers : (a : ℕ) → a < length (units s) → number_at t.closed.numbers a ≡ carried_number s (name_of (units s) a)
  pub count_is : length t.firsts ≡ length (units s)
  pub opens : (e : Entry) × (slice_get k b.front ≡ Some e) × BeginsSegment e
  pub front : numbers_at k b.front ≡ numbers_carried s

pub record AreEntered (k : Journal) (b : Bounds) (u : UnitBook) (t t' : NamedTable) : Type 0 where
  pub firsts_are : t'.firsts ≡ u.firsts.items
  pub records : t'.closed.records ≡ t.closed.records
  pub entries : t'.closed.entries ≡ t.closed.entries
  pub numbers : (h : EntersUnits k b u t) → t'.closed.numbers ≡ map (carried_number h.s) u.names

-- the segment has the reload last; the parts stand for the journal before it, and this becomes of the numbers
pub record IsEntering (k : Journal) (old : Config) (plan : Plan) (rs : Records) (p : Parts) : Type 0 where
  pub j : Journal
  pub source : ℕ
  pub number : ℕ
  pub text : Text
  pub config : Config
  pub journal_is : k ≡ more j (Line source number (Reload text (Some config)))
  pub known : source < 16
  pub fair : IsFair j (Reload text (Some config))
  pub sound : IsSoundConfig config
  pub few : AreFew k
  pub old_is : IsAlike old (configured j)
  pub planned : IsPlan old p.numbers p.free config plan
  pub right : alone.Right j rs
  pub kept : Kept j rs p

-- the journal with it
pub record IsReloaded {k : Journal} {b : Bounds} {u : UnitBook} {t : NamedTable} {p : Parts} {lasts : List (Option ℕ)}
    (h : AddsReload k b u t p lasts) (n : Reloaded) (t' : NamedTable) (p' : Parts) : Type 0 where
  pub right : alone.Right (more (segment h.j) (Line h.source h.number (Reload h.text (Some h.config)))) t'.list
  pub kept : Kept (more (segment h.j) (Line h.source h.number (Reload h.text (Some h.config)))) t'.list p'
  pub holds : Holds k (force (more (segment h.j) (Line h.source h.number (Reload h.text (Some h.config))))) n.book
  pub firsts_are : t'.firsts ≡ n.book.firsts.items
  pub order_is : n.order ≡ rule_order h.config.automations
  pub lasts_are : n.lasts.items ≡ known_lasts lasts n.book.names (lasts_carried (segment h.j))
  pub numbers : t'.closed.numbers ≡ map (carried_number (segment h.j)) n.book.names
