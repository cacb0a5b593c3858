-- A restart line that was pushed, and the opening behind it.
use Rattle.std.specs.Prelude.{◌≡◌, ℕ, suc, ◌+◌, ◌<◌, ◌≤◌, ◌^◌, true, List, Option, IsSome, count_by, length, map}
use Rattle.ha_clock.specs.Zone as clock
use Rattle.ha_clock.specs.Local.{last_moment}
use Rattle.ha_config.specs.declared.command.Cmd.TheVariants.{Restart}
use Rattle.ha_journal.specs.declared.entry.Entry.TheVariants.{Line}
use Rattle.ha_config.specs.StoreText.{in_name_order}
use Rattle.ha_config.specs.Words.{Text, up_to}
use Rattle.ha_journal.specs.Entries.{Reopening, is_again}
use Rattle.ha_journal.specs.Force.{force}
use Rattle.ha_journal.specs.Journal.{Journal, IsJournal, more, now, zone_of}
use Rattle.ha_journal.specs.States.{switches_of}
use Rattle.ha_whole.specs.Segments.{reopened, segment, segments}
use Rattle.ha_whole.specs.Whole.{AreEntries, HasRoom, again_of, carry_of, records_of}
use Rattle.segment_runs.specs.Segment.{all_of, number_at}
use Rattle.segment_carry.specs.Closing.{last_number}
use Rattle.named_runs.specs.Named.{NamedTable, first_in, runs_named}
use Rattle.switch_book.specs.Book as switches
use Rattle.unit_book.specs.declared.book.UnitBook.{UnitBook}
use Rattle.unit_book.specs.Book.{Holds}
use Rattle.engine_parts.specs.declared.parts.Parts.{Parts}
use Rattle.engine_parts.specs.Kept.{Kept, AreSound}
use Rattle.engine_parts.specs.Numbers.{numbers_in}
use Rattle.ha_engine.specs.declared.bounds.Bounds.{Bounds}
use Rattle.ha_engine.specs.Lies.{Lies}
use Rattle.ha_engine.specs.Told.{AreLasts, IsTold}

-- what the Again behind a journal opens
abbrev pub reopening : Journal → Reopening
reopening k = record { number = suc (count_by is_again k); start = now (segment k); stored = in_name_order (switches_of (segment k)); carry = carry_of k }

-- nothing knows of the line yet
pub record Restarting (k : Journal) (b : Bounds) (u : UnitBook) (t : NamedTable) (p : Parts) (lasts : List (Option ℕ)) : Type 0 where
  pub j : Journal
  pub source : ℕ
  pub number : ℕ
  pub journal_is : k ≡ more j (Line source number Restart)
  pub known : source < 16
  pub room : HasRoom j true
  pub told : IsTold j b u t
  pub firsts_are : t.firsts ≡ u.firsts.items
  pub kept : Kept (segment j) t.list p
  pub lasts_are : AreLasts (segment j) u lasts

-- the parts, the table and the moments stand for a journal that its restart closes: what is made of them is what it hands on
pub record ClosesWith (k : Journal) (b : Bounds) (u : UnitBook) (t : NamedTable) (p : Parts) (lasts : List (Option ℕ)) : Type 0 where
  pub entries : AreEntries k
  pub small : length k < 2 ^ 56
  pub lies : Lies k b
  pub count_is : b.segments ≡ length (segments k)
  pub at_is : p.at ≡ now (segment k)
  pub sound : AreSound (segment k)
  pub holds : Holds k (force (segment k)) u
  pub numbers_are : p.numbers ≡ numbers_in (segment k)
  pub switches_are : switches.StandsFor p.switches (segment k)
  pub runs_are : length (all_of t.closed t.list) ≡ length (records_of k)
  pub last_are : map (λ a. number_at t.closed.numbers a + runs_named t.firsts (first_in t.firsts a) t.list) (up_to (length t.firsts)) ≡ map (last_number (segment k)) u.names
  pub lasts_are : AreLasts (segment k) u lasts

-- the opening that a journal asks for stands behind it; this are the zone and the moment
pub record Reopened (n : Journal) (b : Bounds) (zone : Text) (at : ℕ) : Type 0 where
  pub closed : Journal
  pub journal_is : n ≡ more closed (again_of closed)
  pub lies : Lies n b
  pub segment_is : segment n ≡ reopened (segment closed) (reopening closed)
  pub journal : IsJournal (segment closed)
  pub sound : AreSound (segment closed)
  pub zone_is : zone ≡ zone_of (segment closed)
  pub zone_read : IsSome (clock.zone_of zone)
  pub at_is : at ≡ now (segment closed)
  pub in_time : at ≤ last_moment
