-- The stages of the work on a line that was pushed.
use Rattle.std.specs.Prelude.{◌≡◌, ℕ, ◌<◌, ◌∷◌, [], true, false, length, List, None, Option}
use Rattle.ha_value.specs.declared.value.EntityId.{EntityId}
use Rattle.timer_queue.specs.Timers.{Timer}
use Rattle.script_step.specs.declared.frames.Frames.{Frames}
use Rattle.ha_sight.specs.Scripts.{Branch}
use Rattle.wait_set.specs.Asked.{WaitTable as Waits}
use Rattle.trig_set.specs.declared.set.TrigSet.{TrigSet}
use Rattle.ha_config.specs.declared.command.Cmd.{Cmd}
use Rattle.ha_journal.specs.declared.entry.Entry.{Entry}
use Rattle.ha_journal.specs.declared.entry.Entry.TheVariants.{Line}
use Rattle.ha_sight.specs.declared.state.StateObject.{StateObject}
use Rattle.ha_config.specs.Fair.{IsPlain}
use Rattle.ha_config.specs.Words.{Text, Pairs}
use Rattle.ha_journal.specs.Commands.{IsFair}
use Rattle.ha_journal.specs.Entries.{reloads_to}
use Rattle.ha_journal.specs.Helpers.{last_events}
use Rattle.ha_journal.specs.Journal.{Journal, IsJournal, HasEntry, more}
use Rattle.ha_model.specs.Records.{Records}
use Rattle.ha_journal.specs.Attempts.{passing}
use Rattle.ha_model.specs.RecordSteps.{records_after}
use Rattle.run_modes.specs.Calls.{all_tried}
use Rattle.ha_model.specs.Lawful.{Right}
use Rattle.trig_set.specs.Left.{Leaves}
use Rattle.trig_set.specs.Next.{Listed, AreListed, changes_helpers, has_earlier, names_helper, spares_helpers}
use Rattle.trig_set.specs.Stands as triggers
use Rattle.wait_set.specs.Stands as waits
use Rattle.engine_parts.specs.declared.parts.Parts.{Parts}
use Rattle.engine_parts.specs.Waiting.{AsksKept, EndsGrow}
use Rattle.engine_parts.specs.Pending.{AreOthers, AreWaits}
use Rattle.ha_ready.specs.ReadyPairs.{ends_at}
use Rattle.script_calls.specs.Waiting.{Waiting}
use Rattle.engine_parts.specs.Called.{CallsKept}
use Rattle.engine_parts.specs.Runs.{AreHeld}
use Rattle.engine_parts.specs.Kept.{Sees, Owned, KeysBelow, RunsKept, Going, Kept, nobody}
use Rattle.ha_ready.specs.RestedFlags.{IsKnown, RestedKept, source_of}
use Rattle.engine_parts.specs.Records.{IsTable}

-- a line was pushed, which nothing knows of yet
pub record Pushed (k : Journal) (rs : Records) (p : Parts) : Type 0 where
  pub j : Journal
  pub source : ℕ
  pub number : ℕ
  pub cmd : Cmd
  pub journal_is : k ≡ more j (Line source number cmd)
  pub known : source < 16
  pub fair : IsFair j cmd
  pub unreloaded : reloads_to cmd ≡ None
  pub right : Right j rs
  pub kept : Kept j rs p

-- the last entry is a line
pub record IsLine (k : Journal) : Type 0 where
  pub j : Journal
  pub source : ℕ
  pub number : ℕ
  pub cmd : Cmd
  pub journal_is : k ≡ more j (Line source number cmd)

-- the command of the line that was pushed is this
pub record PushedAs (cmd : Cmd) (k : Journal) (rs : Records) (p : Parts) : Type 0 where
  pub pushed : Pushed k rs p
  pub cmd_is : pushed.cmd ≡ cmd

-- commands that change neither states nor Now nor switches
abbrev pub IsOther : Cmd → Type 0
IsOther (Cmd.Report entity text attributes) = ⊥
IsOther (Cmd.Gone entity) = ⊥
IsOther (Cmd.Event kind pairs) = Unit {0}
IsOther (Cmd.Moment at) = ⊥
IsOther (Cmd.Switch name on stop) = ⊥
IsOther (Cmd.Trigger name skip) = Unit {0}
IsOther Cmd.Restart = ⊥
IsOther (Cmd.Reload text config) = ⊥
IsOther (Cmd.Refused code) = Unit {0}
IsOther Cmd.Lost = Unit {0}
IsOther Cmd.TooLong = Unit {0}

-- the states, the switches and the triggers of the automations are those behind the entry; the triggers and the waits are still to be told
-- of it, with the states before it that it changes; what it changes are helpers, and no helper is listed where helpers keep their texts
pub record Untold (k : Journal) (t : TrigSet) (w : Waits) (before : Listed) : Type 0 where
  pub j : Journal
  pub x : Entry
  pub journal_is : k ≡ more j x
  pub journal : IsJournal k
  pub some : HasEntry j
  pub triggers_stand : triggers.StandsFor t j
  pub waits_stand : waits.StandsFor w.asks j
  pub owned : Owned k t w
  pub listed : has_earlier (length j) (triggers.attached t) ≡ true → AreListed j x before
  pub apart : spares_helpers x ≡ true → names_helper k before ≡ false
  pub helped : changes_helpers j x ≡ true

-- the same of a report of an entity that concerns nobody
pub record UntoldLeft (k : Journal) (t : TrigSet) (w : Waits) (e : EntityId) (text : Text) (attributes : Pairs) : Type 0 where
  pub source : ℕ
  pub number : ℕ
  pub old : Option StateObject
  pub untold : Untold k t w ((e, old) ∷ [])
  pub x_is : untold.x ≡ Line source number (Cmd.Report e text attributes)
  pub left : Leaves t e

-- so it is with the parts, which have the events of helpers that the entry gives
pub record Entered (k : Journal) (p : Parts) (before : Listed) : Type 0 where
  pub sees : Sees k p
  pub untold : Untold k p.triggers p.waits before
  pub given_is : p.given ≡ last_events k
  pub keys_early : KeysBelow (length k) p.delays

-- so it is with such a report
pub record EnteredLeft (k : Journal) (p : Parts) (e : EntityId) (text : Text) (attributes : Pairs) : Type 0 where
  pub sees : Sees k p
  pub untold : UntoldLeft k p.triggers p.waits e text attributes
  pub keys_early : KeysBelow (length k) p.delays

-- the triggers and the waits were told of it; these were the waits before
pub record Told (k : Journal) (w : Waits) (t : TrigSet) (w' : Waits) : Type 0 where
  pub triggers_stand : triggers.StandsFor t k
  pub waits_stand : waits.StandsFor w'.asks k
  pub owned : Owned k t w'
  pub asks : (serial : ℕ) → AsksKept w w' serial
  pub grow : (serial : ℕ) → EndsGrow w w' serial
  pub fresh : AreWaits w'.fresh
  pub others : AreOthers w'.fresh w'.asks
  pub held : (i : Journal) (os : List (Option Frames)) → AreHeld i os w.asks → AreHeld i os w'.asks

pub record Noted (k : Journal) (w : Waits) (p : Parts) : Type 0 where
  pub sees : Sees k p
  pub told : Told k w p.triggers p.waits
  pub keys_early : KeysBelow (length k) p.delays

-- the runs before a line
pub record RunsBefore (k : Journal) (rs : Records) (w : Waits) (delays : List Timer)
    (os : List (Option Frames)) (pairs : List (ℕ × Branch)) (waiting : Waiting) : Type 0 where
  pub j : Journal
  pub source : ℕ
  pub number : ℕ
  pub cmd : Cmd
  pub journal_is : k ≡ more j (Line source number cmd)
  pub right : Right j rs
  pub waits_stand : waits.StandsFor w.asks j
  pub runs_kept : RunsKept (ends_at j) nobody j rs delays w os pairs
  pub calls_kept : CallsKept (ends_at j) j rs waiting os

-- all parts were told of a line; its stops and attempts, and the flags of the sources, are still to come
pub record LineTold (k : Journal) (rs : Records) (p : Parts) : Type 0 where
  pub j : Journal
  pub source : ℕ
  pub number : ℕ
  pub cmd : Cmd
  pub journal_is : k ≡ more j (Line source number cmd)
  pub known : source < 16
  pub fair : IsFair j cmd
  pub plain : IsPlain cmd
  pub right : Right j rs
  pub going : Going nobody k rs p
  pub rested_is : RestedKept j rs p.rested.items

-- the calls of the last entry's step and its stops were made, and the parts stand for these records; its attempts, and the flags of the
-- sources, are still to come
pub record Stopped (k : Journal) (rs : Records) (p : Parts) : Type 0 where
  pub j : Journal
  pub x : Entry
  -- the records before the entry
  pub before : Records
  pub journal_is : k ≡ more j x
  pub known : IsKnown (source_of x)
  pub right : Right j before
  pub right_behind : Right k (records_after j before x)
  pub table : IsTable k rs
  pub records : all_tried k rs (passing k) ≡ records_after j before x
  pub going : Going nobody k rs p
  pub rested_is : RestedKept j before p.rested.items
