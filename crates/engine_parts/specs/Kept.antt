-- What an engine keeps: each part stands for the journal.
use Rattle.std.specs.Prelude.{◌≡◌, ℕ, ◌<◌, ◌≤◌, ◌+◌, ◌-◌, Bool, true, false, IsTrue, IsSome}
use Rattle.std.specs.Prelude.{List, [], ◌∷◌, filter, length, Option, Some, None}
use Rattle.std.specs.Option.{option_map_or}
use Rattle.timer_queue.specs.Timers.{Timer}
use Rattle.ha_clock.specs.Zone as clock
use Rattle.ha_clock.specs.Local.{last_moment}
use Rattle.ha_journal.specs.Journal.{Journal, zone_of, now, configured, units}
use Rattle.ha_model.specs.declared.record.Record.{Record}
use Rattle.ha_sight.specs.Scripts.{Branch}
use Rattle.ha_model.specs.Records.{CallEnds, Records}
use Rattle.ha_journal.specs.Sights.{changes_switch}
use Rattle.ha_config.specs.Sound.{is_sound_config}
use Rattle.ha_config.specs.Words.{Text, last_of}
use Rattle.ha_journal.specs.declared.entry.Entry.{Entry}
use Rattle.ha_journal.specs.Entries.{is_reload}
use Rattle.state_laws.specs.Stands as states
use Rattle.state_table.specs.declared.table.StateTable.{StateTable}
use Rattle.helper_set.specs.Kept as helpers
use Rattle.switch_book.specs.Book as switches
use Rattle.script_step.specs.declared.frames.Frames.{Frames}
use Rattle.trig_set.specs.declared.set.TrigSet.{TrigSet}
use Rattle.ha_past.specs.Firings.{Owner, owner_named}
use Rattle.trig_set.specs.Stands as triggers
use Rattle.wait_set.specs.declared.asked.Asked.{Asked}
use Rattle.wait_set.specs.Asked.{WaitTable as Waits}
use Rattle.wait_set.specs.Stands as waits
use Rattle.wait_set.specs.Timers.{AreApart}
use Rattle.ha_ready.specs.RestedFlags.{RestedKept}
use Rattle.engine_parts.specs.declared.parts.Parts.{Parts}
use Rattle.engine_parts.specs.Numbers.{AreFew, is_ascending, numbers_in, rule_numbers}
use Rattle.engine_parts.specs.Owners.{AreAscending, AreBelow, owners_on, is_automation}
use Rattle.ha_ready.specs.ReadyPairs.{branches_with, ends_at, pairs_from}
use Rattle.engine_parts.specs.Called.{CallsKept, told_by}
use Rattle.engine_parts.specs.Runs.{AreHeld, SlotKept, SlotsWith, first_wait}

-- ---- what is seen

-- its configuration is sound
abbrev pub AreSound : Journal → Type 0
AreSound j = IsTrue (is_sound_config (configured j))

-- Now, the zone, the states and the numbers are those after the journal
pub record Looks (j : Journal) (table : StateTable) (numbers : List ℕ) (zone : Text) (at : ℕ) : Type 0 where
  pub now_is : at ≡ now j
  pub in_time : at ≤ last_moment
  pub zone_is : zone ≡ zone_of j
  pub zone_read : IsSome (clock.zone_of (zone_of j))
  pub states_stand : states.StandsFor table j
  pub numbers_are : numbers ≡ numbers_in j

-- the last entry is such a one
abbrev pub last_is : (Entry → Bool) → Journal → Bool
last_is test j = option_map_or test (last_of j) false

-- and so are the helpers and the switches; whether a Reload changed one is not kept here
pub record Sees (j : Journal) (p : Parts) : Type 0 where
  pub looks : Looks j p.states p.numbers p.zone p.at
  pub helpers_stand : helpers.StandsFor p.helpers j
  pub switches_stand : switches.StandsFor p.switches j
  pub changed_is : last_is is_reload j ≡ false → p.changed ≡ changes_switch j
  pub sound : AreSound j
  pub few : AreFew j
  pub free_is : p.free ≡ length (units j)
  pub ascending_is : p.ascending ≡ is_ascending (rule_numbers j)

-- ---- who has triggers attached

-- the owner of a wait is named by the place where it began, before place n; while it is pending its triggers are attached since then
pub record IsOwned (n : ℕ) (owners : List Owner) (a : Asked) : Type 0 where
  pub owner_is : a.owner ≡ first_wait + a.place
  pub early : a.place < n
  pub attached : a.end ≡ None → owner_named a.owner owners ≡ Some (record { owner = a.owner; triggers = a.ask.triggers; since = a.place })

abbrev pub AreOwned : ℕ → List Owner → List Asked → Type 0
AreOwned n owners [] = Unit {0}
AreOwned n owners (a ∷ asks) = IsOwned n owners a × AreOwned n owners asks

-- the automations in force that are on, since they are on, and the pending waits
pub record Owned (j : Journal) (t : TrigSet) (w : Waits) : Type 0 where
  pub automations_attached : filter is_automation (triggers.attached t) ≡ owners_on j (length j - 1)
  pub ascend : AreAscending 0 (triggers.attached t)
  pub early : AreBelow (first_wait + length j) (triggers.attached t)
  pub waits_owned : AreOwned (length j) (triggers.attached t) w.asks
  pub apart : AreApart w.asks

-- ---- the runs

-- the runs whose frames and pairs went already
abbrev pub Gone : Type 0
Gone = ℕ → Bool

abbrev pub nobody : Gone
nobody s = false

-- all of them
abbrev pub everyone : Gone
everyone s = true

abbrev pub slot_if : Bool → CallEnds → Journal → List Timer → Waits → Record → Option Frames → Type 0
slot_if true told k delays w r o = o ≡ None
slot_if false told k delays w r o = SlotKept told k delays w r o

abbrev pub SlotBut : Gone → CallEnds → Journal → List Timer → Waits → Record → Option Frames → Type 0
SlotBut gone told k delays w r o = slot_if (gone r.serial) told k delays w r o

abbrev pub left_if : Bool → CallEnds → Records → Journal → ℕ → List Branch
left_if true told rs k s = []
left_if false told rs k s = branches_with told rs k s

abbrev pub left_branches : Gone → CallEnds → Records → Journal → ℕ → List Branch
left_branches gone told rs k s = left_if (gone s) told rs k s

-- where called runs ended so, each live run that did not go has its frames, the pairs are those that may step, and each pending wait is one
-- of such a run, behind whose gate a branch is
pub record RunsKept (told : CallEnds) (gone : Gone) (k : Journal) (rs : Records) (delays : List Timer)
    (w : Waits) (os : List (Option Frames)) (pairs : List (ℕ × Branch)) : Type 0 where
  pub slots : SlotsWith (SlotBut gone told k delays w) rs os
  pub pairs_are : pairs ≡ pairs_from 0 (length rs) (left_branches gone told rs k)
  pub held : AreHeld k os w.asks

-- each key is before place n
abbrev pub KeysBelow : ℕ → List Timer → Type 0
KeysBelow n [] = Unit {0}
KeysBelow n (t ∷ ts) = (t.1 < n) × KeysBelow n ts

-- ---- all of it

-- the parts stand for the journal with these records, where called runs ended so, but for the runs that went
pub record GoingWith (told : CallEnds) (gone : Gone) (k : Journal) (rs : Records) (p : Parts) : Type 0 where
  pub sees : Sees k p
  pub triggers_stand : triggers.StandsFor p.triggers k
  pub waits_stand : waits.StandsFor p.waits.asks k
  pub owned : Owned k p.triggers p.waits
  pub keys_early : KeysBelow (length k) p.delays
  pub runs_kept : RunsKept told gone k rs p.delays p.waits p.frames.items p.ready.pairs.items
  pub calls_kept : CallsKept told k rs p.calls p.frames.items

-- the same where called runs ended as far as it is told
abbrev pub Going : Gone → Journal → Records → Parts → Type 0
Going gone k rs p = GoingWith (told_by gone k rs) gone k rs p

-- the journal's records are these, and each part stands for it
pub record Kept (j : Journal) (rs : Records) (p : Parts) : Type 0 where
  pub going : GoingWith (ends_at j) nobody j rs p
  pub rested_is : RestedKept j rs p.rested.items
