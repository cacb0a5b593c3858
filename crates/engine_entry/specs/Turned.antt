-- Automations that an entry turns on or off, one after the other: what stands for the journal before it, and what for the one behind it.
use Rattle.std.specs.Prelude.{◌≡◌, ℕ, Bool, true, false, not, ◌&&◌, nat_eq, List, [], ◌∷◌}
use Rattle.std.specs.Prelude.{None, MatchOption, flat_map, filter, map, codes, if◌then◌else◌}
use Rattle.std.specs.List.{list_any, enumerate_from}
use Rattle.std.specs.Option.{option_map_or}
use Rattle.ha_value.specs.declared.value.EntityId.{EntityId}
use Rattle.ha_config.specs.declared.config.Automation.{Automation}
use Rattle.ha_journal.specs.declared.entry.Entry.{Entry}
use Rattle.ha_config.specs.Numbered.{has_number}
use Rattle.ha_journal.specs.Entries.{changes_in, gone_in, is_moment, is_restart, opens_segment, reload_in, report_in}
use Rattle.ha_config.specs.Equal.{same_flag}
use Rattle.ha_journal.specs.Journal.{Journal, HasEntry, brings, in_force, more, units}
use Rattle.ha_config.specs.Names.{named_among}
use Rattle.ha_journal.specs.States.{states}
use Rattle.ha_journal.specs.Switches.{is_on, since}
use Rattle.ha_config.specs.Words.{Text}
use Rattle.ha_sight.specs.Sight.{Automations}
use Rattle.state_table.specs.Anew.{is_automation as is_of_automation}
use Rattle.state_table.specs.Table.{at}
use Rattle.state_table.specs.declared.table.StateTable.{StateTable}
use Rattle.ha_past.specs.Firings.{Owner}
use Rattle.trig_set.specs.Next.{Listed, state_listed}
use Rattle.engine_parts.specs.Owners.{is_automation}

-- ---- the automations that an entry turns

-- an automation, its new switch, and whether its runs are ended
abbrev pub Target : Type 0
Target = ℕ × Bool × Bool

abbrev pub is_target : List Target → ℕ → Bool
is_target targets a = list_any (λ t. nat_eq t.0 a) targets

-- none of them twice
abbrev pub AreOnce : List Target → Type 0
AreOnce [] = Unit {0}
AreOnce (t ∷ ts) = (is_target ts t.0 ≡ false) × AreOnce ts

-- each is of a known automation, and behind the entry its switch is the new one
abbrev pub AreSet : (ℕ → Bool) → (ℕ → Bool) → List Target → Type 0
AreSet on known [] = Unit {0}
AreSet on known (t ∷ ts) = (known t.0 ≡ true) × (on t.0 ≡ t.1) × AreSet on known ts

-- an entry that reports nothing, opens nothing, reloads nothing, brings no moment and changes no helper: of what is seen it changes switches at most
pub record OnlyTurns (j : Journal) (x : Entry) : Type 0 where
  pub reloads : reload_in x ≡ None
  pub some : HasEntry j
  pub report : report_in x ≡ None
  pub gone : gone_in x ≡ None
  pub restart : is_restart x ≡ false
  pub opens : opens_segment x ≡ false
  pub moment : brings x ≡ 0
  pub still : is_moment x ≡ false
  pub changes : changes_in x ≡ []

-- the entry turns these, and no other
pub record IsTurn (j : Journal) (x : Entry) (targets : List Target) : Type 0 where
  pub only : OnlyTurns j x
  pub once : AreOnce targets
  pub set : AreSet (is_on (more j x)) (has_number (in_force j)) targets
  pub others : (a : ℕ) → has_number (in_force j) a ≡ true → is_target targets a ≡ false → is_on (more j x) a ≡ is_on j a

-- ---- between the two journals: the automations that are left stand for the one before the entry, the others for the one behind it

abbrev pub stage : (ℕ → Bool) → Journal → Journal → ℕ → Journal
stage left j k a = if left a then j else k

-- one less is left
abbrev pub less : (ℕ → Bool) → ℕ → ℕ → Bool
less left a b = left b && not (nat_eq b a)

-- the entity of the automation of a name
abbrev pub entity_named : Text → EntityId
entity_named name = record { domain = codes "automation"; object = name }

-- the id names an automation that is left
abbrev pub is_left : List (ℕ × Automation) → (ℕ → Bool) → EntityId → Bool
is_left all left e = is_of_automation e && option_map_or left (named_among all e.object) false

-- the switches, and whether one of those that are set has changed
pub record FlagsBetween (j k : Journal) (left : ℕ → Bool) (s : Automations) (changed : Bool) : Type 0 where
  pub flags_are : s ≡ map {A = ℕ × Automation} {B = ℕ × Text × Bool} (λ p. (p.0, p.1.name, is_on (stage left j k p.0) p.0)) (in_force j)
  pub changed_is : changed ≡ list_any (λ p. not (left p.0) && not (same_flag (is_on j p.0) (is_on k p.0))) (in_force j)

-- the states, and those that changed, as they were
pub record StatesBetween (j k : Journal) (left : ℕ → Bool) (table : StateTable) (before : Listed) : Type 0 where
  pub stand : (e : EntityId) → at table e ≡ states (if is_left (in_force j) left e then j else k) e
  pub listed : (e : EntityId) → MatchOption (state_listed before e)
      (states (if is_left (in_force j) left e then j else k) e ≡ states j e) (λ old. old ≡ states j e)

-- the owner that an automation is, where it is in force and on
abbrev pub owner_in : Journal → ℕ × Automation → List Owner
owner_in i y = if has_number (in_force i) y.0 && is_on i y.0 then record { owner = y.0; triggers = y.1.triggers; since = since i y.0 } ∷ [] else []

abbrev pub owner_at : (ℕ → Bool) → Journal → Journal → ℕ × Automation → List Owner
owner_at left j k y = owner_in (stage left j k y.0) y

-- the automations in force that are on have their triggers attached
abbrev pub OwnersBetween : Journal → Journal → (ℕ → Bool) → List Owner → Type 0
OwnersBetween j k left owners = filter is_automation owners ≡ flat_map (owner_at left j k) (enumerate_from 0 (units j))
