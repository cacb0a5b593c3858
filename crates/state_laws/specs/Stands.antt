-- Which journals a table of states stands for, and whose parts a view's are.
use Rattle.std.specs.Prelude.{◌≡◌, Bool, false, ℕ, not, ◌&&◌, ◌||◌, is_some, List, map, true}
use Rattle.std.specs.Option.{option_map_or}
use Rattle.ha_value.specs.declared.value.EntityId.{EntityId}
use Rattle.ha_config.specs.Words.{Text}
use Rattle.cond_eval.specs.Seen.{rules_in}
use Rattle.ha_journal.specs.Journal.{Journal, in_force, helpers, more, now, zone_of}
use Rattle.ha_journal.specs.States.{states}
use Rattle.state_table.specs.Anew.{is_automation}
use Rattle.state_table.specs.declared.table.StateTable.{StateTable}
use Rattle.ha_journal.specs.declared.entry.Entry.{Entry}
use Rattle.ha_config.specs.Helpers.{helper_named}
use Rattle.ha_journal.specs.Entries.{change_of, is_boot, opens_segment}
use Rattle.ha_journal.specs.Helpers.{finishes}
use Rattle.ha_journal.specs.Switches.{same_switch, switch_named}
use Rattle.ha_config.specs.declared.config.Automation.{Automation}
use Rattle.ha_config.specs.declared.config.Config.{Config}
use Rattle.ha_config.specs.ValueFacts.{all_distinct}
use Rattle.state_table.specs.Table.{at}

-- the entry is a Boot or a Restart, or it changes the switch of a name, or brings the name into force or takes it out
abbrev pub turns : Journal → Entry → Text → Bool
turns j x name = opens_segment x || not (same_switch (switch_named j name) (switch_named (more j x) name))

-- an automation has the name before the entry or after it
abbrev pub is_named : Journal → Entry → Text → Bool
is_named j x name = is_some (switch_named j name) || is_some (switch_named (more j x) name)

-- the id names an automation whose state the entry sets anew
abbrev pub sets_anew : Journal → Entry → EntityId → Bool
sets_anew j x e = is_automation e && is_named j x e.object && turns j x e.object

-- the id is of a helper to which the entry gives a text: its first one, that of its change, or that of a timer that finishes
abbrev pub gives_text : Journal → Entry → EntityId → Bool
gives_text j x e =
    not (is_automation e)
    && option_map_or (λ h. is_boot x || is_some (change_of e x) || finishes j x h) (helper_named (helpers (more j x)) e) false

-- the entry sets the state of the entity anew, or gives it a text
abbrev pub sets : Journal → Entry → EntityId → Bool
sets j x e = sets_anew j x e || gives_text j x e

-- the table stands for a journal: it has the states after it
abbrev pub StandsFor : StateTable → Journal → Type 0
StandsFor t j = (e : EntityId) → at t e ≡ states j e

-- it stands for the journal but for the entities that are left
abbrev pub StandsBut : (EntityId → Bool) → StateTable → Journal → Type 0
StandsBut left t j = (e : EntityId) → left e ≡ false → at t e ≡ states j e

-- the parts of a view are those of a journal, whose automations in force have names of their own
pub record IsViewOf (states : StateTable) (numbers : List ℕ) (config : Config) (zone : Text) (moment : ℕ) (j : Journal) : Type 0 where
  pub states_are : StandsFor states j
  pub rules_are : rules_in numbers config ≡ in_force j
  pub names_differ : all_distinct (map {A = ℕ × Automation} {B = Text} (λ p. p.1.name) (in_force j)) ≡ true
  pub zone_is : zone ≡ zone_of j
  pub now_is : moment ≡ now j
