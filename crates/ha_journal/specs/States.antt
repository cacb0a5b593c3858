-- States: what is known of each entity after a journal.
use Rattle.std.specs.Prelude.{ℕ, suc, Bool, true, not, ◌&&◌, List, [], Option, Some, None, take, length, map, filter_map, option_map, option_and_then, codes, if◌then◌else◌}
use Rattle.std.specs.Option.{option_map_or}
use Rattle.ha_value.specs.declared.value.EntityId.{EntityId}
use Rattle.ha_journal.specs.declared.entry.Entry.{Entry}
use Rattle.ha_journal.specs.Entries.{report_in, gone_in, is_restart}
use Rattle.ha_sight.specs.declared.state.StateObject.{StateObject}
use Rattle.ha_config.specs.declared.helper.Helper.{Helper}
use Rattle.ha_config.specs.Helpers.{helper_named}
use Rattle.ha_config.specs.Words.{Text, Pairs, same, same_entity, longest_end, last_of, first_of_list, up_to}
use Rattle.ha_journal.specs.Journal.{Journal, in_force, helpers, now, stamped, through}
use Rattle.ha_journal.specs.Helpers.{text_of}
use Rattle.ha_journal.specs.Switches.{is_on, name_switched_at, switched_at}
use Rattle.ha_config.specs.Equal.{same_pairs}
use Rattle.ha_config.specs.Names.{named_among}
use Rattle.ha_sight.specs.Sight.{Automations}

-- a Report of an entity, with Now after it
pub record Seen : Type 0 where
  pub text : Text
  pub attributes : Pairs
  pub at : ℕ

-- the Report of e that an entry is, if it is one
abbrev pub report_of : EntityId → ℕ × Entry → Option Seen
report_of e s = option_and_then
    (λ r. if same_entity r.entity e then Some (record { text = r.text; attributes = r.attributes; at = s.0 }) else None)
    (report_in s.1)

-- the entry is no Gone of e and no Restart
abbrev pub keeps : EntityId → ℕ × Entry → Bool
keeps e s = not (is_restart s.1) && option_map_or (λ g. not (same_entity g e)) (gone_in s.1) true

-- the Reports of e after the last Gone of e and the last Restart
abbrev pub reports : Journal → EntityId → List Seen
reports j e = filter_map (report_of e) (longest_end (keeps e) (stamped j))

-- Now after the first of the longest unbroken row at the end whose members agree with the last
abbrev pub row_began : (Seen → Bool) → List Seen → ℕ
row_began agrees seen = option_map_or (λ s. s.at) (first_of_list (longest_end agrees seen)) 0

-- what a row of Reports stands for
abbrev pub object_of : List Seen → Option StateObject
object_of seen = option_map object (last_of seen)
  where
    object : Seen → StateObject
    object last = record {
      text = last.text;
      attributes = last.attributes;
      changed = row_began (λ s. same s.text last.text) seen;
      updated = row_began (λ s. same s.text last.text && same_pairs s.attributes last.attributes) seen;
    }

-- the states of reported entities
abbrev pub reported : Journal → EntityId → Option StateObject
reported j e = object_of (reports j e)

-- the state of an automation
abbrev pub of_automation : Journal → ℕ → StateObject
of_automation j a = record {
  text = if is_on j a then codes "on" else codes "off";
  attributes = [];
  changed = now (take (suc (switched_at j a)) j);
  updated = now (take (suc (switched_at j a)) j);
}

-- the texts of a helper after each entry
abbrev pub texts_of : Journal → Helper → List Seen
texts_of j h = map (λ n. record { text = text_of (through j n) h; attributes = []; at = now (through j n) }) (up_to (length j))

-- the state of a helper: both its moments are Now after the first entry of the present row with this text
abbrev pub of_helper : Journal → Helper → Option StateObject
of_helper j h = object_of (texts_of j h)

-- S: the states after a journal
abbrev pub states : Journal → EntityId → Option StateObject
states j e =
    if same e.domain (codes "automation") then option_map (of_automation j) (named_among (in_force j) e.object)
    else option_map_or (of_helper j) (helper_named (helpers j) e) (reported j e)

-- the switches of the automations in force, by their names, as configured
abbrev pub switches_of : Journal → List (Text × Bool)
switches_of j = map (λ p. (p.1.name, is_on j p.0)) (in_force j)

-- the same, with the numbers
abbrev pub switches_seen : Journal → Automations
switches_seen j = map (λ p. (p.0, p.1.name, is_on j p.0)) (in_force j)

-- a switch as a state, since that moment
abbrev pub switch_state : ℕ → Bool → StateObject
switch_state at on = record { text = if on then codes "on" else codes "off"; attributes = []; changed = at; updated = at }

-- Now after the latest entry that changed the switch of a name, or brought the name into force
abbrev pub since_moment : Journal → Text → ℕ
since_moment j name = now (take (suc (name_switched_at j name)) j)
