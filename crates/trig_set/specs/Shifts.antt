-- The state of an entity after one more entry, by the entry and what is seen after it. Only proofs speak of it.
use Rattle.std.specs.Prelude.{◌≡◌, Bool, true, false, ◌&&◌, ◌||◌, length, List, [], ◌∷◌, Option, Some, None, option_map, option_and_then, codes, if◌then◌else◌}
use Rattle.std.specs.List.{list_any}
use Rattle.std.specs.Option.{option_map_or}
use Rattle.ha_value.specs.declared.value.EntityId.{EntityId}
use Rattle.ha_journal.specs.declared.entry.Entry.{Entry}
use Rattle.ha_sight.specs.declared.state.StateObject.{StateObject}
use Rattle.ha_sight.specs.Calls.{automation_at}
use Rattle.ha_journal.specs.Entries.{change_of, report_in, gone_in, is_moment, is_restart}
use Rattle.ha_journal.specs.declared.event.BusEvent.{BusEvent}
use Rattle.ha_journal.specs.Helpers.{helper_events, is_of}
use Rattle.ha_journal.specs.Journal.{Journal, more}
use Rattle.ha_journal.specs.Moves.{sight}
use Rattle.ha_sight.specs.Sight.{switch_seen, Sight}
use Rattle.ha_config.specs.Words.{Text, Pairs, same, same_entity}
use Rattle.trig_set.specs.declared.scene.Shift.{Shift}
use Rattle.trig_set.specs.Next.{AreListed, Listed, changes_helpers, names_helper, spares_helpers}
use Rattle.trig_set.specs.Scenes.{face}

abbrev pub is_automation : EntityId → Bool
is_automation e = same e.domain (codes "automation")

-- the text and attributes of the state of a switch
abbrev pub face_of_switch : Bool → Text × Pairs
face_of_switch on = (if on then codes "on" else codes "off", [])

-- the entity is gone with the entry
abbrev pub removes : Entry → EntityId → Bool
removes x e = is_restart x || option_map_or (λ g. same_entity g e) (gone_in x) false

-- one of these events of helpers is of the entity, and the entry is a moment: the timer finishes
abbrev pub finishes_in : List BusEvent → Entry → EntityId → Bool
finishes_in events x e = is_moment x && list_any (is_of (Some e)) events

abbrev pub reported_face : Entry → EntityId → Option (Text × Pairs)
reported_face x e = option_and_then (λ r. if same_entity r.entity e then Some (r.text, r.attributes) else None) (report_in x)

abbrev pub changed_face : Entry → EntityId → Option (Text × Pairs)
changed_face x e = option_map (λ c. (c.text, [])) (change_of e x)

-- those of an entity that is no automation, from those before the entry
abbrev pub next_face : List BusEvent → Entry → EntityId → Option (Text × Pairs) → Option (Text × Pairs)
next_face events x e old =
    option_map_or (λ r. Some r) (reported_face x e)
    (option_map_or (λ r. Some r) (changed_face x e)
    (if finishes_in events x e then Some (codes "idle", []) else (if removes x e then None else old)))

-- those of any entity
abbrev pub face_after : List BusEvent → Entry → Sight → EntityId → Option (Text × Pairs) → Option (Text × Pairs)
face_after events x seen e old =
    if is_automation e then option_map face_of_switch (option_and_then (switch_seen seen) (automation_at seen.automations e))
    else next_face events x e old

-- the change of a listed entity
abbrev pub IsMade : List BusEvent → Entry → Sight → EntityId × Option StateObject → Shift → Type 0
IsMade events x seen p c = (c.entity ≡ p.0) × (c.old ≡ p.1) × (face c.new ≡ face_after events x seen p.0 (face p.1))

-- the changes of listed entities, one after the other
abbrev pub AreMade : List BusEvent → Entry → Sight → Listed → List Shift → Type 0
AreMade events x seen [] [] = Unit {0}
AreMade events x seen [] (c ∷ cs) = ⊥
AreMade events x seen (p ∷ ps) [] = ⊥
AreMade events x seen (p ∷ ps) (c ∷ cs) = IsMade events x seen p c × AreMade events x seen ps cs

-- the changes are told by the states that are listed and these events, with what is seen after the entry
pub record IsTold (j : Journal) (x : Entry) (before : Listed) (events : List BusEvent) (seen : Sight) : Type 0 where
  pub sees : seen ≡ sight (more j x) (length (more j x))
  pub listed : AreListed j x before
  pub apart : spares_helpers x ≡ true → names_helper (more j x) before ≡ false
  pub helped : changes_helpers j x ≡ true
  pub events_are : events ≡ helper_events j x
