-- Items as they are printed in a trace, with all keys in their order, where units have these names by their numbers.
use Rattle.std.specs.Prelude.{ℕ, Bool, true, Option, List, [], ◌∷◌, ◌++◌, map, decimal, codes, drop, nat_eq, if◌then◌else◌}
use Rattle.std.specs.List.{starts_with}
use Rattle.std.specs.Option.{option_map_or}
use Rattle.ha_value.specs.declared.value.EntityId.{EntityId}
use Rattle.ha_sight.specs.declared.helped.HelperChange.{HelperChange}
use Rattle.ha_sight.specs.declared.item.Item.{Item}
use Rattle.ha_config.specs.Words.{Text, Pairs}
use Rattle.ha_config.specs.ValueText.{quoted, list_text, map_text, flag_text, print_pairs}
use Rattle.ha_config.specs.Names.{name_in}
use Rattle.ha_config.specs.CommandText.{id_text, one_key}

abbrev pub failure_code : ℕ → Text
failure_code code = codes "F" ++ decimal code

-- the service, targets and data of a call
abbrev pub call_pairs : Text → List EntityId → Pairs → List (Text × Text)
call_pairs service target fields =
    (codes "service", quoted service) ∷ (codes "target", list_text (map id_text target)) ∷ (codes "data", print_pairs fields) ∷ []

-- one automation that was switched, by its name
abbrev pub switched_text : List Text → ℕ × Bool × Bool → Text
switched_text names s =
    map_text ((codes "automation", quoted (name_in names s.0)) ∷ (codes "on", flag_text s.1) ∷ (codes "stop", flag_text s.2) ∷ [])

-- a script by its name, which is that of its runs without `script.`
abbrev pub script_name : Text → Text
script_name run = if starts_with nat_eq run (codes "script.") then drop 7 run else run

abbrev pub script_text : List Text → ℕ → Text
script_text names n = quoted (script_name (name_in names n))

-- what may be missing is `null` then
abbrev pub span_or_null : Option ℕ → Text
span_or_null span = option_map_or decimal span (codes "null")

abbrev pub event_or_null : Option Text → Text
event_or_null event = option_map_or quoted event (codes "null")

-- the change of one helper: its span in milliseconds
abbrev pub change_text : HelperChange → Text
change_text c =
    map_text ((codes "entity", id_text c.entity) ∷ (codes "text", quoted c.text)
    ∷ (codes "span", span_or_null c.span) ∷ (codes "event", event_or_null c.event) ∷ [])

abbrev pub item_text : List Text → Item → Text
item_text names Item.Nothing = one_key (codes "nothing") (flag_text true)
item_text names (Item.Call service target fields) = one_key (codes "call") (map_text (call_pairs service target fields))
item_text names (Item.Fired kind pairs) =
    one_key (codes "fired") (map_text ((codes "event", quoted kind) ∷ (codes "data", print_pairs pairs) ∷ []))
item_text names (Item.Switched targets) = one_key (codes "switched") (list_text (map (switched_text names) targets))
item_text names (Item.Triggered automations skip) =
    one_key (codes "triggered") (map_text ((codes "automations", list_text (map (λ a. quoted (name_in names a)) automations))
    ∷ (codes "skip_condition", flag_text skip) ∷ []))
item_text names (Item.Failed code) = one_key (codes "failed") (quoted (failure_code code))
item_text names (Item.Started scripts fields waits) =
    one_key (codes "started") (map_text ((codes "scripts", list_text (map (script_text names) scripts))
    ∷ (codes "data", print_pairs fields) ∷ (codes "waits", flag_text waits) ∷ []))
item_text names (Item.Halted scripts) = one_key (codes "halted") (list_text (map (script_text names) scripts))
item_text names (Item.Helped changes) = one_key (codes "helped") (list_text (map change_text changes))
