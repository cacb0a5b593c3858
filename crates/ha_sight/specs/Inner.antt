-- Which calls the core does itself, in place of writing them: those of scripts that are configured, and of helpers' services.
use Rattle.std.specs.Prelude.{ℕ, true, false, nat_eq, List, [], ◌∷◌, Option, Some, None, Ok, Err, codes, drop, filter_map, option_map, option_and_then, unwrap_or, if◌then◌else◌}
use Rattle.std.specs.List.{starts_with}
use Rattle.std.specs.Option.{option_map_or}
use Rattle.ha_value.specs.declared.value.EntityId.{EntityId}
use Rattle.ha_sight.specs.declared.helped.HelperChange.{HelperChange}
use Rattle.ha_sight.specs.declared.helped.HelperService.{HelperService}
use Rattle.ha_sight.specs.declared.item.Item.{Item}
use Rattle.ha_sight.specs.declared.steps.Inner.{Inner}
use Rattle.ha_config.specs.Words.{Text, Pairs, same, last_pair}
use Rattle.ha_sight.specs.Checks.{Checked}
use Rattle.ha_sight.specs.Once.{each_number_once}
use Rattle.ha_sight.specs.Services.{changes_made, is_configured, service_named}
use Rattle.ha_sight.specs.Sight.{Sight}
use Rattle.ha_sight.specs.Values.{pairs_of_map}

-- the scripts, each by its name and its unit's number
abbrev pub Scripts : Type 0
Scripts = List (Text × ℕ)

-- the number of the script of a name
abbrev pub number_named : Scripts → Text → Option ℕ
number_named [] name = None
number_named (p ∷ ps) name = if same p.0 name then Some p.1 else number_named ps name

-- the number of the script that an entity id names, if it names one
abbrev pub script_at : Scripts → EntityId → Option ℕ
script_at scripts e = if same e.domain (codes "script") then number_named scripts e.object else None

-- the number of the script that a service is: `script.` and its name
abbrev pub script_called : Scripts → Text → Option ℕ
script_called scripts service = if starts_with nat_eq service (codes "script.") then number_named scripts (drop 7 service) else None

-- the scripts that the targets name, each once, in the order of the targets
abbrev pub scripts_named : Scripts → List EntityId → List ℕ
scripts_named scripts targets = each_number_once (filter_map (script_at scripts) targets)

-- the variables that the data hands over: the pairs of its map `variables`, none where that is no map
abbrev pub variables_in : Pairs → Pairs
variables_in fields = unwrap_or (option_and_then pairs_of_map (last_pair (codes "variables") fields)) []

-- `script.x` starts a script and waits for its end; `script.turn_on` starts those of its targets, and `script.turn_off` ends their runs
abbrev pub script_item : Scripts → Text → List EntityId → Pairs → Option Item
script_item scripts service targets fields =
    if same service (codes "script.turn_on") then Some (Item.Started (scripts_named scripts targets) (variables_in fields) false)
    else if same service (codes "script.turn_off") then Some (Item.Halted (scripts_named scripts targets))
    else if same service (codes "script.toggle") then None
    else option_map (λ n. Item.Started (n ∷ []) fields true) (script_called scripts service)

-- the item in place of a call, if there is one; where no script is configured there is none
abbrev pub own_item : Scripts → Text → List EntityId → Pairs → Option Item
own_item [] service targets fields = None
own_item (s ∷ ss) service targets fields = script_item (s ∷ ss) service targets fields

-- the changes that a call of a helpers' service makes, or the code of its failure
abbrev pub helped : Checked (List HelperChange) → Inner
helped (Ok changes) = Inner.Does (Item.Helped changes)
helped (Err code) = Inner.Fails code

abbrev pub helped_by : Sight → List EntityId → Pairs → Option HelperService → Inner
helped_by sight targets fields None = Inner.Outer
helped_by sight targets fields (Some s) = if is_configured sight.helpers s then helped (changes_made sight s targets fields) else Inner.Outer

-- a service of helpers is done by the core where a helper is configured for which it is
abbrev pub inner_of_helpers : Sight → Text → List EntityId → Pairs → Inner
inner_of_helpers sight service targets fields = helped_by sight targets fields (service_named service)

-- what the core does with a call itself; no service is one of scripts and one of helpers
abbrev pub inner_of : Sight → Text → List EntityId → Pairs → Inner
inner_of sight service targets fields =
    option_map_or Inner.Does (own_item sight.scripts service targets fields) (inner_of_helpers sight service targets fields)
