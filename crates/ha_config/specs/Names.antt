-- The automations of a list by their places, and by their names.
use Rattle.std.specs.Prelude.{ℕ, List, [], ◌∷◌, Option, slice_get, Bool, Some, None, filter, find, map, is_some, option_map, unwrap_or, if◌then◌else◌}
use Rattle.std.specs.Option.{option_map_or}
use Rattle.ha_config.specs.declared.config.Automation.{Automation}
use Rattle.ha_config.specs.Words.{Text, same}
use Rattle.std.specs.List.{enumerate_from}

-- the automation of a number, by its place in the list
abbrev pub unit_of : List Automation → ℕ → Option Automation
unit_of all n = slice_get all n

-- the number of the one of this name, among automations with their numbers
abbrev pub named_among : List (ℕ × Automation) → Text → Option ℕ
named_among all name = option_map (λ p. p.0) (find (λ p. same p.1.name name) all)

-- the place of the automation of this name
abbrev pub automation_named : List Automation → Text → Option ℕ
automation_named all name = named_among (enumerate_from 0 all) name

-- the name of automation a, and its initial state, if it has one
abbrev pub name_of : List Automation → ℕ → Text
name_of all a = option_map_or (λ x. x.name) (unit_of all a) []

-- the names of units, each at its number
abbrev pub names_of : List Automation → List Text
names_of all = map {A = Automation} {B = Text} (λ x. x.name) all

-- the name at a number; where there is none it is empty
abbrev pub name_in : List Text → ℕ → Text
name_in names a = unwrap_or (slice_get names a) []

abbrev pub initial_of : List Automation → ℕ → Option Bool
initial_of all a = option_map_or (λ x. x.initial) (unit_of all a) None

-- the stored switch of a name
abbrev pub stored_switch : Text → List (Text × Bool) → Option Bool
stored_switch name [] = None
stored_switch name (p ∷ ps) = if same p.0 name then Some p.1 else stored_switch name ps

-- of moments under names those of names that an automation has
abbrev pub of_automations : List Automation → List (Text × ℕ) → List (Text × ℕ)
of_automations all ms = filter (λ p. is_some (automation_named all p.0)) ms
