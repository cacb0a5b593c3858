-- The names of automations: each the one that it asks for, or the first one behind it that no earlier automation has.
use Rattle.std.specs.Prelude.{ℕ, ◌+◌, Bool, not, if◌then◌else◌, List, [], ◌∷◌, ◌++◌, length, Option, unwrap_or, bytes_eq, decimal, codes}
use Rattle.std.specs.List.{find, list_any, range_with_len}
use Rattle.ha_config.specs.declared.config.Automation.{Automation}
use Rattle.conf_field.specs.Readings.{Read, both, made}

abbrev pub is_taken : List Automation → List ℕ → Bool
is_taken all name = list_any (λ a. bytes_eq a.name name) all

abbrev pub numbered : List ℕ → ℕ → List ℕ
numbered name n = name ++ codes "_" ++ decimal n

-- the least number from 2 on whose name is free; one of so many is
abbrev pub free_number : List Automation → List ℕ → Option ℕ
free_number all name = find (λ n. not (is_taken all (numbered name n))) (range_with_len 2 (length all + 1))

abbrev pub with_number : List Automation → List ℕ → List ℕ
with_number all name = numbered name (unwrap_or (free_number all name) 2)

abbrev pub free_name : List Automation → List ℕ → List ℕ
free_name all name = if is_taken all name then with_number all name else name

abbrev pub renamed : List ℕ → Automation → Automation
renamed name a = record a { name = name }

-- one automation more, by a free name
abbrev pub add : List Automation → Automation → List Automation
add all a = all ++ renamed (free_name all a.name) a ∷ []

abbrev pub joined : Read (List Automation) → Read Automation → Read (List Automation)
joined before item = made (λ p. add p.0 p.1) (both before item)
