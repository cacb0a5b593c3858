-- Numbers in the order of the names that have them, and what is listed of them so.
use Rattle.std.specs.Prelude.{◌≡◌, ℕ, suc, true, List, [], ◌∷◌, length, nat_eq, Option, option_map, filter_map, if◌then◌else◌}
use Rattle.ha_config.specs.declared.config.Automation.{Automation}
use Rattle.ha_config.specs.Words.{Text, comes_before, same, up_to}
use Rattle.ha_config.specs.Names.{name_in, names_of}

-- a number among others, in the byte order of the names
abbrev pub put_by_name : List Text → ℕ → List ℕ → List ℕ
put_by_name names a [] = a ∷ []
put_by_name names a (b ∷ bs) = if comes_before (name_in names a) (name_in names b) then a ∷ b ∷ bs else b ∷ put_by_name names a bs

abbrev pub sorted : List Text → List ℕ → List ℕ
sorted names [] = []
sorted names (a ∷ rest) = put_by_name names a (sorted names rest)

-- all of them
abbrev pub by_name : List Text → List ℕ
by_name names = sorted names (up_to (length names))

-- all automations by theirs
abbrev pub rule_order : List Automation → List ℕ
rule_order rules = by_name (names_of rules)

-- of these each that has a value, with its name
abbrev pub listed : {X : Type 0} → List Text → (ℕ → Option X) → List ℕ → List (Text × X)
listed names value chosen = filter_map (λ a. option_map (λ v. (name_in names a, v)) (value a)) chosen

-- ---- numbers under names, which stand in their byte order

-- with this number under a name
abbrev pub with_number : Text → ℕ → List (Text × ℕ) → List (Text × ℕ)
with_number name n [] = (name, n) ∷ []
with_number name n (p ∷ ps) =
    if comes_before p.0 name then p ∷ with_number name n ps
    else if same p.0 name then (name, n) ∷ ps
    else (name, n) ∷ p ∷ ps

-- the same, where the number is not 0
abbrev pub with_some : Text → ℕ → List (Text × ℕ) → List (Text × ℕ)
with_some name n ps = if nat_eq n 0 then ps else with_number name n ps

-- with those of these names, the one at place a, counted from n on, having number (a)
abbrev pub numbers_with : (ℕ → ℕ) → ℕ → List Text → List (Text × ℕ) → List (Text × ℕ)
numbers_with number n [] ps = ps
numbers_with number n (name ∷ names) ps = numbers_with number (suc n) names (with_some name (number n) ps)

-- these under their names, one after the other
abbrev pub put_all : List (Text × ℕ) → List (Text × ℕ) → List (Text × ℕ)
put_all [] ps = ps
put_all (q ∷ qs) ps = put_all qs (with_number q.0 q.1 ps)

-- a name stands before each of these
abbrev pub StandsBefore : Text → List (Text × ℕ) → Type 0
StandsBefore name [] = Unit {0}
StandsBefore name (p ∷ ps) = (comes_before name p.0 ≡ true) × StandsBefore name ps

-- the names stand in their byte order, each once
abbrev pub Ascends : List (Text × ℕ) → Type 0
Ascends [] = Unit {0}
Ascends (p ∷ ps) = StandsBefore p.0 ps × Ascends ps

-- those at the front whose names stand before this one, and the others
abbrev pub front_of : Text → List (Text × ℕ) → List (Text × ℕ)
front_of name [] = []
front_of name (p ∷ ps) = if comes_before p.0 name then p ∷ front_of name ps else []

abbrev pub back_of : Text → List (Text × ℕ) → List (Text × ℕ)
back_of name [] = []
back_of name (p ∷ ps) = if comes_before p.0 name then back_of name ps else p ∷ ps

-- without the first, where it has this name
abbrev pub past : Text → List (Text × ℕ) → List (Text × ℕ)
past name [] = []
past name (p ∷ ps) = if same p.0 name then ps else p ∷ ps
