-- The numbers of units where a configuration comes into force behind another. Automations and scripts go by one rule, each kind among its
-- own; `equal` tells whether two of a kind are equal in every field.
use Rattle.std.specs.Prelude.{ℕ, suc, ◌≡◌, Bool, false, nat_eq, List, [], ◌∷◌, filter, find, slice_get, Option, Some, is_none, option_map}
use Rattle.std.specs.List.{list_any}
use Rattle.std.specs.Option.{option_map_or}
use Rattle.ha_config.specs.declared.config.Automation.{Automation}

-- the number of one in force that is equal in every field, its name among them: it is kept
abbrev pub kept_number : {A : Type 0} → (A → A → Bool) → List (ℕ × A) → A → Option ℕ
kept_number equal old y = option_map (λ p. p.0) (find (λ p. equal p.1 y) old)

-- what comes into force, with its numbers: what is kept has the old one, and the others get the next free ones
abbrev pub numbered : {A : Type 0} → (A → A → Bool) → List (ℕ × A) → ℕ → List A → List (ℕ × A)
numbered equal old free [] = []
numbered equal old free (y ∷ ys) =
    option_map_or (λ n. (n, y) ∷ numbered equal old free ys) (kept_number equal old y) ((free, y) ∷ numbered equal old (suc free) ys)

-- what is not kept
abbrev pub fresh : {A : Type 0} → (A → A → Bool) → List (ℕ × A) → List A → List A
fresh equal old ys = filter (λ y. is_none (kept_number equal old y)) ys

-- one of this number is among these
abbrev pub has_number : {A : Type 0} → List (ℕ × A) → ℕ → Bool
has_number all a = list_any (λ p. nat_eq p.0 a) all

-- one of these keeps the number
abbrev pub keeps_number : {A : Type 0} → (A → A → Bool) → List (ℕ × A) → List A → ℕ → Bool
keeps_number equal old ys n = list_any (λ y. option_map_or (λ m. nat_eq m n) (kept_number equal old y) false) ys

-- each of these has its own number among all units
abbrev pub AreUnits : {A : Type 0} → (A → Automation) → List Automation → List (ℕ × A) → Type 0
AreUnits unit us [] = Unit {0}
AreUnits unit us (p ∷ ps) = (slice_get us p.0 ≡ Some (unit p.1)) × AreUnits unit us ps
