-- An entity id as contracts see it, and the text in which it is kept.
use Rattle.std.specs.Prelude.{◌≡◌, ℕ, List, [], ◌∷◌, ◌++◌, Option, Some, None, IsUtf8, refl}
use Rattle.std.specs.Coded.{Coded, code_by, coded×, coded_list, coded_ℕ}
use Rattle.ha_value.specs.Lists.{before_first, after_first}

-- the two parts of an id
pub record Entity : Type 0 where
  pub domain : List ℕ
  pub object : List ℕ

abbrev pub entity_code : Coded Entity
entity_code = code_by (List ℕ × List ℕ) (coded× (coded_list coded_ℕ) (coded_list coded_ℕ)) (λ e. (e.domain, e.object)) (λ p. record { domain = p.0; object = p.1 }) (λ _. refl)

abbrev pub behind : Option (List ℕ) → List ℕ
behind None = []
behind (Some rest) = rest

-- what follows the first dot
abbrev pub object_in : List ℕ → List ℕ
object_in text = behind (after_first 46 text)

-- the id that a text with a dot is kept for
abbrev pub entity_in : List ℕ → Entity
entity_in text = record { domain = before_first 46 text; object = object_in text }

-- the text has a dot, and characters on its two sides
pub record IsKept (text : List ℕ) : Type 0 where
  pub written : text ≡ before_first 46 text ++ 46 ∷ object_in text
  pub domain : IsUtf8 (before_first 46 text)
  pub object : IsUtf8 (object_in text)
