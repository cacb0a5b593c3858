-- Numbers by name, and by id.
use Rattle.std.specs.Prelude.{ℕ, Bool, false, String}
use Rattle.std.specs.Option.{option_map_or}
use Rattle.std.specs.Ordering.{nat_cmp}
use Rattle.std.specs.BTreeSet.{BTreeSet, contains}
use Rattle.std.specs.HashMap.{HashMap, get_by_text}
use Rattle.ha_value.specs.declared.value.EntityId.{EntityId}
use Rattle.ha_value.specs.Ids.{for_id}
use Rattle.ha_config.specs.Words.{Text}

abbrev pub has : BTreeSet ℕ → ℕ → Bool
has set n = contains nat_cmp set n

-- the number stands under the name
abbrev pub has_at : {Y S : Type 0} → HashMap (String Y) (BTreeSet ℕ) S → Text → ℕ → Bool
has_at lists q n = option_map_or (λ set. has set n) (get_by_text lists q) false

-- it stands under the id
abbrev pub has_for : {Y S : Type 0} → HashMap (String Y) (BTreeSet ℕ) S → EntityId → ℕ → Bool
has_for lists e n = for_id false (λ q. has_at lists q n) e
