-- A text that is read as an id is that id as it is written.
use Rattle.std.proofs.Common.{◌≡◌, ⊎_elim, ℕ, ◌⊎◌, inl, inr, Bool, true, false, ◌&&◌, nat_eq, if◌then◌else◌, List, [], ◌∷◌, ◌++◌, Option, Some, None, refl, sym, ap, ◌∙◌, arith}
use Rattle.std.proofs.lemmas.Bool.Decides.{nat_tests}
use Rattle.ha_value.specs.declared.value.EntityId.{EntityId}
use Rattle.ha_value.specs.Ids.{is_name, entity_text, entity_from, read_entity}
use Rattle.ha_value.specs.Lists.{before_first, after_first}

test_cases : (b : Bool) → (b ≡ true) ⊎ (b ≡ false)
test_cases true = inl refl
test_cases false = inr refl

joined_cut : (c : ℕ) (xs rest : List ℕ) → after_first c xs ≡ Some rest → before_first c xs ++ c ∷ rest ≡ xs
joined_cut c [] rest h = absurd (cc)
joined_cut c (x ∷ xs) rest h = ⊎_elim
    (λ (e : nat_eq x c ≡ true).
    let same : x ≡ c = grind (arith, nat_tests) in
    let all : Some xs ≡ Some rest = rw e at h in
    rw e (let tail : xs ≡ rest = cc in rw (same, tail) refl))
    (λ (e : nat_eq x c ≡ false). rw e (ap (λ r. x ∷ r) (joined_cut c xs rest (rw e at h))))
    (test_cases (nat_eq x c))

abbrev id_of : List ℕ → List ℕ → EntityId
id_of domain object = record { domain = domain; object = object }

of_parts : (domain object : List ℕ) (b : Bool) (id : EntityId) → (if b then Some (id_of domain object) else None) ≡ Some id → entity_text id ≡ domain ++ 46 ∷ object
of_parts domain object true id h =
    let all : Some (id_of domain object) ≡ Some id = h in
    let same : id_of domain object ≡ id = cc in
    sym (ap entity_text same)
of_parts domain object false id h = let none : None ≡ Some id = h in absurd (cc)

from_cut : (t domain : List ℕ) (o : Option (List ℕ)) (id : EntityId) → before_first 46 t ≡ domain → after_first 46 t ≡ o
    → entity_from domain o ≡ Some id → entity_text id ≡ t
from_cut t domain None id before after h = let none : None ≡ Some id = h in absurd (cc)
from_cut t domain (Some object) id before after h =
    of_parts domain object (is_name domain && is_name object) id h ∙ ap (λ d. d ++ 46 ∷ object) (sym before) ∙ joined_cut 46 t object after

pub written : (t : List ℕ) (id : EntityId) → read_entity t ≡ Some id → entity_text id ≡ t
unfolding read_entity
written t id h = from_cut t (before_first 46 t) (after_first 46 t) id refl refl h
