-- Tests of pairs and of lists, joined and taken apart.
use Rattle.std.proofs.Common.{◌≡◌, ◌∙◌, refl, ◌+◌, ◌<◌, Bool, true, List, [], ◌∷◌, ◌++◌, length, map, arith}
use Rattle.std.specs.Prelude.{◌&&◌}
use Rattle.std.specs.List.{list_all}
use Rattle.std.proofs.lemmas.Bool.{and_parts, lt-ltb}
use Rattle.std.proofs.lemmas.List.Folds.{list_all-append, list_all-map}
use Rattle.std.proofs.lemmas.List.{length-map}
use Rattle.ha_config.specs.Sound.{all_true, all_short, is_short}

pub pair : (a b : Bool) → a ≡ true → b ≡ true → (a && b) ≡ true
pair a b h k = rw (h, k) refl

pub short : {X : Type 0} (xs : List X) → length xs < 4_294_967_296 → is_short xs ≡ true
short xs h = lt-ltb (length xs) 4_294_967_296 h

pub all_passed : {X : Type 0} (test : X → Bool) (xs : List X) → list_all test xs ≡ true → length xs < 4_294_967_296 → all_short test xs ≡ true
all_passed test xs all few = pair (is_short xs) (list_all test xs) (short xs few) all

-- the same where the tests of the members stand in a list
pub all_mapped : {X : Type 0} (test : X → Bool) (xs : List X) → list_all test xs ≡ true → length xs < 4_294_967_296 → all_true (map test xs) ≡ true
all_mapped test xs all few =
    all_passed (λ b. b) (map test xs) (list_all-map (λ b. b) test xs ∙ all) (omega (arith, few, length-map xs test))

pub one_more : {X : Type 0} (test : X → Bool) (xs : List X) (x : X) → list_all test xs ≡ true → test x ≡ true → list_all test (xs ++ x ∷ []) ≡ true
one_more test xs x all here = list_all-append test xs (x ∷ []) ∙ pair (list_all test xs) (test x && true) all (pair (test x) true here refl)

pub both_lists : {X : Type 0} (test : X → Bool) (xs ys : List X) → list_all test xs ≡ true → list_all test ys ≡ true → list_all test (xs ++ ys) ≡ true
both_lists test xs ys h k = list_all-append test xs ys ∙ pair (list_all test xs) (list_all test ys) h k

-- two tests of each member
pub apart : {X : Type 0} (p q : X → Bool) (xs : List X) → list_all (λ x. p x && q x) xs ≡ true → (list_all p xs ≡ true) × (list_all q xs ≡ true)
apart p q [] h = (refl, refl)
apart p q (x ∷ xs) h =
    let here = and_parts (p x && q x) (list_all (λ y. p y && q y) xs) h in
    let two = and_parts (p x) (q x) here.0 in
    let rest = apart p q xs here.1 in
    (pair (p x) (list_all p xs) two.0 rest.0, pair (q x) (list_all q xs) two.1 rest.1)
