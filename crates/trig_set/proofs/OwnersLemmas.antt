-- Owners gone through one after the other.
use Rattle.std.proofs.lemmas.List.{take-append-le, take_all}
use Rattle.std.proofs.Common.{take, drop, ◌≡◌, ℕ, zero, suc, ◌+◌, ◌≤◌, List, [], ◌∷◌, ◌++◌, length, map, false, refl, sym, ap, subst, ◌∙◌, arith, append_assoc, append-nil}
use Rattle.std.specs.Prelude.{Some, None, MatchOption, flat_map, slice_get, nat_eq}
use Rattle.std.specs.Option.{option_map_or}
use Rattle.std.proofs.lemmas.Bool.Decides.{nat_tests}
use Rattle.ha_journal.specs.declared.entry.Entry.{Entry}
use Rattle.ha_journal.specs.Journal.{Journal, more}
use Rattle.ha_config.specs.Words.{numbers_from, up_to}
use Rattle.trig_set.specs.declared.owners.Attached.{Attached}
use Rattle.ha_past.specs.Firings.{firings_of, firings}
use Rattle.trig_set.specs.Order.{owner_of}
use Rattle.trig_set.specs.Stands.{AtOwner, firings_at}
use Rattle.ha_past.proofs.ListLemmas.{up_to-snoc}

pub at-along : (P : Attached → Type 0) (xs ys : List Attached) (n : ℕ) → slice_get xs n ≡ slice_get ys n → AtOwner ys n P → AtOwner xs n P
at-along P xs ys n e h = subst (λ o. MatchOption o (Unit {0}) P) (sym e) h

pub get-beyond : {X : Type 0} (xs : List X) (n : ℕ) → length xs ≤ n → slice_get xs n ≡ None
get-beyond [] n le = refl
get-beyond (x ∷ xs) zero le = absurd (omega (arith, le))
get-beyond (x ∷ xs) (suc n) le = get-beyond xs n (omega (arith, le))

pub fires-beyond : (j : Journal) (x : Entry) (xs : List Attached) (n : ℕ) → length xs ≤ n → firings_at j x xs n ≡ []
fires-beyond j x xs n le = ap (λ o. option_map_or (λ a. firings_of (more j x) (length j) (owner_of a)) o []) (get-beyond xs n le)

pub at-beyond : (P : Attached → Type 0) (xs : List Attached) (n : ℕ) → length xs ≤ n → AtOwner xs n P
at-beyond P xs n le = subst (λ o. MatchOption o (Unit {0}) P) (sym (get-beyond xs n le)) tt

flat-snoc : {X Y : Type 0} (f : X → List Y) (xs : List X) (x : X) → flat_map f (xs ++ (x ∷ [])) ≡ flat_map f xs ++ f x
flat-snoc f [] x = append-nil (f x)
flat-snoc f (y ∷ ys) x = (λ i. f y ++ flat-snoc f ys x i) ∙ sym (append_assoc (f y) (flat_map f ys) (f x))

pub flat-up : {Y : Type 0} (f : ℕ → List Y) (n : ℕ) → flat_map f (up_to (n + 1)) ≡ flat_map f (up_to n) ++ f n
flat-up f n = (let e : n + 1 ≡ suc n = omega arith in λ i. flat_map f (up_to (e i))) ∙ (λ i. flat_map f (up_to-snoc n i)) ∙ flat-snoc f (up_to n) n

pub fired-along : (j : Journal) (x : Entry) (xs ys : List Attached) (n : ℕ) → slice_get xs n ≡ slice_get ys n → firings_at j x xs n ≡ firings_at j x ys n
fired-along j x xs ys n e = (λ i. option_map_or (λ a. firings_of (more j x) (length j) (owner_of a)) (e i) [])

pub apart : (a b : ℕ) → a + 1 ≤ b → nat_eq a b ≡ false
apart a b le = grind (arith, nat_tests, le)

get-behind : {X : Type 0} (front : List X) (t : X) (rest : List X) → slice_get (front ++ (t ∷ rest)) (length front) ≡ Some t
get-behind [] t rest = refl
get-behind (x ∷ xs) t rest = get-behind xs t rest

length-one : {X : Type 0} (front : List X) (t : X) → length (front ++ (t ∷ [])) ≡ length front + 1
length-one [] t = refl
length-one (x ∷ xs) t = omega (arith, length-one xs t)

module _ (j : Journal) (x : Entry) (all : List Attached) where
  from-place : (front rest : List Attached) → all ≡ front ++ rest → flat_map (firings_at j x all) (numbers_from (length front) (length rest)) ≡ flat_map (firings_of (more j x) (length j)) (map owner_of rest)
  from-place front [] is = refl
  from-place front (a ∷ rest) is =
      (λ i. option_map_or (λ b. firings_of (more j x) (length j) (owner_of b)) ((ap (λ l. slice_get l (length front)) is ∙ get-behind front a rest) i) [] ++ flat_map (firings_at j x all) (numbers_from (length front + 1) (length rest)))
      ∙ (λ i. firings_of (more j x) (length j) (owner_of a) ++ flat_map (firings_at j x all) (numbers_from (sym (length-one front a) i) (length rest)))
      ∙ (λ i. firings_of (more j x) (length j) (owner_of a) ++ from-place (front ++ (a ∷ [])) rest (is ∙ sym (append_assoc front (a ∷ []) rest)) i)

-- LAW: what the owners fire with, one after the other
pub owners-fire : (j : Journal) (x : Entry) (owners : List Attached) → flat_map (firings_at j x owners) (up_to (length owners)) ≡ firings (more j x) (length j) (map owner_of owners)
owners-fire j x owners = from-place j x owners [] owners refl

pub written : {X : Type 0} (len : ℕ) (new old : List X) → len ≡ length new → take len (new ++ drop (length new) old) ≡ new
written len new old e =
    (λ i. take (e i) (new ++ drop (length new) old))
    ∙ take-append-le (length new) new (drop (length new) old) (omega arith)
    ∙ take_all (length new) new (omega arith)
