-- Who is recent, as owners come and go, and entries are noted.
use Rattle.std.proofs.Common.{◌≡◌, ◌∙◌, ℕ, zero, suc, ◌≤◌, ◌<◌, List, [], ◌∷◌, map, Bool, true, false, refl, sym, ap, arith}
use Rattle.std.specs.Prelude.{Option, Some, None, MatchOption, not, nat_eq, nat_le, nat_lt, slice_get, ◌&&◌, ◌||◌, if◌then◌else◌}
use Rattle.std.specs.BTreeSet.{BTreeSet}
use Rattle.std.specs.List.{list_all}
use Rattle.std.proofs.lemmas.Bool.Decides.{nat_tests}
use Rattle.ha_config.proofs.EqualLemmas.{and_left, and_right}
use Rattle.event_bus.specs.Lists.{has}
use Rattle.event_bus.proofs.AnyLemmas.{or-true}
use Rattle.ha_past.specs.Firings.{Owner, placed, without_owner}
use Rattle.trig_set.specs.declared.owners.Attached.{Attached}
use Rattle.trig_set.specs.declared.recent.Recent.{Recent}
use Rattle.trig_set.specs.Noted.{AreNoted, is_noted}
use Rattle.trig_set.specs.Order.{owner_of}
use Rattle.trig_set.specs.Stands.{AtOwner}

both : (a b : Bool) → a ≡ true → b ≡ true → (a && b) ≡ true
both a b h k = (λ i. h i && b) ∙ k

all-then : (f g : Owner → Bool) (xs : List Owner) → ((o : Owner) → f o ≡ true → g o ≡ true) → list_all f xs ≡ true → list_all g xs ≡ true
all-then f g [] step h = refl
all-then f g (x ∷ xs) step h = both (g x) (list_all g xs) (step x (and_left (f x) (list_all f xs) h)) (all-then f g xs step (and_right (f x) (list_all f xs) h))

all-placed : (f : Owner → Bool) (o : Owner) (xs : List Owner) → f o ≡ true → list_all f xs ≡ true → list_all f (placed o xs) ≡ true
all-placed f o [] here h = both (f o) true here refl
all-placed f o (x ∷ xs) here h = by (nat_lt o.owner x.owner) (all-placed f o xs here (and_right (f x) (list_all f xs) h))
  where
    by : (b : Bool) → list_all f (placed o xs) ≡ true → list_all f (if b then o ∷ x ∷ xs else x ∷ placed o xs) ≡ true
    by true rest = both (f o) _ here h
    by false rest = both (f x) _ (and_left (f x) (list_all f xs) h) rest

all-without : (f : Owner → Bool) (n : ℕ) (xs : List Owner) → list_all f xs ≡ true → list_all f (without_owner n xs) ≡ true
all-without f n [] h = refl
all-without f n (x ∷ xs) h = by (not (nat_eq x.owner n)) (all-without f n xs (and_right (f x) (list_all f xs) h))
  where
    by : (b : Bool) → list_all f (without_owner n xs) ≡ true → list_all f (if b then x ∷ without_owner n xs else without_owner n xs) ≡ true
    by true rest = both (f x) _ (and_left (f x) (list_all f xs) h) rest
    by false rest = rest

all-at : (f : Owner → Bool) (owners : List Attached) (n : ℕ) → list_all f (map owner_of owners) ≡ true → AtOwner owners n (λ a. f (owner_of a) ≡ true)
all-at f [] n h = tt
all-at f (a ∷ rest) zero h = and_left (f (owner_of a)) (list_all f (map owner_of rest)) h
all-at f (a ∷ rest) (suc n) h = all-at f rest n (and_right (f (owner_of a)) (list_all f (map owner_of rest)) h)

-- where more are recent, and the place is no earlier
wider : (old new : Bool) (since place next : ℕ) → (old ≡ true → new ≡ true) → place ≤ next → (old || nat_lt since place) ≡ true → (new || nat_lt since next) ≡ true
wider true new since place next more le h = ap (λ b. b || nat_lt since next) (more refl)
wider false new since place next more le h =
    let before : nat_lt since place ≡ true = h in
    let behind : nat_lt since next ≡ true = grind (arith, nat_tests, le, before) in
    ap (λ b. new || b) behind ∙ or-true new

module _ (old new : Recent) (more : (n : ℕ) → has old.owners n ≡ true → has new.owners n ≡ true) (later : old.latest ≤ new.latest) where
  latest-along : (o : Owner) → nat_le o.since old.latest ≡ true → nat_le o.since new.latest ≡ true
  latest-along o h = grind (arith, nat_tests, later, h)

  -- LAW: where more are recent, they are noted too, also of a later place
  pub noted-along : (place next : ℕ) (owners : List Owner) → place ≤ next → AreNoted old place owners → AreNoted new next owners
  noted-along place next owners le h = record {
    noted = all-then (is_noted old place) (is_noted new next) owners (λ o. wider (has old.owners o.owner) (has new.owners o.owner) o.since place next (more o.owner) le) h.noted;
    latest = all-then (λ o. nat_le o.since old.latest) (λ o. nat_le o.since new.latest) owners latest-along h.latest;
  }

  -- LAW: with one more owner who is recent
  pub noted-placed : (place : ℕ) (owners : List Owner) (o : Owner) → has new.owners o.owner ≡ true → o.since ≤ new.latest → AreNoted old place owners → AreNoted new place (placed o owners)
  noted-placed place owners o here le h =
      let along = noted-along place place owners (omega arith) h in
      let early : nat_le o.since new.latest ≡ true = grind (arith, nat_tests, le) in
      record {
        noted = all-placed (is_noted new place) o owners (ap (λ b. b || nat_lt o.since place) here) along.noted;
        latest = all-placed (λ b. nat_le b.since new.latest) o owners early along.latest;
      }

-- LAW: the entry at a place was noted, and nobody is attached at a later one
pub noted-all : (old new : Recent) (place next : ℕ) (owners : List Owner) → new.latest ≡ old.latest → old.latest ≤ place → place < next → AreNoted old place owners → AreNoted new next owners
noted-all old new place next owners same le lt h = record {
  noted = all-then (λ o. nat_le o.since old.latest) (is_noted new next) owners behind h.latest;
  latest = all-then (λ o. nat_le o.since old.latest) (λ o. nat_le o.since new.latest) owners (λ o k. ap (nat_le o.since) same ∙ k) h.latest;
}
  where
    behind : (o : Owner) → nat_le o.since old.latest ≡ true → is_noted new next o ≡ true
    behind o k =
        let early : nat_lt o.since next ≡ true = grind (arith, nat_tests, le, lt, k) in
        ap (λ b. has new.owners o.owner || b) early ∙ or-true (has new.owners o.owner)

-- LAW: without an owner
pub noted-without : (recent : Recent) (place n : ℕ) (owners : List Owner) → AreNoted recent place owners → AreNoted recent place (without_owner n owners)
noted-without recent place n owners h = record {
  noted = all-without (is_noted recent place) n owners h.noted;
  latest = all-without (λ o. nat_le o.since recent.latest) n owners h.latest;
}

-- LAW: an entry behind the place of an owner who is not recent was noted
pub noted-at : (recent : Recent) (place : ℕ) (owners : List Attached) (n : ℕ) → AreNoted recent place (map owner_of owners) → AtOwner owners n (λ a. has recent.owners a.owner ≡ false → nat_lt a.since place ≡ true)
noted-at recent place owners n h = by (slice_get owners n) (all-at (is_noted recent place) owners n h.noted)
  where
    by : (o : Option Attached) → MatchOption o (Unit {0}) (λ a. is_noted recent place (owner_of a) ≡ true) → MatchOption o (Unit {0}) (λ a. has recent.owners a.owner ≡ false → nat_lt a.since place ≡ true)
    by None k = tt
    by (Some a) k = λ none. ap (λ b. b || nat_lt a.since place) (sym none) ∙ k

-- LAW: who was in a set is in it with one more
pub put-more : (old new : BTreeSet ℕ) (n : ℕ) → has new n ≡ true → ((m : ℕ) → nat_eq n m ≡ false → has new m ≡ has old m) → (m : ℕ) → has old m ≡ true → has new m ≡ true
put-more old new n own others m h = by (nat_eq n m) refl
  where
    by : (b : Bool) → nat_eq n m ≡ b → has new m ≡ true
    by true e = (let same : n ≡ m = grind (arith, nat_tests, e) in ap (λ k. has new k) (sym same) ∙ own)
    by false e = others m e ∙ h
