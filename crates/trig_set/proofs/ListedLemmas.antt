-- Whom an index has, with one more owner and without one.
use Rattle.std.proofs.Common.{◌≡◌, ◌∙◌, ℕ, zero, suc, ◌+◌, List, [], ◌∷◌, ◌++◌, length, map, Bool, true, false, refl, sym, ap, subst, arith}
use Rattle.std.specs.Prelude.{Option, Some, None, IsNone, MatchOption, flat_map, not, nat_eq, nat_lt, slice_get, ◌&&◌, ◌||◌, if◌then◌else◌}
use Rattle.std.specs.List.{enumerate_from, list_all, list_any}
use Rattle.std.proofs.lemmas.Bool.Decides.{nat_tests}
use Rattle.ha_value.specs.declared.value.EntityId.{EntityId}
use Rattle.ha_config.specs.declared.config.Trigger.{Trigger}
use Rattle.ha_config.specs.declared.config.TriggerRule.{TriggerRule}
use Rattle.ha_sight.specs.Rules.{each_once, entities_of, without_entity}
use Rattle.ha_config.specs.Words.{same_entity}
use Rattle.ha_config.proofs.EqualLemmas.{and_left, and_right}
use Rattle.ha_past.specs.Firings.{Owner, owner_named, placed, without_owner}
use Rattle.event_bus.specs.declared.index.Index.{Index}
use Rattle.event_bus.specs.Subjects.{Subject, by_entity, concerns, knows}
use Rattle.trig_set.specs.Kept.{places_of}
use Rattle.trig_set.specs.Known.{AreKnown, heed, heed_under, heeds}
use Rattle.trig_set.specs.Listed.{HasAt, HasFor}
use Rattle.trig_set.specs.Order.{ascend}
use Rattle.event_bus.proofs.AnyLemmas.{any-at, or-false, or-true, or-turned}
use Rattle.trig_set.proofs.OrderLemmas.{placed-ascend, without-ascend}

-- ---- what concerns the owners

eq-self : (n : ℕ) → nat_eq n n ≡ true
eq-self n = grind (arith, nat_tests)

-- LAW: what concerns those with a new owner concerns it, or one of them
pub placed-heed : (o : Owner) (owners : List Owner) (n : ℕ) (s : Subject) → heed_under (placed o owners) n s ≡ ((nat_eq o.owner n && heed o.triggers s) || heed_under owners n s)
placed-heed o [] n s = refl
placed-heed o (x ∷ xs) n s = by (nat_lt o.owner x.owner) (placed-heed o xs n s)
  where
    f : Owner → Bool
    f y = nat_eq y.owner n && heed y.triggers s

    by : (b : Bool) → heed_under (placed o xs) n s ≡ (f o || heed_under xs n s) → heed_under (if b then o ∷ x ∷ xs else x ∷ placed o xs) n s ≡ (f o || (f x || heed_under xs n s))
    by true rest = refl
    by false rest = (λ i. f x || rest i) ∙ or-turned (f x) (f o) (heed_under xs n s)

-- LAW: nothing concerns one that is taken out
pub without-heed : (n : ℕ) (owners : List Owner) (s : Subject) → heed_under (without_owner n owners) n s ≡ false
without-heed n [] s = refl
without-heed n (x ∷ xs) s = by (nat_eq x.owner n) refl (without-heed n xs s)
  where
    by : (b : Bool) → nat_eq x.owner n ≡ b → heed_under (without_owner n xs) n s ≡ false → heed_under (if not b then x ∷ without_owner n xs else without_owner n xs) n s ≡ false
    by true e rest = rest
    by false e rest = (λ i. (e i && heed x.triggers s) || heed_under (without_owner n xs) n s) ∙ rest

-- LAW: what concerns the others concerns them
pub others-heed : (n m : ℕ) (owners : List Owner) (s : Subject) → nat_eq n m ≡ false → heed_under (without_owner n owners) m s ≡ heed_under owners m s
others-heed n m [] s apart = refl
others-heed n m (x ∷ xs) s apart = by (nat_eq x.owner n) refl (others-heed n m xs s apart)
  where
    away : nat_eq x.owner n ≡ true → nat_eq x.owner m ≡ false
    away e = grind (arith, nat_tests, e, apart)

    by : (b : Bool) → nat_eq x.owner n ≡ b → heed_under (without_owner n xs) m s ≡ heed_under xs m s
        → heed_under (if not b then x ∷ without_owner n xs else without_owner n xs) m s ≡ ((nat_eq x.owner m && heed x.triggers s) || heed_under xs m s)
    by true e rest = rest ∙ (λ i. (sym (away e) i && heed x.triggers s) || heed_under xs m s)
    by false e rest = (λ i. (nat_eq x.owner m && heed x.triggers s) || rest i)

-- LAW: nothing concerns a number under which nobody is attached
pub none-heed : (n : ℕ) (owners : List Owner) (s : Subject) → IsNone (owner_named n owners) → heed_under owners n s ≡ false
none-heed n [] s none = refl
none-heed n (x ∷ xs) s none = by (nat_eq x.owner n) (none-heed n xs s) none
  where
    by : (b : Bool) → (IsNone (owner_named n xs) → heed_under xs n s ≡ false) → IsNone (if b then Some x else owner_named n xs) → ((b && heed x.triggers s) || heed_under xs n s) ≡ false
    by true rest h = absurd (let bad : ◌≡◌ {A = Bool} true false = h in cc)
    by false rest h = rest h

none-above : (n : ℕ) (xs : List Owner) (s : Subject) → list_all (λ y. nat_lt n y.owner) xs ≡ true → heed_under xs n s ≡ false
none-above n [] s h = refl
none-above n (x ∷ xs) s h =
    (λ i. (other (and_left (nat_lt n x.owner) (list_all (λ y. nat_lt n y.owner) xs) h) i && heed x.triggers s) || heed_under xs n s)
    ∙ none-above n xs s (and_right (nat_lt n x.owner) (list_all (λ y. nat_lt n y.owner) xs) h)
  where
    other : nat_lt n x.owner ≡ true → nat_eq x.owner n ≡ false
    other lt = grind (arith, nat_tests, lt)

above-at : (n : ℕ) (xs : List Owner) (k : ℕ) (o : Owner) → list_all (λ y. nat_lt n y.owner) xs ≡ true → slice_get xs k ≡ Some o → nat_lt n o.owner ≡ true
above-at n [] k o h at = absurd (let bad : ◌≡◌ {A = Option Owner} None (Some o) = at in cc)
above-at n (x ∷ xs) zero o h at = (let e : x ≡ o = cc in (λ i. nat_lt n ((sym e i).owner)) ∙ and_left (nat_lt n x.owner) (list_all (λ y. nat_lt n y.owner) xs) h)
above-at n (x ∷ xs) (suc k) o h at = above-at n xs k o (and_right (nat_lt n x.owner) (list_all (λ y. nat_lt n y.owner) xs) h) at

-- LAW: what concerns the number of the owner at a place concerns its triggers
pub heed-at : (owners : List Owner) (k : ℕ) (o : Owner) (s : Subject) → ascend owners ≡ true → slice_get owners k ≡ Some o → heed_under owners o.owner s ≡ heed o.triggers s
heed-at [] k o s asc at = absurd (let bad : ◌≡◌ {A = Option Owner} None (Some o) = at in cc)
heed-at (x ∷ xs) zero o s asc at =
    let e : x ≡ o = cc in
    subst (λ y. heed_under (x ∷ xs) y.owner s ≡ heed y.triggers s) e
    ((λ i. (eq-self x.owner i && heed x.triggers s) || none-above x.owner xs s (and_left (list_all (λ y. nat_lt x.owner y.owner) xs) (ascend xs) asc) i) ∙ or-false (heed x.triggers s))
heed-at (x ∷ xs) (suc k) o s asc at =
    (λ i. (other (above-at x.owner xs k o (and_left (list_all (λ y. nat_lt x.owner y.owner) xs) (ascend xs) asc) at) i && heed x.triggers s) || heed_under xs o.owner s)
    ∙ heed-at xs k o s (and_right (list_all (λ y. nat_lt x.owner y.owner) xs) (ascend xs) asc) at
  where
    other : nat_lt x.owner o.owner ≡ true → nat_eq x.owner o.owner ≡ false
    other lt = grind (arith, nat_tests, lt)

-- ---- an index that changes

-- what holds of a number and of the others holds of all
each-number : (n : ℕ) (P : ℕ → Type 0) → P n → ((m : ℕ) → nat_eq n m ≡ false → P m) → (m : ℕ) → P m
each-number n P here others m = by (nat_eq n m) refl
  where
    by : (b : Bool) → nat_eq n m ≡ b → P m
    by true e = (let same : n ≡ m = grind (arith, nat_tests, e) in subst P same here)
    by false e = others m e

module _ (old new : Index) (owners : List Owner) (known : AreKnown old owners) where
  -- LAW: a new owner is known with the others, where the index has changed for it alone and has it for what concerns it
  pub known-placed : (o : Owner) → IsNone (owner_named o.owner owners) → ((s : Subject) → knows new s o.owner ≡ (heed o.triggers s || knows old s o.owner))
      → ((s : Subject) (n : ℕ) → nat_eq o.owner n ≡ false → knows new s n ≡ knows old s n) → AreKnown new (placed o owners)
  known-placed o none own others = record {
    ascend = placed-ascend o owners none known.ascend;
    exact = λ s. each-number o.owner (λ n. knows new s n ≡ heed_under (placed o owners) n s)
        (own s ∙ (λ i. (sym (eq-self o.owner) i && heed o.triggers s) || known.exact s o.owner i) ∙ sym (placed-heed o owners o.owner s))
        (λ n apart. others s n apart ∙ known.exact s n ∙ (λ i. (sym apart i && heed o.triggers s) || heed_under owners n s) ∙ sym (placed-heed o owners n s));
  }

  -- LAW: where it is as before, the owners are known as before
  pub known-along : ((s : Subject) (n : ℕ) → knows new s n ≡ knows old s n) → AreKnown new owners
  known-along same = record { ascend = known.ascend; exact = λ s n. same s n ∙ known.exact s n }

  -- LAW: without an owner the others are known, where the index changed for it alone and has it no more
  pub known-without : (n : ℕ) → ((s : Subject) → knows new s n ≡ false) → ((s : Subject) (k : ℕ) → nat_eq n k ≡ false → knows new s k ≡ knows old s k) → AreKnown new (without_owner n owners)
  known-without n own others = record {
    ascend = without-ascend n owners known.ascend;
    exact = λ s. each-number n (λ k. knows new s k ≡ heed_under (without_owner n owners) k s)
        (own s ∙ sym (without-heed n owners s))
        (λ k apart. others s k apart ∙ known.exact s k ∙ sym (others-heed n k owners s apart));
  }

-- LAW: a number under which nobody is attached is not known
pub known-none : (index : Index) (owners : List Owner) → AreKnown index owners → (n : ℕ) → IsNone (owner_named n owners) → (s : Subject) → knows index s n ≡ false
known-none index owners known n none s = known.exact s n ∙ none-heed n owners s none

-- LAW: the owner at a place is known for what concerns its triggers
pub known-at : (index : Index) (owners : List Owner) → AreKnown index owners → (k : ℕ) (o : Owner) → slice_get owners k ≡ Some o → (s : Subject) → knows index s o.owner ≡ heed o.triggers s
known-at index owners known k o at s = known.exact s o.owner ∙ heed-at owners k o s known.ascend at

-- LAW: where nothing is left of a number that was not known, and the others are as before, all is
pub none-left : (old new : Index) (n : ℕ) → ((s : Subject) → knows old s n ≡ false) → ((s : Subject) → knows old s n ≡ false → knows new s n ≡ false)
    → ((s : Subject) (k : ℕ) → nat_eq n k ≡ false → knows new s k ≡ knows old s k) → (s : Subject) (k : ℕ) → knows new s k ≡ knows old s k
none-left old new n none own others s = each-number n (λ k. knows new s k ≡ knows old s k) (own s (none s) ∙ sym (none s)) (others s)

-- LAW: what was put in for an owner that was not known, and taken out again
pub put-taken : (c old mid new : Bool) → mid ≡ (c || old) → new ≡ (not c && mid) → old ≡ false → new ≡ false
put-taken true old mid new put is none = is
put-taken false old mid new put is none = is ∙ put ∙ none

-- LAW: what is taken out where nothing else was
pub all-taken : (c old new : Bool) → old ≡ c → new ≡ (not c && old) → new ≡ false
all-taken true old new had is = is
all-taken false old new had is = is ∙ had

-- LAW: where a part was put in for an owner that was not known, and all is taken out again, nothing is left of it
pub taken-again : (c old mid new : Bool) → (mid ≡ true → (c || old) ≡ true) → new ≡ (not c && mid) → old ≡ false → new ≡ false
taken-again true old mid new part is none = is
taken-again false old true new part is none = is ∙ sym (part refl) ∙ none
taken-again false old false new part is none = is

-- ---- one trigger and one of its entities

any-once : (f : EntityId → Bool) (xs : List EntityId) → list_any f (each_once xs) ≡ true → list_any f xs ≡ true
any-once f [] h = h
any-once f (x ∷ xs) h = by (f x) (λ k. any-once f xs (fewer x (each_once xs) k)) h
  where
    fewer : (e : EntityId) (ys : List EntityId) → list_any f (without_entity e ys) ≡ true → list_any f ys ≡ true
    fewer e [] h = h
    fewer e (y ∷ ys) h = of (same_entity e y) (fewer e ys) h
      where
        more : (b : Bool) → (list_any f (without_entity e ys) ≡ true → list_any f ys ≡ true) → (b || list_any f (without_entity e ys)) ≡ true → (b || list_any f ys) ≡ true
        more true g h = refl
        more false g h = g h

        of : (b : Bool) → (list_any f (without_entity e ys) ≡ true → list_any f ys ≡ true) → list_any f (if b then without_entity e ys else y ∷ without_entity e ys) ≡ true → (f y || list_any f ys) ≡ true
        of true g h = ap (λ c. f y || c) (g h) ∙ or-true (f y)
        of false g h = more (f y) g h

    by : (b : Bool) → (list_any f (without_entity x (each_once xs)) ≡ true → list_any f xs ≡ true) → (b || list_any f (without_entity x (each_once xs))) ≡ true → (b || list_any f xs) ≡ true
    by true g h = refl
    by false g h = g h

any-some : (f : Option EntityId → Bool) (xs : List EntityId) → list_any f (map Some xs) ≡ true → list_any (λ e. f (Some e)) xs ≡ true
any-some f [] h = h
any-some f (x ∷ xs) h = by (f (Some x)) (any-some f xs) h
  where
    by : (b : Bool) → (list_any f (map Some xs) ≡ true → list_any (λ e. f (Some e)) xs ≡ true) → (b || list_any f (map Some xs)) ≡ true → (b || list_any (λ e. f (Some e)) xs) ≡ true
    by true g h = refl
    by false g h = g h

-- LAW: what concerns a trigger for one of its entities concerns it
pub heeds-for : (rule : TriggerRule) (n : ℕ) (e : Option EntityId) (s : Subject) → slice_get (entities_of rule) n ≡ Some e → concerns rule e s ≡ true → heeds rule s ≡ true
heeds-for (TriggerRule.State entities attribute from to) n e s at h =
    any-once (λ e. by_entity (Some e) s) entities (any-some (λ o. by_entity o s) (each_once entities) (any-at (λ o. by_entity o s) (map Some (each_once entities)) n e at h))
heeds-for (TriggerRule.Numeric entities attribute above below) n e s at h =
    any-once (λ e. by_entity (Some e) s) entities (any-some (λ o. by_entity o s) (each_once entities) (any-at (λ o. by_entity o s) (map Some (each_once entities)) n e at h))
heeds-for (TriggerRule.Event kinds pairs) n e s at h = h
heeds-for (TriggerRule.Time seconds) n e s at h = h
heeds-for (TriggerRule.Pattern hours minutes seconds) n e s at h = h
heeds-for (TriggerRule.Template t) n None s at h = h
heeds-for (TriggerRule.Template t) zero (Some y) s at h = absurd (let bad : ◌≡◌ {A = Option (Option EntityId)} (Some None) (Some (Some y)) = at in cc)
heeds-for (TriggerRule.Template t) (suc n) (Some y) s at h = absurd (let bad : ◌≡◌ {A = Option (Option EntityId)} None (Some (Some y)) = at in cc)
heeds-for TriggerRule.Start n e s at h = h

-- ---- the places of an owner's triggers

all-append : {X : Type 0} (P : X → Type 0) (xs ys : List X) → ((n : ℕ) → MatchOption (slice_get xs n) (Unit {0}) P) → ((n : ℕ) → MatchOption (slice_get ys n) (Unit {0}) P) → (n : ℕ) → MatchOption (slice_get (xs ++ ys) n) (Unit {0}) P
all-append P [] ys h k n = k n
all-append P (x ∷ xs) ys h k zero = h zero
all-append P (x ∷ xs) ys h k (suc n) = all-append P xs ys (λ m. h (suc m)) k n

all-map : {X Y : Type 0} (f : X → Y) (P : Y → Type 0) (xs : List X) → ((n : ℕ) (x : X) → slice_get xs n ≡ Some x → P (f x)) → (n : ℕ) → MatchOption (slice_get (map f xs) n) (Unit {0}) P
all-map f P [] h n = tt
all-map f P (x ∷ xs) h zero = h zero x refl
all-map f P (x ∷ xs) h (suc n) = all-map f P xs (λ m y at. h (suc m) y at) n

get-behind : (front : List Trigger) (t : Trigger) (rest : List Trigger) → slice_get (front ++ (t ∷ rest)) (length front) ≡ Some t
get-behind [] t rest = refl
get-behind (x ∷ xs) t rest = get-behind xs t rest

module _ (P : ℕ × Option EntityId → Type 0) (triggers : List Trigger) (each : (k n : ℕ) (t : Trigger) (e : Option EntityId) → slice_get triggers k ≡ Some t → slice_get (entities_of t.rule) n ≡ Some e → P (k, e)) where
  from : (front rest : List Trigger) → triggers ≡ front ++ rest
      → (n : ℕ) → MatchOption (slice_get (flat_map (λ t. map (λ e. (t.0, e)) (entities_of t.1.rule)) (enumerate_from (length front) rest)) n) (Unit {0}) P
  from front [] is = λ n. tt
  from front (t ∷ rest) is =
      all-append P (map (λ e. (length front, e)) (entities_of t.rule)) (flat_map (λ u. map (λ e. (u.0, e)) (entities_of u.1.rule)) (enumerate_from (length front + 1) rest))
      (all-map (λ e. (length front, e)) P (entities_of t.rule) (λ m e at. each (length front) m t e (ap (λ l. slice_get l (length front)) is ∙ get-behind front t rest) at))
      (subst (λ k. (n : ℕ) → MatchOption (slice_get (flat_map (λ u. map (λ e. (u.0, e)) (entities_of u.1.rule)) (enumerate_from k rest)) n) (Unit {0}) P) (longer front)
      (from (front ++ (t ∷ [])) rest (is ∙ joined front)))
    where
      longer : (xs : List Trigger) → length (xs ++ (t ∷ [])) ≡ length xs + 1
      longer [] = refl
      longer (x ∷ xs) = omega (arith, longer xs)

      joined : (xs : List Trigger) → xs ++ (t ∷ rest) ≡ (xs ++ (t ∷ [])) ++ rest
      joined [] = refl
      joined (x ∷ xs) = (λ i. x ∷ joined xs i)

  -- LAW: what holds of each trigger with each of its entities holds at each place
  pub each-place : (n : ℕ) → MatchOption (slice_get (places_of [] triggers) n) (Unit {0}) P
  each-place = from [] triggers refl

-- for each of its triggers and their entities
abbrev pub IsListed : Index → Owner → Type 0
IsListed index o = (n : ℕ) → MatchOption (slice_get (places_of [] o.triggers) n) (Unit {0}) (HasAt index o.owner o.triggers)

-- LAW: each owner that is known is listed for each of its triggers and their entities
pub known-listed : (index : Index) (owners : List Owner) → AreKnown index owners → (n : ℕ) → MatchOption (slice_get owners n) (Unit {0}) (IsListed index)
known-listed index owners known n = by (slice_get owners n) refl
  where
    by : (q : Option Owner) → slice_get owners n ≡ q → MatchOption q (Unit {0}) (IsListed index)
    by None at = tt
    by (Some o) at =
        each-place (HasAt index o.owner o.triggers) o.triggers
        (λ k m t e stands among. subst (λ u. MatchOption u (Unit {0}) (λ t. HasFor index o.owner t e)) (sym stands)
        (λ s named. known-at index owners known n o at s ∙ any-at (λ t. heeds t.rule s) o.triggers k t stands (heeds-for t.rule m e s among named)))
