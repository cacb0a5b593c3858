-- Each subject, and names one after the other.
use Rattle.std.proofs.Common.{◌≡◌, ℕ, zero, suc, ◌+◌, ◌<◌, List, [], ◌∷◌, ◌++◌, length, take, get_or, Bool, true, false, refl, sym, ap, subst, ◌∙◌}
use Rattle.std.specs.Prelude.{Option, Some, not, ◌&&◌, ◌||◌}
use Rattle.std.specs.List.{list_any}
use Rattle.std.proofs.lemmas.List.{take_more}
use Rattle.ha_value.specs.declared.value.EntityId.{EntityId}
use Rattle.ha_config.specs.Words.{Text, one_of, same, same_entity}
use Rattle.ha_config.proofs.EqualLemmas.{same-sound}
use Rattle.event_bus.specs.declared.index.Index.{Index}
use Rattle.event_bus.specs.Lists.{has, has_at, has_for}
use Rattle.event_bus.specs.Subjects.{Subject, by_read, knows}
use Rattle.event_bus.proofs.ListLemmas.{or-true}

pub each-subject : (P : Subject → Type 0) → ((e : EntityId) → P (Subject.Entity e)) → ((q : Text) → P (Subject.Event q)) → P Subject.Moments → P Subject.Entries → (s : Subject) → P s
each-subject P e q m n (Subject.Entity x) = e x
each-subject P e q m n (Subject.Event x) = q x
each-subject P e q m n Subject.Moments = m
each-subject P e q m n Subject.Entries = n

same-turned : (a b : Text) → same a b ≡ same b a
same-turned a b = by (same a b) (same b a) refl refl
  where
    by : (c d : Bool) → same a b ≡ c → same b a ≡ d → same a b ≡ same b a
    by true d h k = (let e = same-sound a b h in (λ i. same (e i) (sym e i)))
    by false true h k = (let e = same-sound b a k in (λ i. same (sym e i) (e i)))
    by false false h k = h ∙ sym k

or-turned : (a b c d : Bool) → a ≡ d → (a || (b || c)) ≡ ((b || (d || false)) || c)
or-turned true true c true h = refl
or-turned true false c true h = refl
or-turned false true c false h = refl
or-turned false false c false h = refl
or-turned true b c false h = cc
or-turned false b c true h = cc

not-turned : (a b c d : Bool) → a ≡ d → (not a && (not b && c)) ≡ (not (b || (d || false)) && c)
not-turned true true c true h = refl
not-turned true false c true h = refl
not-turned false true c false h = refl
not-turned false false c false h = refl
not-turned true b c false h = cc
not-turned false b c true h = cc

any-more : (q : Text) (xs : List Text) (x : Text) → one_of q (xs ++ (x ∷ [])) ≡ (one_of q xs || (same q x || false))
any-more q [] x = refl
any-more q (y ∷ ys) x = (λ i. same q y || any-more q ys x i) ∙ by (same q y)
  where
    by : (b : Bool) → (b || (one_of q ys || (same q x || false))) ≡ ((b || one_of q ys) || (same q x || false))
    by true = refl
    by false = refl

any-front : (q : Text) (n : ℕ) (xs : List Text) → one_of q (take n xs) ≡ true → one_of q xs ≡ true
any-front q zero [] h = h
any-front q (suc n) [] h = h
any-front q zero (x ∷ xs) h = absurd (let bad : ◌≡◌ {A = Bool} false true = h in cc)
any-front q (suc n) (x ∷ xs) h = by (same q x) (any-front q n xs) h
  where
    by : (b : Bool) → (one_of q (take n xs) ≡ true → one_of q xs ≡ true) → (b || one_of q (take n xs)) ≡ true → (b || one_of q xs) ≡ true
    by true f h = refl
    by false f h = f h

module _ (q : Text) (names : List Text) (at : ℕ) (d : Text) (lt : at < length names) (init mid new : Bool) where
  -- LAW: one more name was put
  pub names-more : new ≡ (same (get_or names at d) q || mid) → mid ≡ (one_of q (take at names) || init) → new ≡ (one_of q (take (at + 1) names) || init)
  names-more e h =
      e ∙ (λ i. same (get_or names at d) q || h i)
      ∙ or-turned (same (get_or names at d) q) (one_of q (take at names)) init (same q (get_or names at d)) (same-turned (get_or names at d) q)
      ∙ (λ i. sym (any-more q (take at names) (get_or names at d)) i || init)
      ∙ (λ i. one_of q (sym (take_more names at d lt) i) || init)

  -- LAW: one more name was taken
  pub names-less : new ≡ (not (same (get_or names at d) q) && mid) → mid ≡ (not (one_of q (take at names)) && init) → new ≡ (not (one_of q (take (at + 1) names)) && init)
  names-less e h =
      e ∙ (λ i. not (same (get_or names at d) q) && h i)
      ∙ not-turned (same (get_or names at d) q) (one_of q (take at names)) init (same q (get_or names at d)) (same-turned (get_or names at d) q)
      ∙ (λ i. not (sym (any-more q (take at names) (get_or names at d)) i) && init)
      ∙ (λ i. not (one_of q (sym (take_more names at d lt) i)) && init)

-- LAW: no more is there than was, and some of the names that are put in
pub names-part : (q : Text) (names : List Text) (at : ℕ) (init mid new : Bool) → new ≡ mid → mid ≡ (one_of q (take at names) || init) → new ≡ true → (one_of q names || init) ≡ true
names-part q names at init mid new same is h = by (one_of q (take at names)) (any-front q at names) (sym is ∙ sym same ∙ h)
  where
    by : (b : Bool) → (b ≡ true → one_of q names ≡ true) → (b || init) ≡ true → (one_of q names || init) ≡ true
    by true f k = ap (λ c. c || init) (f refl)
    by false f k = ap (λ c. one_of q names || c) k ∙ or-true (one_of q names)

-- LAW: and all that was
pub names-kept : (some init new : Bool) → new ≡ (some || init) → init ≡ true → new ≡ true
names-kept some init new is h = is ∙ ap (λ c. some || c) h ∙ or-true some

-- an index in which the entities alone have changed, by the entities that a template reads
module _ (old new : Index) (n : ℕ) (read : Option (List EntityId)) (es : List EntityId) (is : read ≡ Some es) (events : new.events ≡ old.events) (moments : new.moments ≡ old.moments) (entries : new.entries ≡ old.entries) where
  -- LAW: what is put under them is put for what is read
  pub read-put : ((e : EntityId) → has_for new.entities e n ≡ (list_any (λ f. same_entity f e) es || has_for old.entities e n)) → (s : Subject) → knows new s n ≡ (by_read read s || knows old s n)
  read-put own s = subst (λ r. knows new s n ≡ (by_read r s || knows old s n)) (sym is) (by s)
    where
      by : (s : Subject) → knows new s n ≡ (by_read (Some es) s || knows old s n)
      by (Subject.Entity e) = own e
      by (Subject.Event q) = ap (λ l. has_at l q n) events
      by Subject.Moments = ap (λ l. has l n) moments
      by Subject.Entries = ap (λ l. has l n) entries

  -- LAW: or a part of it
  pub read-part : ((e : EntityId) → has_for new.entities e n ≡ true → (list_any (λ f. same_entity f e) es || has_for old.entities e n) ≡ true) → (s : Subject) → knows new s n ≡ true → (by_read read s || knows old s n) ≡ true
  read-part part s = subst (λ r. knows new s n ≡ true → (by_read r s || knows old s n) ≡ true) (sym is) (by s)
    where
      by : (s : Subject) → knows new s n ≡ true → (by_read (Some es) s || knows old s n) ≡ true
      by (Subject.Entity e) h = part e h
      by (Subject.Event q) h = sym (ap (λ l. has_at l q n) events) ∙ h
      by Subject.Moments h = sym (ap (λ l. has l n) moments) ∙ h
      by Subject.Entries h = sym (ap (λ l. has l n) entries) ∙ h

  -- LAW: and what is taken from under them is taken
  pub read-taken : ((e : EntityId) → has_for new.entities e n ≡ (not (list_any (λ f. same_entity f e) es) && has_for old.entities e n)) → (s : Subject) → knows new s n ≡ (not (by_read read s) && knows old s n)
  read-taken own s = subst (λ r. knows new s n ≡ (not (by_read r s) && knows old s n)) (sym is) (by s)
    where
      by : (s : Subject) → knows new s n ≡ (not (by_read (Some es) s) && knows old s n)
      by (Subject.Entity e) = own e
      by (Subject.Event q) = ap (λ l. has_at l q n) events
      by Subject.Moments = ap (λ l. has l n) moments
      by Subject.Entries = ap (λ l. has l n) entries
