-- The triggers of old automations go, one after the other, and those of new ones are attached.
use Rattle.std.proofs.Common.{◌≡◌, ℕ, zero, suc, ◌+◌, ◌<◌, ◌≤◌, List, [], ◌∷◌, length, get_or, drop, Bool, true, false, refl, sym, subst, ◌∙◌, rules, arith}
use Rattle.std.specs.Prelude.{Some, None, not, nat_eq, nat_le, nat_lt, slice_index_or, zip, ◌&&◌, ◌||◌, if◌then◌else◌}
use Rattle.std.specs.Option.{option_map_or}
use Rattle.std.proofs.lemmas.List.{drop_all}
use Rattle.ha_config.specs.declared.config.Automation.{Automation}
use Rattle.ha_config.specs.Numbered.{has_number}
use Rattle.ha_config.proofs.ListLemmas.{none-some, some-same, true-false}
use Rattle.ha_past.specs.Firings.{Owner, owner_named, placed, without_owner}
use Rattle.ha_sight.specs.Sight.{Automations, switch_at}
use Rattle.engine_parts.specs.Owners.{AreAscending}
use Rattle.engine_parts.proofs.DetachLemmas.{ascend-without, named-without}
use Rattle.engine_parts.proofs.RuleLemmas.{Rules, numbers_of}
use Rattle.engine_entry.specs.Reloaded.{AreFresh, is_new_on, with_new, with_one, without_all}
use Rattle.engine_entry.proofs.PlaceLemmas.{ascend-placed, eq-of, named-placed}
use Rattle.engine_entry.proofs.ReloadNumbers.{among, any-number}
use Rattle.engine_entry.proofs.NumberedOwners.{first-named, found}

-- ---- some less

pub ascend-all : (ns : List ℕ) (n : ℕ) (os : List Owner) → AreAscending n os → AreAscending n (without_all ns os)
ascend-all [] n os h = h
ascend-all (a ∷ ns) n os h = ascend-all ns n (without_owner a os) (ascend-without a n os h)

named-lost : (a : ℕ) (os : List Owner) → owner_named a (without_owner a os) ≡ None
named-lost a [] = refl
named-lost a (o ∷ os) = by (nat_eq o.owner a) refl (named-lost a os)
  where
    by : (b : Bool) → nat_eq o.owner a ≡ b → owner_named a (without_owner a os) ≡ None → owner_named a (if not b then o ∷ without_owner a os else without_owner a os) ≡ None
    by true e rest = rest
    by false e rest = (λ i. if e i then Some o else owner_named a (without_owner a os)) ∙ rest

pub none-left : (m : ℕ) (ns : List ℕ) (os : List Owner) → owner_named m os ≡ None → owner_named m (without_all ns os) ≡ None
none-left m [] os none = none
none-left m (a ∷ ns) os none = by (nat_eq m a) refl (none-left m ns (without_owner a os))
  where
    by : (b : Bool) → nat_eq m a ≡ b → (owner_named m (without_owner a os) ≡ None → owner_named m (without_all ns (without_owner a os)) ≡ None) → owner_named m (without_all ns (without_owner a os)) ≡ None
    by true e rec = rec ((λ i. owner_named (eq-of m a e i) (without_owner a os)) ∙ named-lost a os)
    by false e rec = rec (named-without a m os e ∙ none)

-- LAW: an owner is there no more that is one of these, and the others are
pub named-all : (m : ℕ) (ns : List ℕ) (os : List Owner) → owner_named m (without_all ns os) ≡ (if among m ns then None else owner_named m os)
named-all m [] os = refl
named-all m (a ∷ ns) os = by (nat_eq a m) refl (named-all m ns (without_owner a os))
  where
    turned : (x y : ℕ) → nat_eq x y ≡ false → nat_eq y x ≡ false
    turned x y e = search (rules, e)

    by : (b : Bool) → nat_eq a m ≡ b → owner_named m (without_all ns (without_owner a os)) ≡ (if among m ns then None else owner_named m (without_owner a os))
        → owner_named m (without_all ns (without_owner a os)) ≡ (if b || among m ns then None else owner_named m os)
    by true e rest = none-left m ns (without_owner a os) ((λ i. owner_named (sym (eq-of a m e) i) (without_owner a os)) ∙ named-lost a os)
    by false e rest = rest ∙ (λ i. if among m ns then None else named-without a m os (turned a m e) i)

-- ---- one more of each new one

named-own : (o : Owner) (os : List Owner) → owner_named o.owner os ≡ None → owner_named o.owner (placed o os) ≡ Some o
named-own o [] none = first-named o []
named-own o (x ∷ xs) none = by (nat_lt o.owner x.owner) (nat_eq x.owner o.owner) refl none (named-own o xs)
  where
    by : (b c : Bool) → nat_eq x.owner o.owner ≡ c → (if c then Some x else owner_named o.owner xs) ≡ None → (owner_named o.owner xs ≡ None → owner_named o.owner (placed o xs) ≡ Some o)
        → owner_named o.owner (if b then o ∷ x ∷ xs else x ∷ placed o xs) ≡ Some o
    by true c e f rec = first-named o (x ∷ xs)
    by false true e f rec = absurd (none-some x (sym f))
    by false false e f rec = (λ i. if e i then Some x else owner_named o.owner (placed o xs)) ∙ rec f

module _ (s : Automations) (free place : ℕ) where
  -- another number than this one's, or one that is not attached
  one-apart : (m : ℕ) (p : ℕ × Automation) (os : List Owner) → nat_eq p.0 m ≡ false → owner_named m (with_one s free place p os) ≡ owner_named m os
  one-apart m p os e = by (is_new_on s free p.0)
    where
      by : (b : Bool) → owner_named m (if b then placed (record { owner = p.0; triggers = p.1.triggers; since = place }) os else os) ≡ owner_named m os
      by true = named-placed (record { owner = p.0; triggers = p.1.triggers; since = place }) m os e
      by false = refl

  one-off : (m : ℕ) (p : ℕ × Automation) (os : List Owner) → is_new_on s free m ≡ false → owner_named m (with_one s free place p os) ≡ owner_named m os
  one-off m p os off = by (nat_eq p.0 m) refl
    where
      by : (b : Bool) → nat_eq p.0 m ≡ b → owner_named m (with_one s free place p os) ≡ owner_named m os
      by true e =
          (let same : is_new_on s free p.0 ≡ false = (λ i. is_new_on s free (eq-of p.0 m e i)) ∙ off in
          λ i. owner_named m (if same i then placed (record { owner = p.0; triggers = p.1.triggers; since = place }) os else os))
      by false e = one-apart m p os e

  -- LAW: a number that is not new and on keeps its owner, and one that is not among these
  pub new-off : (m : ℕ) (ps : Rules) (os : List Owner) → is_new_on s free m ≡ false → owner_named m (with_new s free place ps os) ≡ owner_named m os
  new-off m [] os off = refl
  new-off m (p ∷ ps) os off = new-off m ps (with_one s free place p os) off ∙ one-off m p os off

  pub new-none : (m : ℕ) (ps : Rules) (os : List Owner) → has_number ps m ≡ false → owner_named m (with_new s free place ps os) ≡ owner_named m os
  new-none m [] os none = refl
  new-none m (p ∷ ps) os none = by (nat_eq p.0 m) refl none (new-none m ps (with_one s free place p os))
    where
      by : (b : Bool) → nat_eq p.0 m ≡ b → (b || has_number ps m) ≡ false → (has_number ps m ≡ false → owner_named m (with_new s free place ps (with_one s free place p os)) ≡ owner_named m (with_one s free place p os))
          → owner_named m (with_new s free place ps (with_one s free place p os)) ≡ owner_named m os
      by true e f rec = absurd (true-false f)
      by false e f rec = rec f ∙ one-apart m p os e

  -- numbers stay fresh
  fresh-one : (p : ℕ × Automation) (os : List Owner) (ns : List ℕ) → (nat_le free p.0 ≡ true → among p.0 ns ≡ false) → AreFresh free os ns → AreFresh free (with_one s free place p os) ns
  fresh-one p os [] once h = tt
  fresh-one p os (n ∷ ns) once h =
      (λ le. (by n (nat_le free p.0) refl le (λ new. apart n (among p.0 ns) (once new)) ∙ (h.0 le).0, (h.0 le).1), fresh-one p os ns (λ new. later n (nat_eq n p.0) (once new)) h.1)
    where
      later : (n : ℕ) (b : Bool) → (b || among p.0 ns) ≡ false → among p.0 ns ≡ false
      later n true e = absurd (true-false e)
      later n false e = e

      apart : (n : ℕ) (c : Bool) → (nat_eq n p.0 || c) ≡ false → nat_eq p.0 n ≡ false
      apart n c e = turned n p.0 (first (nat_eq n p.0) e)
        where
          turned : (a b : ℕ) → nat_eq a b ≡ false → nat_eq b a ≡ false
          turned a b f = search (rules, f)

          first : (b : Bool) → (b || c) ≡ false → b ≡ false
          first true f = absurd (true-false f)
          first false f = refl

      by : (n : ℕ) (b : Bool) → nat_le free p.0 ≡ b → nat_le free n ≡ true → (b ≡ true → nat_eq p.0 n ≡ false) → owner_named n (with_one s free place p os) ≡ owner_named n os
      by n true e le other = one-apart n p os (other refl)
      by n false e le other = (λ i. owner_named n (if e i && option_map_or (λ on. on) (switch_at s p.0) false then placed (record { owner = p.0; triggers = p.1.triggers; since = place }) os else os))

  -- what stands once is no number of those behind it
  pub fresh-next : (p : ℕ × Automation) (os : List Owner) (ns : List ℕ) → AreFresh free os (p.0 ∷ ns) → AreFresh free (with_one s free place p os) ns
  fresh-next p os ns h = fresh-one p os ns (λ le. (h.0 le).1) h.1

  new-of : (b c : Bool) → (b && c) ≡ true → b ≡ true
  new-of true c e = refl
  new-of false c e = absurd (true-false (sym e))

  -- LAW: one that is new and on is attached at this place
  pub new-on : (m : ℕ) (q : ℕ × Automation) (ps : Rules) (os : List Owner) → is_new_on s free m ≡ true → AreFresh free os (numbers_of ps) → owner_named m os ≡ None → found m ps ≡ Some q
      → owner_named m (with_new s free place ps os) ≡ Some (record { owner = m; triggers = q.1.triggers; since = place })
  new-on m q [] os on fresh none e = absurd (none-some q e)
  new-on m q (p ∷ ps) os on fresh none e = by (nat_eq p.0 m) refl e (new-on m q ps (with_one s free place p os) on (fresh-next p os (numbers_of ps) fresh))
    where
      by : (b : Bool) → nat_eq p.0 m ≡ b → (if b then Some p else found m ps) ≡ Some q
          → (owner_named m (with_one s free place p os) ≡ None → found m ps ≡ Some q → owner_named m (with_new s free place ps (with_one s free place p os)) ≡ Some (record { owner = m; triggers = q.1.triggers; since = place }))
          → owner_named m (with_new s free place ps (with_one s free place p os)) ≡ Some (record { owner = m; triggers = q.1.triggers; since = place })
      by true is f rec =
          (let at : p.0 ≡ m = eq-of p.0 m is in
          let own : p ≡ q = some-same p q f in
          let here : is_new_on s free p.0 ≡ true = (λ i. is_new_on s free (at i)) ∙ on in
          let le : nat_le free p.0 ≡ true = new-of (nat_le free p.0) (option_map_or (λ b. b) (switch_at s p.0) false) here in
          let behind : has_number ps m ≡ false = (λ i. has_number ps (sym at i)) ∙ sym (any-number ps p.0) ∙ (fresh.0 le).1 in
          new-none m ps (with_one s free place p os) behind
          ∙ (λ i. owner_named m (if here i then placed (record { owner = p.0; triggers = p.1.triggers; since = place }) os else os))
          ∙ (λ i. owner_named m (placed (record { owner = at i; triggers = (own i).1.triggers; since = place }) os))
          ∙ named-own (record { owner = m; triggers = q.1.triggers; since = place }) os none)
      by false is f rec = rec (one-apart m p os is ∙ none) f

  -- LAW: they ascend
  pub ascend-new : (n : ℕ) (ps : Rules) (os : List Owner) → n ≡ 0 → AreFresh free os (numbers_of ps) → AreAscending n os → AreAscending n (with_new s free place ps os)
  ascend-new n [] os zero' fresh h = h
  ascend-new n (p ∷ ps) os zero' fresh h = ascend-new n ps (with_one s free place p os) zero' (fresh-next p os (numbers_of ps) fresh) (by (is_new_on s free p.0) refl)
    where
      by : (b : Bool) → is_new_on s free p.0 ≡ b → AreAscending n (if b then placed (record { owner = p.0; triggers = p.1.triggers; since = place }) os else os)
      by true e =
          (let le : nat_le free p.0 ≡ true = new-of (nat_le free p.0) (option_map_or (λ b. b) (switch_at s p.0) false) e in
          ascend-placed (record { owner = p.0; triggers = p.1.triggers; since = place }) n os (omega (arith, zero')) (fresh.0 le).0 h)
      by false e = h

-- ---- one place further

drop-index : (ns : List ℕ) (i d : ℕ) → i < length ns → drop i ns ≡ slice_index_or ns i d ∷ drop (suc i) ns
drop-index [] i d lt = absurd (omega (arith, lt))
drop-index (n ∷ ns) zero d lt = refl
drop-index (n ∷ ns) (suc i) d lt = drop-index ns i d (omega (arith, lt))

drop-pair : (ns : List ℕ) (us : List Automation) (i d : ℕ) (y : Automation) → i < length us → length us ≤ length ns → y ≡ get_or us i y → zip (drop i ns) (drop i us) ≡ (slice_index_or ns i d, y) ∷ zip (drop (suc i) ns) (drop (suc i) us)
drop-pair ns [] i d y lt len is = absurd (omega (arith, lt))
drop-pair [] (u ∷ us) i d y lt len is = absurd (omega (arith, len))
drop-pair (n ∷ ns) (u ∷ us) zero d y lt len is = (λ q. (n, sym is q) ∷ zip ns us)
drop-pair (n ∷ ns) (u ∷ us) (suc i) d y lt len is = drop-pair ns us i d y (omega (arith, lt)) (omega (arith, len)) is

-- LAW: with one owner less
pub gone-next : (ns : List ℕ) (i d : ℕ) → i < length ns → (os os' : List Owner) → os' ≡ without_owner (slice_index_or ns i d) os → without_all (drop (i + 1) ns) os' ≡ without_all (drop i ns) os
gone-next ns i d lt os os' is =
    (let up : i + 1 ≡ suc i = omega arith in λ q. without_all (drop (up q) ns) (is q)) ∙ sym (λ q. without_all (drop-index ns i d lt q) os)

-- LAW: behind the last none goes
pub gone-none : (ns : List ℕ) (i : ℕ) → length ns ≤ i → (os : List Owner) → os ≡ without_all (drop i ns) os
gone-none ns i le os = sym (λ q. without_all (drop_all i ns le q) os)

new-part : (b c : Bool) → (b && c) ≡ true → b ≡ true
new-part true c e = refl
new-part false c e = absurd (true-false (sym e))

module _ (s : Automations) (free place : ℕ) (ns : List ℕ) where
  -- LAW: with one automation more
  pub attach-next : (us : List Automation) (i d : ℕ) (y : Automation) → i < length us → length us ≤ length ns → y ≡ get_or us i y → (os os' : List Owner) (b : Bool) → b ≡ is_new_on s free (slice_index_or ns i d)
      → os' ≡ (if b then placed (record { owner = slice_index_or ns i d; triggers = y.triggers; since = place }) os else os)
      → (with_new s free place (zip (drop (i + 1) ns) (drop (i + 1) us)) os' ≡ with_new s free place (zip (drop i ns) (drop i us)) os) × (os' ≡ with_one s free place (slice_index_or ns i d, y) os)
  attach-next us i d y lt len is os os' b new made =
      (let one : os' ≡ with_one s free place (slice_index_or ns i d, y) os
      = made ∙ (λ q. if new q then placed (record { owner = slice_index_or ns i d; triggers = y.triggers; since = place }) os else os) in
      let up : i + 1 ≡ suc i = omega arith in (
        (λ q. with_new s free place (zip (drop (up q) ns) (drop (up q) us)) (one q)) ∙ sym (λ q. with_new s free place (drop-pair ns us i d y lt len is q) os),
        one,
      ))

  -- LAW: behind the last none is attached
  pub attach-none : (us : List Automation) (i : ℕ) → length us ≤ i → (os : List Owner) → os ≡ with_new s free place (zip (drop i ns) (drop i us)) os
  attach-none us i le os = sym ((λ q. with_new s free place (zip (drop i ns) (drop_all i us le q)) os) ∙ none (drop i ns))
    where
      none : (ms : List ℕ) → with_new s free place (zip ms []) os ≡ os
      none [] = refl
      none (m ∷ ms) = refl

  -- LAW: one that is new has no owner yet, and those behind it stay fresh
  pub fresh-here : (i d : ℕ) → i < length ns → (os : List Owner) → AreFresh free os (drop i ns) → is_new_on s free (slice_index_or ns i d) ≡ true → owner_named (slice_index_or ns i d) os ≡ None
  fresh-here i d lt os fresh on =
      (let here : AreFresh free os (slice_index_or ns i d ∷ drop (suc i) ns) = subst (AreFresh free os) (drop-index ns i d lt) fresh in
      (here.0 (new-part (nat_le free (slice_index_or ns i d)) (option_map_or (λ b. b) (switch_at s (slice_index_or ns i d)) false) on)).0)

  pub fresh-later : (i d : ℕ) → i < length ns → (y : Automation) (os : List Owner) → AreFresh free os (drop i ns) → AreFresh free (with_one s free place (slice_index_or ns i d, y) os) (drop (i + 1) ns)
  fresh-later i d lt y os fresh =
      (let here : AreFresh free os (slice_index_or ns i d ∷ drop (suc i) ns) = subst (AreFresh free os) (drop-index ns i d lt) fresh in
      let up : suc i ≡ i + 1 = omega arith in
      subst (λ n. AreFresh free (with_one s free place (slice_index_or ns i d, y) os) (drop n ns)) up (fresh-next s free place (slice_index_or ns i d, y) os (drop (suc i) ns) here))
