-- Owners that ascend, by their numbers.
use Rattle.std.proofs.Common.{◌≡◌, ℕ, zero, suc, ◌+◌, ◌<◌, ◌≤◌, inl, inr, List, [], ◌∷◌, ◌++◌, filter, find, Bool, true, false, refl, sym, ap, subst, ◌∙◌, rules, arith}
use Rattle.std.specs.Prelude.{◌⊎◌, Option, Some, None, nat_eq, nat_lt, flat_map, slice_get, ◌&&◌, ◌||◌, if◌then◌else◌}
use Rattle.std.specs.List.{enumerate_from}
use Rattle.ha_config.specs.declared.config.Automation.{Automation}
use Rattle.ha_config.specs.Numbered.{AreUnits, has_number}
use Rattle.ha_config.proofs.ListLemmas.{none-some, some-same}
use Rattle.ha_journal.specs.Journal.{Journal, in_force, units}
use Rattle.ha_journal.specs.Switches.{is_on, since}
use Rattle.ha_journal.proofs.ForceLaws.{in-force-units}
use Rattle.ha_past.specs.Firings.{Owner, owner_named}
use Rattle.engine_parts.specs.Owners.{AreAscending, is_automation}
use Rattle.engine_parts.specs.Runs.{first_wait}
use Rattle.engine_parts.proofs.DetachLemmas.{ascend-lower}
use Rattle.engine_parts.proofs.RuleLemmas.{Rules}
use Rattle.engine_entry.specs.Turned.{owner_in}
use Rattle.engine_entry.proofs.PlaceLemmas.{Gives, eq-of, eq-self, none-named}
use Rattle.engine_entry.proofs.TurnedOwners.{own-gives}

above : (a b : ℕ) → b < a → nat_eq a b ≡ false
above a b lt = search rules

below : (a b : ℕ) → a < b → nat_eq a b ≡ false
below a b lt = search rules

less-of : (a b : ℕ) → nat_lt a b ≡ true → a < b
less-of a b e = search (rules, e)

not-less-of : (a b : ℕ) → nat_lt a b ≡ false → b ≤ a
not-less-of a b e = search (rules, e)

-- ---- owners that ascend are told by their numbers

none-under : (m n : ℕ) (os : List Owner) → m < n → AreAscending n os → owner_named m os ≡ None
none-under m n [] lt h = refl
none-under m n (o ∷ os) lt h = (λ i. if above o.owner m (omega (arith, lt, h.0)) i then Some o else owner_named m os) ∙ none-under m (suc o.owner) os (omega (arith, lt, h.0)) h.1

pub first-named : (o : Owner) (os : List Owner) → owner_named o.owner (o ∷ os) ≡ Some o
first-named o os = (λ i. if eq-self o.owner i then Some o else owner_named o.owner os)

-- LAW: two lists of owners that ascend are the same where they have the same owner for each number
pub owners-same : (n : ℕ) (os ps : List Owner) → AreAscending n os → AreAscending n ps → ((m : ℕ) → n ≤ m → owner_named m os ≡ owner_named m ps) → os ≡ ps
owners-same n [] [] a b same = refl
owners-same n [] (p ∷ ps) a b same = absurd (none-some p (same p.owner b.0 ∙ first-named p ps))
owners-same n (o ∷ os) [] a b same = absurd (none-some o (sym (same o.owner a.0) ∙ first-named o os))
owners-same n (o ∷ os) (p ∷ ps) a b same = by (nat_lt o.owner p.owner) refl (nat_lt p.owner o.owner) refl (owners-same (suc o.owner) os ps a.1)
  where
    both : (x y : ℕ) → nat_lt x y ≡ false → nat_lt y x ≡ false → x ≡ y
    both x y e f = omega (arith, not-less-of x y e, not-less-of y x f)

    by : (c : Bool) → nat_lt o.owner p.owner ≡ c → (d : Bool) → nat_lt p.owner o.owner ≡ d
        → (AreAscending (suc o.owner) ps → ((m : ℕ) → suc o.owner ≤ m → owner_named m os ≡ owner_named m ps) → os ≡ ps) → o ∷ os ≡ p ∷ ps
    by true e d f rec =
        (let self : p.owner ≤ p.owner = omega arith in
        absurd (none-some o (sym (none-under o.owner p.owner (p ∷ ps) (less-of o.owner p.owner e) (self, b.1)) ∙ sym (same o.owner a.0) ∙ first-named o os)))
    by false e true f rec =
        (let self : o.owner ≤ o.owner = omega arith in
        absurd (none-some p (sym (none-under p.owner o.owner (o ∷ os) (less-of p.owner o.owner f) (self, a.1)) ∙ same p.owner b.0 ∙ first-named p ps)))
    by false e false f rec =
        (let at : o.owner ≡ p.owner = both o.owner p.owner e f in
        let one : Some o ≡ Some p = sym (first-named o os) ∙ same o.owner a.0 ∙ (λ i. owner_named (at i) (p ∷ ps)) ∙ first-named p ps in
        let own : o ≡ p = some-same o p one in
        let rest : os ≡ ps
        = rec (subst (λ m. AreAscending (suc m) ps) (sym at) b.1)
        (λ m le. sym (λ i. if below o.owner m (omega (arith, le)) i then Some o else owner_named m os) ∙ same m (omega (arith, le, a.0)) ∙ (λ i. if below p.owner m (omega (arith, le, at)) i then Some p else owner_named m ps)) in
        λ i. own i ∷ rest i)

-- ---- those of automations alone

pub ascend-filtered : (n : ℕ) (os : List Owner) → AreAscending n os → AreAscending n (filter is_automation os)
ascend-filtered n [] h = tt
ascend-filtered n (o ∷ os) h = by (is_automation o) (ascend-filtered (suc o.owner) os h.1)
  where
    by : (b : Bool) → AreAscending (suc o.owner) (filter is_automation os) → AreAscending n (if b then o ∷ filter is_automation os else filter is_automation os)
    by true rest = (h.0, rest)
    by false rest = ascend-lower n (suc o.owner) (filter is_automation os) (omega (arith, h.0)) rest

pub filtered-low : (m : ℕ) (os : List Owner) → first_wait ≤ m → owner_named m (filter is_automation os) ≡ None
filtered-low m [] le = refl
filtered-low m (o ∷ os) le = by (is_automation o) refl (filtered-low m os le)
  where
    by : (b : Bool) → is_automation o ≡ b → owner_named m (filter is_automation os) ≡ None → owner_named m (if b then o ∷ filter is_automation os else filter is_automation os) ≡ None
    by true e rest = (let low = less-of o.owner first_wait e in (λ i. if below o.owner m (omega (arith, le, low)) i then Some o else owner_named m (filter is_automation os)) ∙ rest)
    by false e rest = rest

-- ---- owners that units give, each its own

module _ (G : ℕ × Automation → List Owner) (gives : Gives G) where
  pub ascend-given : (n : ℕ) (us : List Automation) → AreAscending n (flat_map G (enumerate_from n us))
  ascend-given n [] = tt
  ascend-given n (u ∷ us) = by (G (n, u)) (gives (n, u)) (ascend-given (n + 1) us)
    where
      by : (l : List Owner) → (l ≡ []) ⊎ ((o : Owner) × (l ≡ o ∷ []) × (o.owner ≡ n)) → AreAscending (n + 1) (flat_map G (enumerate_from (n + 1) us)) → AreAscending n (l ++ flat_map G (enumerate_from (n + 1) us))
      by l (inl e) rest = subst (λ q. AreAscending n (q ++ flat_map G (enumerate_from (n + 1) us))) (sym e) (ascend-lower n (n + 1) (flat_map G (enumerate_from (n + 1) us)) (omega arith) rest)
      by l (inr (o, e, own)) rest =
          subst (λ q. AreAscending n (q ++ flat_map G (enumerate_from (n + 1) us))) (sym e)
          (omega (arith, own), subst (λ m. AreAscending m (flat_map G (enumerate_from (n + 1) us))) (let up : n + 1 ≡ suc o.owner = omega (arith, own) in up) rest)

  under-given : (m n : ℕ) (us : List Automation) → m < n → owner_named m (flat_map G (enumerate_from n us)) ≡ None
  under-given m n us lt = none-under m n (flat_map G (enumerate_from n us)) lt (ascend-given n us)

  -- one is found by its number
  named-given : (m n i : ℕ) (us : List Automation) (a : Automation) → m ≡ n + i → slice_get us i ≡ Some a → owner_named m (flat_map G (enumerate_from n us)) ≡ owner_named m (G (m, a))
  named-given m n i [] a at e = absurd (none-some a e)
  named-given m n zero (u ∷ us) a at e =
      (let here : n ≡ m = omega (arith, at) in
      let own : u ≡ a = some-same u a e in
      (λ k. owner_named m (G (here k, own k) ++ flat_map G (enumerate_from (n + 1) us)))
      ∙ one (G (m, a)) (gives (m, a)) (under-given m (n + 1) us (omega (arith, at))))
    where
      one : (l : List Owner) → (l ≡ []) ⊎ ((o : Owner) × (l ≡ o ∷ []) × (o.owner ≡ m)) → owner_named m (flat_map G (enumerate_from (n + 1) us)) ≡ None
          → owner_named m (l ++ flat_map G (enumerate_from (n + 1) us)) ≡ owner_named m l
      one l (inl f) none = (λ k. owner_named m (f k ++ flat_map G (enumerate_from (n + 1) us))) ∙ none ∙ sym (λ k. owner_named m (f k))
      one l (inr (o, f, own)) none =
          (λ k. owner_named m (f k ++ flat_map G (enumerate_from (n + 1) us))) ∙ (λ k. if nat_eq o.owner m then Some o else none k) ∙ sym (λ k. owner_named m (f k))
  named-given m n (suc i) (u ∷ us) a at e = one (G (n, u)) (gives (n, u)) (named-given m (n + 1) i us a (omega (arith, at)) e)
    where
      one : (l : List Owner) → (l ≡ []) ⊎ ((o : Owner) × (l ≡ o ∷ []) × (o.owner ≡ n)) → owner_named m (flat_map G (enumerate_from (n + 1) us)) ≡ owner_named m (G (m, a))
          → owner_named m (l ++ flat_map G (enumerate_from (n + 1) us)) ≡ owner_named m (G (m, a))
      one l (inl f) rest = (λ k. owner_named m (f k ++ flat_map G (enumerate_from (n + 1) us))) ∙ rest
      one l (inr (o, f, own)) rest =
          (λ k. owner_named m (f k ++ flat_map G (enumerate_from (n + 1) us)))
          ∙ (λ k. if below o.owner m (omega (arith, own, at)) k then Some o else owner_named m (flat_map G (enumerate_from (n + 1) us))) ∙ rest

-- ---- units that are found by their numbers

abbrev pub found : ℕ → Rules → Option (ℕ × Automation)
found m ps = find (λ (q : ℕ × Automation). nat_eq q.0 m) ps

pub found-none : (m : ℕ) (ps : Rules) → found m ps ≡ None → has_number ps m ≡ false
found-none m [] e = refl
found-none m (p ∷ ps) e = by (nat_eq p.0 m) e (found-none m ps)
  where
    by : (b : Bool) → (if b then Some p else found m ps) ≡ None → (found m ps ≡ None → has_number ps m ≡ false) → (b || has_number ps m) ≡ false
    by true f rec = absurd (none-some p (sym f))
    by false f rec = rec f

-- what is found has the number, and is a unit
pub record IsFound (m : ℕ) (us : List Automation) (ps : Rules) (q : ℕ × Automation) : Type 0 where
  pub number : q.0 ≡ m
  pub there : has_number ps m ≡ true
  pub unit : slice_get us m ≡ Some q.1

pub found-some : (m : ℕ) (us : List Automation) (ps : Rules) (q : ℕ × Automation) → AreUnits (λ (x : Automation). x) us ps → found m ps ≡ Some q → IsFound m us ps q
found-some m us [] q are e = absurd (none-some q e)
found-some m us (p ∷ ps) q are e = by (nat_eq p.0 m) refl e (found-some m us ps q are.1)
  where
    or-true : (b : Bool) → (b || true) ≡ true
    or-true true = refl
    or-true false = refl

    by : (b : Bool) → nat_eq p.0 m ≡ b → (if b then Some p else found m ps) ≡ Some q → (found m ps ≡ Some q → IsFound m us ps q) → IsFound m us (p ∷ ps) q
    by true is f rec =
        (let at : p.0 ≡ m = eq-of p.0 m is in
        let own : p ≡ q = some-same p q f in
        record {
          number = ap (λ (z : ℕ × Automation). z.0) (sym own) ∙ at;
          there = (λ i. is i || has_number ps m);
          unit = (λ i. slice_get us (sym at i)) ∙ are.0 ∙ ap (λ (z : ℕ × Automation). Some z.1) own;
        })
    by false is f rec =
        (let later = rec f in
        record { number = later.number; there = ap (λ b. nat_eq p.0 m || b) later.there ∙ or-true (nat_eq p.0 m); unit = later.unit })

-- the owner that one in force is
abbrev pub owner_of : Journal → ℕ → Option (ℕ × Automation) → Option Owner
owner_of i m None = None
owner_of i m (Some q) = if is_on i m then Some (record { owner = m; triggers = q.1.triggers; since = since i m }) else None

-- LAW: the owner of a number after a journal
pub owner-found : (i : Journal) (m : ℕ) → owner_named m (flat_map (owner_in i) (enumerate_from 0 (units i))) ≡ owner_of i m (found m (in_force i))
owner-found i m = by (found m (in_force i)) refl
  where
    has-off : (y : ℕ × Automation) → has_number (in_force i) m ≡ false → nat_eq y.0 m ≡ true → owner_in i y ≡ []
    has-off y none is =
        (let at : has_number (in_force i) y.0 ≡ false = (λ k. has_number (in_force i) (eq-of y.0 m is k)) ∙ none in
        λ k. if at k && is_on i y.0 then record { owner = y.0; triggers = y.1.triggers; since = since i y.0 } ∷ [] else [])

    one : (a : Automation) (b : Bool) → owner_named m (if true && b then record { owner = m; triggers = a.triggers; since = since i m } ∷ [] else []) ≡ (if b then Some (record { owner = m; triggers = a.triggers; since = since i m }) else None)
    one a true = (λ k. if eq-self m k then Some (record { owner = m; triggers = a.triggers; since = since i m }) else None)
    one a false = refl

    by : (o : Option (ℕ × Automation)) → found m (in_force i) ≡ o → owner_named m (flat_map (owner_in i) (enumerate_from 0 (units i))) ≡ owner_of i m o
    by None e = none-named m (owner_in i) (owner_in i) (own-gives i) (λ y is. has-off y (found-none m (in_force i) e) is) (enumerate_from 0 (units i))
    by (Some q) e =
        (let is = found-some m (units i) (in_force i) q (in-force-units i) e in
        named-given (owner_in i) (own-gives i) m 0 m (units i) q.1 (omega arith) is.unit
        ∙ (λ k. owner_named m (if is.there k && is_on i m then record { owner = m; triggers = q.1.triggers; since = since i m } ∷ [] else []))
        ∙ one q.1 (is_on i m))
