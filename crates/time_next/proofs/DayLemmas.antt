-- The first of listed seconds, and the next time behind a second of the day.
use Rattle.std.proofs.Common.{◌≡◌, ◌∙◌, ◌+◌, ◌-◌, ◌%◌, ◌<◌, ◌≤◌, inl, inr, ap, sym, refl, arith, ℕ, Bool, true, false, List, [], ◌∷◌, ◌&&◌, ◌||◌, fold, nat_eq, nat_le, nat_lt}
use Rattle.std.specs.Prelude.{if◌then◌else◌}
use Rattle.std.specs.List.{list_any}
use Rattle.std.proofs.lemmas.Bool.Decides.{leb_tells, nat_tests}
use Rattle.ha_config.specs.declared.config.TriggerRule.{TriggerRule}
use Rattle.ha_sight.specs.Rules.{second_fits}
use Rattle.time_next.specs.Day.{IsAhead, IsFirst, nearer}

-- ---- listed seconds

-- what is found of listed seconds where `before` was found already
record IsNearest (xs : List ℕ) (first before found : ℕ) : Type 0 where
  most : found ≤ before
  skipped : (s : ℕ) → first ≤ s → s < found → list_any (nat_eq s) xs ≡ false
  there : found < before → (first ≤ found) × (list_any (nat_eq found) xs ≡ true)

both-not : (a b : Bool) → a ≡ false → b ≡ false → (a || b) ≡ false
both-not a b h k = (λ i. h i || k i)

or-left : (a b : Bool) → a ≡ true → (a || b) ≡ true
or-left a b h = (λ i. h i || b)

or-right : (a b : Bool) → b ≡ true → (a || b) ≡ true
or-right true b h = refl
or-right false b h = h

-- a second that is nearer
nearer-step : (xs : List ℕ) (first x before found : ℕ) → (nat_le first x && nat_lt x before) ≡ true → IsNearest xs first x found → IsNearest (x ∷ xs) first before found
nearer-step xs first x before found e n =
    let most = n.most in
    let low : first ≤ x = grind (arith, nat_tests, e) in
    let less : x < before = grind (arith, nat_tests, e) in
    record {
      most = omega (arith, most, less);
      skipped = λ s from lt.
          let other : nat_eq s x ≡ false = grind (arith, nat_tests, lt, most) in
          both-not (nat_eq s x) (list_any (nat_eq s) xs) other (n.skipped s from lt);
      there = λ _. elim (leb_tells x found) [
        | inl same ↦
            let at-least = same.1 in
            let own : nat_eq found x ≡ true = grind (arith, nat_tests, at-least, most) in
            (omega (arith, at-least, low), or-left (nat_eq found x) (list_any (nat_eq found) xs) own)
        | inr below ↦
            let t = n.there below.1 in
            (t.0, or-right (nat_eq found x) (list_any (nat_eq found) xs) t.1)
      ];
    }

-- one that is not
farther-step : (xs : List ℕ) (first x before found : ℕ) → (nat_le first x && nat_lt x before) ≡ false → IsNearest xs first before found → IsNearest (x ∷ xs) first before found
farther-step xs first x before found e n =
    let most = n.most in
    record {
      most = n.most;
      skipped = λ s from lt.
          let other : nat_eq s x ≡ false = grind (arith, nat_tests, e, from, lt, most) in
          both-not (nat_eq s x) (list_any (nat_eq s) xs) other (n.skipped s from lt);
      there = λ less.
          let t = n.there less in
          (t.0, or-right (nat_eq found x) (list_any (nat_eq found) xs) t.1);
    }

nearest : (xs : List ℕ) (first before : ℕ) → IsNearest xs first before (fold (nearer first) before xs)
nearest [] first before = record {
  most = omega arith;
  skipped = λ s low high. refl;
  there = λ less. absurd (omega (arith, less));
}
nearest (x ∷ xs) first before = by (nat_le first x && nat_lt x before) refl (λ (found : ℕ). nearest xs first found)
  where
    by : (b : Bool) → (nat_le first x && nat_lt x before) ≡ b → ((found : ℕ) → IsNearest xs first found (fold (nearer first) found xs))
        → IsNearest (x ∷ xs) first before (fold (nearer first) (if b then x else before) xs)
    by true e more = nearer-step xs first x before (fold (nearer first) x xs) e (more x)
    by false e more = farther-step xs first x before (fold (nearer first) before xs) e (more before)

-- LAW: the nearest of listed seconds is the first that is listed
pub listed-first : (xs : List ℕ) (first : ℕ) → first ≤ 86_400 → IsFirst (TriggerRule.Time xs) first (fold (nearer first) 86_400 xs)
listed-first xs first low =
    let n = nearest xs first 86_400 in
    record {
      from = elim (leb_tells 86_400 (fold (nearer first) 86_400 xs)) [
        | inl over ↦ (let over = over.1 in omega (arith, low, over))
        | inr under ↦ (n.there under.1).0
      ];
      within = n.most;
      skipped = n.skipped;
      fits = λ less. (n.there less).1;
    }

-- ---- today and tomorrow

no-and-yes : (b : Bool) → b ≡ false → b ≡ true → ⊥
no-and-yes b h k = let bad : ◌≡◌ {A = Bool} false true = sym h ∙ k in cc

module _ (rule : TriggerRule) (shown : ℕ) (of-day : shown < 86_400) (today : ℕ) (first : IsFirst rule (shown + 1) today) where
  -- LAW: a time later on the day is the next
  pub ahead-today : today < 86_400 → IsAhead rule shown (today - shown)
  ahead-today less =
      let from = first.from in
      record {
        later = omega (arith, from);
        within = omega (arith, from, less);
        skipped = λ k some lt.
            let at : (shown + k) % 86_400 ≡ shown + k = omega (arith, from, less, lt) in
            ap (second_fits rule) at ∙ first.skipped (shown + k) (omega (arith, some)) (omega (arith, from, lt));
        found = λ s lt h.
            let at : (shown + (today - shown)) % 86_400 ≡ today = omega (arith, from, less) in
            ap (second_fits rule) at ∙ first.fits less;
      }

  -- a time is none of the later ones where there are none
  not-later : 86_400 ≤ today → (s : ℕ) → s < 86_400 → second_fits rule s ≡ true → s ≤ shown
  not-later none s lt h = elim (leb_tells s shown) [
    | inl low ↦ low.1
    | inr high ↦ absurd (let high = high.1 in no-and-yes (second_fits rule s) (first.skipped s (omega (arith, high)) (omega (arith, none, lt))) h)
  ]

  module _ (none : 86_400 ≤ today) (tomorrow : ℕ) (next : IsFirst rule 0 tomorrow) where
    -- no second fits up to the same of the day after, or up to a time before that
    between : (least : ℕ) → least ≤ tomorrow → (k : ℕ) → 0 < k → k < 86_400 - shown + least → second_fits rule ((shown + k) % 86_400) ≡ false
    between least most k some lt = elim (leb_tells 86_400 (shown + k)) [
      | inl after ↦
          let after = after.1 in
          let within = next.within in
          let at : (shown + k) % 86_400 ≡ shown + k - 86_400 = omega (arith, after, lt, most, within, of-day) in
          ap (second_fits rule) at ∙ next.skipped (shown + k - 86_400) (omega arith) (omega (arith, after, lt, most, of-day))
      | inr before ↦
          let before = before.1 in
          let at : (shown + k) % 86_400 ≡ shown + k = omega (arith, before) in
          ap (second_fits rule) at ∙ first.skipped (shown + k) (omega (arith, some)) (omega (arith, before, none))
    ]

    -- LAW: else the first of the day after is
    pub ahead-tomorrow : tomorrow ≤ shown → IsAhead rule shown (86_400 - shown + tomorrow)
    ahead-tomorrow low = record {
      later = omega (arith, of-day);
      within = omega (arith, of-day, low);
      skipped = between tomorrow (omega arith);
      found = λ s lt h.
          let at : (shown + (86_400 - shown + tomorrow)) % 86_400 ≡ tomorrow = omega (arith, of-day, low) in
          ap (second_fits rule) at ∙ next.fits (omega (arith, of-day, low));
    }

    -- LAW: where that comes later than now there is none
    pub ahead-none : shown < tomorrow → IsAhead rule shown 86_400
    ahead-none high = record {
      later = omega arith;
      within = omega arith;
      skipped = λ k some lt. between shown (omega (arith, high)) k some (omega (arith, lt, of-day));
      found = λ s lt h.
          let low = not-later none s lt h in
          absurd (no-and-yes (second_fits rule s) (next.skipped s (omega arith) (omega (arith, low, high))) h);
    }
