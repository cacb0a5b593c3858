-- The firings of automations, taken by the numbers in the order of the configuration, are the attempts by triggers.
use Rattle.std.proofs.Common.{◌≡◌, ℕ, zero, suc, ◌+◌, ◌-◌, ◌*◌, ◌<◌, ◌≤◌, List, [], ◌∷◌, ◌++◌, length, map, filter, Bool, true, false, refl, sym, subst, ◌∙◌, rules, arith, append-nil}
use Rattle.std.specs.Prelude.{Option, Some, None, ◌&&◌, count_by, find, flat_map, nat_eq, nat_lt, slice_get, if◌then◌else◌}
use Rattle.std.specs.List.{enumerate_from}
use Rattle.std.specs.Option.{option_map_or}
use Rattle.std.proofs.lemmas.List.{take_all}
use Rattle.ha_config.specs.declared.config.Automation.{Automation}
use Rattle.ha_config.specs.Numbered.{AreUnits, has_number}
use Rattle.ha_journal.specs.declared.firing.Firing.{Firing}
use Rattle.ha_journal.specs.Entries.{is_reload}
use Rattle.ha_journal.specs.Journal.{HasEntry, Journal, in_force, through, units}
use Rattle.ha_journal.specs.Switches.{is_on, since}
use Rattle.ha_journal.specs.Triggers.{firings as fired_by}
use Rattle.ha_journal.specs.Attempts.{Attempt, fired, fired_for}
use Rattle.ha_past.specs.Firings.{Owner, firings, firings_of, owner_named}
use Rattle.ha_journal.proofs.ForceLaws.{in-force-units}
use Rattle.engine_parts.specs.Numbers.{AreFew, is_ascending, rule_numbers}
use Rattle.engine_parts.specs.Owners.{AreAscending, as_configured, attempt_by, attempts_by, is_attempt, is_automation, ordered, owner_on, owners_on}
use Rattle.engine_parts.specs.Runs.{first_wait}
use Rattle.engine_parts.proofs.AttemptLemmas.{attempts-fired, filter-append, gives, kept-by, known, map-append, one-automation}
use Rattle.engine_parts.proofs.OwnerLemmas.{none-above}
use Rattle.engine_parts.proofs.RuleLemmas.{Rules, above, eq-of, first-number, later-number, number-self, numbers_of}

-- ---- numbers of few units are below the owners of waits

few-low : (n m : ℕ) → m ≤ 64 → n ≤ 2048 * suc m → n < first_wait
few-low n m few units = omega (arith, few, units)

-- LAW: the number of a unit is below them
pub unit-low : (j : Journal) (a : ℕ) → AreFew j → a < length (units j) → a < first_wait
unit-low j a few lt = (let low = few-low (length (units j)) (count_by is_reload j) few.reloads few.units in omega (arith, low, lt))

got-below : (us : List Automation) (n : ℕ) (a : Automation) → slice_get us n ≡ Some a → n < length us
got-below [] n a e = absurd (let bad : ◌≡◌ {A = Option Automation} None (Some a) = e in cc)
got-below (u ∷ us) zero a e = omega arith
got-below (u ∷ us) (suc n) a e = (let rec = got-below us n a e in omega (arith, rec))

less-true : (a b : ℕ) → a < b → nat_lt a b ≡ true
less-true a b lt = search rules

not-less : (a b : ℕ) → nat_lt a b ≡ false → b ≤ a
not-less a b e = search (rules, e)

-- ---- the firings of one owner

module _ (j : Journal) (p : ℕ) where
  -- LAW: the firings with an owner are those that the one of this number fires with, if there is one
  pub by-owner : (n m : ℕ) (os : List Owner) → AreAscending m os → filter (λ (f : Firing). nat_eq f.owner n) (firings j p os) ≡ option_map_or (firings_of j p) (owner_named n os) []
  by-owner n m [] h = refl
  by-owner n m (x ∷ os) h = filter-append (λ (f : Firing). nat_eq f.owner n) (firings_of j p x) (firings j p os) ∙ by (nat_eq x.owner n) refl (by-owner n (suc x.owner) os h.1)
    where
      by : (b : Bool) → nat_eq x.owner n ≡ b → filter (λ (f : Firing). nat_eq f.owner n) (firings j p os) ≡ option_map_or (firings_of j p) (owner_named n os) []
          → filter (λ (f : Firing). nat_eq f.owner n) (firings_of j p x) ++ filter (λ (f : Firing). nat_eq f.owner n) (firings j p os)
          ≡ option_map_or (firings_of j p) (if b then Some x else find (λ o. nat_eq o.owner n) os) []
      by true e rest =
          (λ i. kept-by (λ q. nat_eq q n) x true e (fired_by j x.triggers x.since p) i ++ none-above j p n (suc x.owner) os (let own = eq-of x.owner n e in omega (arith, own)) h.1 i)
          ∙ append-nil (firings_of j p x)
      by false e rest = (λ i. kept-by (λ q. nat_eq q n) x false e (fired_by j x.triggers x.since p) i ++ rest i)

  -- the owner of an automation is found among those of automations
  named-low : (n : ℕ) (os : List Owner) → n < first_wait → owner_named n os ≡ owner_named n (filter is_automation os)
  named-low n [] low = refl
  named-low n (x ∷ os) low = by (is_automation x) (nat_eq x.owner n) refl refl (named-low n os low)
    where
      by : (f e : Bool) → is_automation x ≡ f → nat_eq x.owner n ≡ e → owner_named n os ≡ owner_named n (filter is_automation os)
          → owner_named n (x ∷ os) ≡ owner_named n (if f then x ∷ filter is_automation os else filter is_automation os)
      by true e f is rec = (λ i. if nat_eq x.owner n then Some x else rec i)
      by false true f is rec = absurd (let own = eq-of x.owner n is in omega (arith, own, not-less x.owner first_wait f, low))
      by false false f is rec = (λ i. if is i then Some x else rec i)

  -- owners of units that are counted from above a number have it not
  unnamed : (n m : ℕ) (us : List Automation) → n < m → owner_named n (flat_map (owner_on j p) (enumerate_from m us)) ≡ None
  unnamed n m [] lt = refl
  unnamed n m (u ∷ us) lt = by (known j p (m, u) && is_on (through j p) m) (unnamed n (m + 1) us (omega (arith, lt)))
    where
      by : (b : Bool) → owner_named n (flat_map (owner_on j p) (enumerate_from (m + 1) us)) ≡ None
          → owner_named n ((if b then record { owner = m; triggers = u.triggers; since = since (through j p) m } ∷ [] else []) ++ flat_map (owner_on j p) (enumerate_from (m + 1) us)) ≡ None
      by true rec =
          (λ i. if above m n lt i then Some (record { owner = m; triggers = u.triggers; since = since (through j p) m }) else rec i)
      by false rec = rec

  -- the owner of a unit is found by its number
  unit-named : (n m : ℕ) (us : List Automation) (a : Automation) → m ≤ n → slice_get us (n - m) ≡ Some a → owner_named n (flat_map (owner_on j p) (enumerate_from m us)) ≡ owner_named n (owner_on j p (n, a))
  unit-named n m [] a le at = absurd (let bad : ◌≡◌ {A = Option Automation} None (Some a) = at in cc)
  unit-named n m (u ∷ us) a le at = by (nat_eq m n) refl (λ up at'. unit-named n (m + 1) us a up at')
    where
      beyond : (x y : ℕ) → x ≤ y → nat_eq x y ≡ false → x < y
      beyond x y xy other = search (rules, xy, other)

      by : (b : Bool) → nat_eq m n ≡ b → (m + 1 ≤ n → slice_get us (n - (m + 1)) ≡ Some a → owner_named n (flat_map (owner_on j p) (enumerate_from (m + 1) us)) ≡ owner_named n (owner_on j p (n, a)))
          → owner_named n (flat_map (owner_on j p) ((m, u) ∷ enumerate_from (m + 1) us)) ≡ owner_named n (owner_on j p (n, a))
      by true e rec =
          let here : m ≡ n = eq-of m n e in
          let zeroth : n - m ≡ 0 = omega (arith, here) in
          let unit : Some u ≡ Some a = (λ i. slice_get (u ∷ us) (sym zeroth i)) ∙ at in
          let one : u ≡ a = cc in
          (λ i. owner_named n (owner_on j p (here i, one i) ++ flat_map (owner_on j p) (enumerate_from (m + 1) us)))
          ∙ own (known j p (n, a) && is_on (through j p) n) (unnamed n (m + 1) us (omega (arith, here)))
        where
          own : (c : Bool) → owner_named n (flat_map (owner_on j p) (enumerate_from (m + 1) us)) ≡ None
              → owner_named n ((if c then record { owner = n; triggers = a.triggers; since = since (through j p) n } ∷ [] else []) ++ flat_map (owner_on j p) (enumerate_from (m + 1) us))
              ≡ owner_named n (if c then record { owner = n; triggers = a.triggers; since = since (through j p) n } ∷ [] else [])
          own true rest =
              (λ i. if number-self n i then Some (record { owner = n; triggers = a.triggers; since = since (through j p) n }) else owner_named n (flat_map (owner_on j p) (enumerate_from (m + 1) us)))
              ∙ (λ i. if sym (number-self n) i then Some (record { owner = n; triggers = a.triggers; since = since (through j p) n }) else None)
          own false rest = rest
      by false e rec =
          let less : m < n = beyond m n le e in
          let place : n - m ≡ suc (n - (m + 1)) = omega (arith, less) in
          skip (known j p (m, u) && is_on (through j p) m) e ∙ rec (omega (arith, less)) ((λ i. slice_get (u ∷ us) (sym place i)) ∙ at)
        where
          skip : (c : Bool) → nat_eq m n ≡ false
              → owner_named n ((if c then record { owner = m; triggers = u.triggers; since = since (through j p) m } ∷ [] else []) ++ flat_map (owner_on j p) (enumerate_from (m + 1) us))
              ≡ owner_named n (flat_map (owner_on j p) (enumerate_from (m + 1) us))
          skip true other = (λ i. if other i then Some (record { owner = m; triggers = u.triggers; since = since (through j p) m }) else owner_named n (flat_map (owner_on j p) (enumerate_from (m + 1) us)))
          skip false other = refl

  -- and gives what the unit gives
  unit-gives : (n : ℕ) (a : Automation) → option_map_or (firings_of j p) (owner_named n (owner_on j p (n, a))) [] ≡ gives j p (n, a)
  unit-gives n a = by (known j p (n, a) && is_on (through j p) n)
    where
      own : Owner
      own = record { owner = n; triggers = a.triggers; since = since (through j p) n }

      by : (c : Bool) → option_map_or (firings_of j p) (owner_named n (if c then record { owner = n; triggers = a.triggers; since = since (through j p) n } ∷ [] else [])) []
          ≡ flat_map (firings_of j p) (if c then record { owner = n; triggers = a.triggers; since = since (through j p) n } ∷ [] else [])
      by true = (λ i. option_map_or (firings_of j p) (if number-self n i then Some own else None) []) ∙ sym (append-nil (firings_of j p own))
      by false = refl

  -- they are all attempts
  all-attempts : (n : ℕ) (a : Automation) → n < first_wait → filter is_attempt (gives j p (n, a)) ≡ gives j p (n, a)
  all-attempts n a low = by (known j p (n, a) && is_on (through j p) n)
    where
      own : Owner
      own = record { owner = n; triggers = a.triggers; since = since (through j p) n }

      by : (c : Bool) → filter is_attempt (flat_map (firings_of j p) (if c then record { owner = n; triggers = a.triggers; since = since (through j p) n } ∷ [] else []))
          ≡ flat_map (firings_of j p) (if c then record { owner = n; triggers = a.triggers; since = since (through j p) n } ∷ [] else [])
      by true =
          (λ i. filter is_attempt (append-nil (firings_of j p own) i))
          ∙ kept-by (λ q. nat_lt q first_wait) own true (less-true n first_wait low) (fired_by j a.triggers (since (through j p) n) p)
          ∙ sym (append-nil (firings_of j p own))
      by false = refl

  module _ (os : List Owner) (few : AreFew (through j p)) (up : AreAscending 0 os) (on : filter is_automation os ≡ owners_on j p) where
    -- the firings of one in force are its attempts
    one-ordered : (n : ℕ) (a : Automation) → slice_get (units (through j p)) n ≡ Some a → has_number (in_force (through j p)) n ≡ true
        → attempts_by (filter (λ (f : Firing). nat_eq f.owner n) (firings j p os)) ≡ fired_for j p (n, a)
    one-ordered n a at has =
        let low : n < first_wait = unit-low (through j p) n few (got-below (units (through j p)) n a at) in
        let off : n - 0 ≡ n = omega arith in
        let found : owner_named n os ≡ owner_named n (owner_on j p (n, a))
        = named-low n os low ∙ (λ i. owner_named n (on i)) ∙ unit-named n 0 (units (through j p)) a (omega arith) ((λ i. slice_get (units (through j p)) (off i)) ∙ at) in
        let mine : filter (λ (f : Firing). nat_eq f.owner n) (firings j p os) ≡ gives j p (n, a)
        = by-owner n 0 os up ∙ (λ i. option_map_or (firings_of j p) (found i) []) ∙ unit-gives n a in
        (λ i. map {A = Firing} {B = Attempt} attempt_by (filter is_attempt (mine i)))
        ∙ (λ i. map {A = Firing} {B = Attempt} attempt_by (all-attempts n a low i))
        ∙ one-automation j p (n, a) has

    attempts-append : (xs ys : List Firing) → attempts_by (xs ++ ys) ≡ attempts_by xs ++ attempts_by ys
    attempts-append xs ys = (λ i. map {A = Firing} {B = Attempt} attempt_by (filter-append is_attempt xs ys i)) ∙ map-append attempt_by (filter is_attempt xs) (filter is_attempt ys)

    all-ordered : (ps : Rules) → AreUnits (λ (x : Automation). x) (units (through j p)) ps → ((n : ℕ) → has_number ps n ≡ true → has_number (in_force (through j p)) n ≡ true)
        → attempts_by (as_configured (numbers_of ps) (firings j p os)) ≡ flat_map (fired_for j p) ps
    all-ordered [] units_are has = refl
    all-ordered (x ∷ xs) units_are has =
        attempts-append (filter (λ (f : Firing). nat_eq f.owner x.0) (firings j p os)) (as_configured (numbers_of xs) (firings j p os))
        ∙ (λ i. one-ordered x.0 x.1 units_are.0 (has x.0 (first-number x xs)) i ++ all-ordered xs units_are.1 (λ n h. has n (later-number x xs n h)) i)

    -- LAW: where those that are attached for automations are those that are on, their firings, as configured, are the attempts by triggers
    pub attempts-ordered : attempts_by (ordered (is_ascending (rule_numbers (through j p))) (rule_numbers (through j p)) (firings j p os)) ≡ fired j p
    attempts-ordered = by (is_ascending (rule_numbers (through j p))) refl
      where
        by : (b : Bool) → is_ascending (rule_numbers (through j p)) ≡ b → attempts_by (if b then firings j p os else as_configured (rule_numbers (through j p)) (firings j p os)) ≡ fired j p
        by true e = attempts-fired j p os e on
        by false e = all-ordered (in_force (through j p)) (in-force-units (through j p)) (λ n h. h)

-- ---- at the last place

has-length : (k : Journal) → HasEntry k → 0 < length k
has-length [] h = absurd h
has-length (x ∷ xs) h = omega arith

through-end : (k : Journal) → HasEntry k → through k (length k - 1) ≡ k
through-end k h = (let some = has-length k h in take_all (suc (length k - 1)) k (omega (arith, some)))

-- LAW: so it is at the last place, by what is kept of the numbers
pub attempts-last : (k : Journal) (os : List Owner) (ascending : Bool) (numbers : List ℕ) → HasEntry k → AreFew k → AreAscending 0 os → filter is_automation os ≡ owners_on k (length k - 1)
    → ascending ≡ is_ascending (rule_numbers k) → numbers ≡ rule_numbers k → attempts_by (ordered ascending numbers (firings k (length k - 1) os)) ≡ fired k (length k - 1)
attempts-last k os ascending numbers h few up on flag named =
    let end : through k (length k - 1) ≡ k = through-end k h in
    (λ i. attempts_by (ordered ((flag ∙ (λ l. is_ascending (rule_numbers (sym end l)))) i) ((named ∙ (λ l. rule_numbers (sym end l))) i) (firings k (length k - 1) os)))
    ∙ attempts-ordered k (length k - 1) os (subst AreFew (sym end) few) up on

-- LAW: where nothing fires there is no attempt
pub attempts-none : (k : Journal) (os : List Owner) → HasEntry k → AreFew k → AreAscending 0 os → filter is_automation os ≡ owners_on k (length k - 1)
    → firings k (length k - 1) os ≡ [] → [] ≡ fired k (length k - 1)
attempts-none k os h few up on none =
    sym (none-ordered (is_ascending (rule_numbers k)) (rule_numbers k)) ∙ (λ i. attempts_by (ordered (is_ascending (rule_numbers k)) (rule_numbers k) (sym none i)))
    ∙ attempts-last k os (is_ascending (rule_numbers k)) (rule_numbers k) h few up on refl refl
  where
    nothing : (ns : List ℕ) → as_configured ns [] ≡ []
    nothing [] = refl
    nothing (n ∷ ns) = nothing ns

    none-ordered : (b : Bool) (ns : List ℕ) → attempts_by (ordered b ns []) ≡ []
    none-ordered true ns = refl
    none-ordered false ns = (λ i. attempts_by (nothing ns i))
