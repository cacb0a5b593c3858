-- What fires at the places of a journal stays as it is with one more entry; and the end of a wait.
use Rattle.std.proofs.Common.{◌≡◌, ℕ, zero, suc, ◌+◌, ◌-◌, ◌*◌, ◌<◌, ◌≤◌, List, [], ◌∷◌, ◌++◌, length, map, Bool, true, false, cond, refl, ap, ◌∙◌, arith, Option}
use Rattle.std.specs.Prelude.{Some, None, not, nat_eq, nat_lt, nat_le, is_some, is_none, find, flat_map, filter_map, slice_get, option_map, option_and_then, pos, ◌&&◌, ◌||◌, if◌then◌else◌}
use Rattle.std.specs.List.{list_any, list_all, cons_option, enumerate_from}
use Rattle.std.specs.Option.{option_map_or}
use Rattle.ha_value.specs.declared.value.EntityId.{EntityId}
use Rattle.ha_value.specs.declared.value.Num.{Num}
use Rattle.ha_config.specs.declared.config.Trigger.{Trigger}
use Rattle.ha_config.specs.declared.config.TriggerRule.{TriggerRule}
use Rattle.ha_journal.specs.declared.entry.Entry.{Entry}
use Rattle.ha_journal.specs.Entries.{is_moment}
use Rattle.ha_config.specs.Words.{same, first_pair, first_of_list, numbers_from, or_else}
use Rattle.ha_config.specs.Equal.{same_flag}
use Rattle.ha_config.specs.Numbers.{in_bounds}
use Rattle.ha_journal.specs.Journal.{Journal, HasEntry, more}
use Rattle.ha_sight.specs.Templates.{rendered, says}
use Rattle.ha_journal.specs.Triggers.{Fired, entities_at, firing_for, firings_by, firings}
use Rattle.ha_journal.specs.Moves.{sight, latest_number}
use Rattle.ha_sight.specs.Rules.{same_optional, starts, entities_of, is_event}
use Rattle.ha_journal.specs.Holds.{same_watched, fires, fired_from}
use Rattle.ha_journal.specs.Variables.{variables}
use Rattle.ha_sight.specs.Scripts.{Ask}
use Rattle.ha_journal.specs.Waits.{completes, is_over, end_at, wait_end}
use Rattle.ha_journal.proofs.MoreLemmas.{length-more}
use Rattle.ha_journal.proofs.SinceLaws.{take-more}
use Rattle.ha_config.proofs.ListLemmas.{get-more}
use Rattle.ha_past.proofs.PastLemmas.{events-more, sight-more, moves-more, variables-more}

-- ---- tests that agree on a stretch of numbers

any-alike : (f g : ℕ → Bool) (i low n : ℕ) → ((k : ℕ) → k < low + n → f (i + k) ≡ g (i + k)) → list_any f (map (λ k. i + k) (numbers_from low n)) ≡ list_any g (map (λ k. i + k) (numbers_from low n))
any-alike f g i low zero h = refl
any-alike f g i low (suc n) h = (λ q. h low (omega arith) q || any-alike f g i (low + 1) n (λ k lt. h k (omega (arith, lt))) q)

all-alike : (f g : ℕ → Bool) (i low n : ℕ) → ((k : ℕ) → k < low + n → f (i + k) ≡ g (i + k)) → list_all f (map (λ k. i + k) (numbers_from low n)) ≡ list_all g (map (λ k. i + k) (numbers_from low n))
all-alike f g i low zero h = refl
all-alike f g i low (suc n) h = (λ q. h low (omega arith) q && all-alike f g i (low + 1) n (λ k lt. h k (omega (arith, lt))) q)

-- what is found, and what is made of it
found-alike : {X : Type 0} (f g : ℕ → Bool) (u v : ℕ → X) (i low n : ℕ) → ((k : ℕ) → k < low + n → f (i + k) ≡ g (i + k)) → ((k : ℕ) → k < low + n → u (i + k) ≡ v (i + k))
    → option_map u (find f (map (λ k. i + k) (numbers_from low n))) ≡ option_map v (find g (map (λ k. i + k) (numbers_from low n)))
found-alike f g u v i low zero h e = refl
found-alike {X} f g u v i low (suc n) h e =
    (λ q. option_map u (cond (h low (omega arith) q) (Some (i + low)) (find f (map (λ k. i + k) (numbers_from (low + 1) n)))))
    ∙ by (g (i + low)) (found-alike f g u v i (low + 1) n (λ k lt. h k (omega (arith, lt))) (λ k lt. e k (omega (arith, lt))))
  where
    by : (b : Bool) → option_map u (find f (map (λ k. i + k) (numbers_from (low + 1) n))) ≡ option_map v (find g (map (λ k. i + k) (numbers_from (low + 1) n)))
        → option_map u (cond b (Some (i + low)) (find f (map (λ k. i + k) (numbers_from (low + 1) n)))) ≡ option_map v (cond b (Some (i + low)) (find g (map (λ k. i + k) (numbers_from (low + 1) n))))
    by true ih = ap (λ t. Some t) (e low (omega arith))
    by false ih = ih

first-alike : {X : Type 0} (f g : ℕ → Bool) (u v : ℕ → X) (low n : ℕ) → ((k : ℕ) → k < low + n → f k ≡ g k) → ((k : ℕ) → k < low + n → u k ≡ v k) → option_map u (find f (numbers_from low n)) ≡ option_map v (find g (numbers_from low n))
first-alike f g u v low zero h e = refl
first-alike {X} f g u v low (suc n) h e =
    (λ q. option_map u (cond (h low (omega arith) q) (Some low) (find f (numbers_from (low + 1) n))))
    ∙ by (g low) (first-alike f g u v (low + 1) n (λ k lt. h k (omega (arith, lt))) (λ k lt. e k (omega (arith, lt))))
  where
    by : (b : Bool) → option_map u (find f (numbers_from (low + 1) n)) ≡ option_map v (find g (numbers_from (low + 1) n))
        → option_map u (cond b (Some low) (find f (numbers_from (low + 1) n))) ≡ option_map v (cond b (Some low) (find g (numbers_from (low + 1) n)))
    by true ih = ap (λ t. Some t) (e low (omega arith))
    by false ih = ih

find-snoc : (f : ℕ → Bool) (xs : List ℕ) (y : ℕ) → find f (xs ++ (y ∷ [])) ≡ or_else (find f xs) (if f y then Some y else None)
find-snoc f [] y = refl
find-snoc f (x ∷ xs) y = by (f x) (find-snoc f xs y)
  where
    by : (b : Bool) → find f (xs ++ (y ∷ [])) ≡ or_else (find f xs) (if f y then Some y else None) → cond b (Some x) (find f (xs ++ (y ∷ []))) ≡ or_else (cond b (Some x) (find f xs)) (if f y then Some y else None)
    by true ih = refl
    by false ih = ih

numbers-snoc : (low n : ℕ) → numbers_from low (suc n) ≡ numbers_from low n ++ ((low + n) ∷ [])
numbers-snoc low zero = (let e : low ≡ low + 0 = omega arith in λ i. e i ∷ [])
numbers-snoc low (suc n) = ap (λ t. low ∷ t) (numbers-snoc (low + 1) n ∙ (let e : (low + 1) + n ≡ low + suc n = omega arith in λ i. numbers_from (low + 1) n ++ (e i ∷ [])))

map-snoc : (f : ℕ → ℕ) (xs : List ℕ) (x : ℕ) → map f (xs ++ (x ∷ [])) ≡ map f xs ++ (f x ∷ [])
map-snoc f [] x = refl
map-snoc f (y ∷ ys) x = ap (λ t. f y ∷ t) (map-snoc f ys x)

or-map : {X Y : Type 0} (f : X → Y) (a b : Option X) → option_map f (or_else a b) ≡ or_else (option_map f a) (option_map f b)
or-map f None b = refl
or-map f (Some x) b = refl

pub has-length : (j : Journal) → HasEntry j → 0 < length j
has-length [] h = absurd h
has-length (e ∷ es) h = omega arith

-- ---- what fires at an earlier place

module _ (j : Journal) (x : Entry) (h : HasEntry j) where
  -- what is watched at two earlier places is the same, or not, as it was
  same-more : (rule : TriggerRule) (e : Option EntityId) (i p : ℕ) → i < length j → p < length j → same_watched (more j x) rule e i p ≡ same_watched j rule e i p
  same-more (TriggerRule.State entities (Some name) from to) (Some e) i p one two =
      (let a = sight-more j x h (suc i) (omega (arith, one)) in let b = sight-more j x h (suc p) (omega (arith, two)) in
      λ q. same_optional (option_and_then (λ s. first_pair name s.attributes) ((a q).states e)) (option_and_then (λ s. first_pair name s.attributes) ((b q).states e)))
  same-more (TriggerRule.State entities None from to) (Some e) i p one two =
      (let a = sight-more j x h (suc i) (omega (arith, one)) in let b = sight-more j x h (suc p) (omega (arith, two)) in
      λ q. option_map_or (λ s. option_map_or (λ o. same o.text s.text) ((a q).states e) false) ((b q).states e) (is_none ((a q).states e)))
  same-more (TriggerRule.State entities (Some name) from to) None i p one two = refl
  same-more (TriggerRule.State entities None from to) None i p one two = refl
  same-more (TriggerRule.Numeric entities attribute above below) (Some e) i p one two =
      (let a = take-more j x (suc i) (omega (arith, one)) in let b = take-more j x (suc p) (omega (arith, two)) in
      λ q. same_flag (option_map_or (in_bounds above below) (latest_number e attribute (a q)) false) (option_map_or (in_bounds above below) (latest_number e attribute (b q)) false))
  same-more (TriggerRule.Numeric entities attribute above below) None i p one two = refl
  same-more (TriggerRule.Event kinds pairs) e i p one two = refl
  same-more (TriggerRule.Time seconds) e i p one two = refl
  same-more (TriggerRule.Pattern hours minutes seconds) e i p one two = refl
  same-more (TriggerRule.Template t) (Some e) i p one two = refl
  same-more (TriggerRule.Template t) None i p one two =
      (let a = sight-more j x h (suc i) (omega (arith, one)) in let b = sight-more j x h (suc p) (omega (arith, two)) in λ q. same_flag (says (rendered (a q) t [])) (says (rendered (b q) t [])))
  same-more TriggerRule.Start e i p one two = refl

  fires-hold : (t : Trigger) (hold : Option ℕ) (e : Option EntityId) (since p i : ℕ) → i ≤ p → p < length j → fires (more j x) (record t { hold = hold }) e since p i ≡ fires j (record t { hold = hold }) e since p i
  fires-hold t None e since p i le lt =
      (λ q. (nat_eq i p && moves-more j x h (record t { hold = None }) e p lt q) && (nat_lt since p || starts t.rule))
  fires-hold t (Some d) e since p i le lt =
      let a = sight-more j x h (suc i) (omega (arith, le, lt)) in
      let b = sight-more j x h (suc p) (omega (arith, lt)) in
      let over = any-alike (λ q. option_map_or is_moment (slice_get (more j x) q) false && nat_le ((sight (more j x) (suc i)).now + d) (sight (more j x) (suc q)).now)
      (λ q. option_map_or is_moment (slice_get j q) false && nat_le ((sight j (suc i)).now + d) (sight j (suc q)).now) i 0 (suc (p - 1) - i)
      (λ k in_range. (let c = sight-more j x h (suc (i + k)) (omega (arith, in_range, le, lt)) in let g = get-more j x (i + k) (omega (arith, in_range, le, lt)) in λ q. option_map_or is_moment (g q) false && nat_le ((a q).now + d) (c q).now)) in
      let stayed = all-alike (same_watched (more j x) t.rule e i) (same_watched j t.rule e i) i 0 (suc p - i)
      (λ k in_range. same-more t.rule e i (i + k) (omega (arith, le, lt)) (omega (arith, in_range, le, lt))) in
      (λ q. ((((nat_lt since i && moves-more j x h (record t { hold = Some d }) e i (omega (arith, le, lt)) q) && option_map_or is_moment (get-more j x p lt q) false) && nat_le ((a q).now + d) (b q).now) && not (over q)) && stayed q)

  fires-more : (t : Trigger) (e : Option EntityId) (since p i : ℕ) → i ≤ p → p < length j → fires (more j x) t e since p i ≡ fires j t e since p i
  fires-more t e since p i le lt = fires-hold t t.hold e since p i le lt

  -- LAW: a trigger fires at an earlier place where it fired
  pub fired-more : (t : Trigger) (e : Option EntityId) (since q : ℕ) → q < length j → {X : Type 0} → (u v : ℕ → X) → ((i : ℕ) → i ≤ q → u i ≡ v i)
      → option_map u (fired_from (more j x) t e since q) ≡ option_map v (fired_from j t e since q)
  fired-more t e since q lt u v same_made =
      first-alike (fires (more j x) t e since q) (fires j t e since q) u v 0 (suc q) (λ k le. fires-more t e since q k (omega (arith, le)) lt) (λ k le. same_made k (omega (arith, le)))

  abbrev made_by : Journal → ℕ → Trigger → Option EntityId → ℕ → Fired
  made_by k n t e i = record { trigger = n; entity = e; variables = variables k t e i }

  each-firing : (since q n : ℕ) → q < length j → (t : Trigger) (es : List (Option EntityId)) → filter_map (firing_for (more j x) since q (n, t)) es ≡ filter_map (firing_for j since q (n, t)) es
  each-firing since q n lt t [] = refl
  each-firing since q n lt t (e ∷ es) =
      (λ i. cons_option (fired-more t e since q lt (made_by (more j x) n t e) (made_by j n t e) (λ k le m. record { trigger = n; entity = e; variables = variables-more j x h t e k (omega (arith, le, lt)) m }) i)
      (each-firing since q n lt t es i))

  -- for whom a trigger may fire at an earlier place stays
  entities-alike : (rule : TriggerRule) (q : ℕ) → q < length j → entities_at (more j x) q rule ≡ entities_at j q rule
  entities-alike rule q lt = (λ i. if is_event rule then map (λ v. v.entity) (events-more j x q lt i) else entities_of rule)

  firings-from : (since q n : ℕ) → q < length j → (ts : List Trigger) → flat_map (firings_by (more j x) since q) (enumerate_from n ts) ≡ flat_map (firings_by j since q) (enumerate_from n ts)
  firings-from since q n lt [] = refl
  firings-from since q n lt (t ∷ ts) =
      (λ i. filter_map (firing_for (more j x) since q (n, t)) (entities-alike t.rule q lt i) ++ flat_map (firings_by (more j x) since q) (enumerate_from (n + 1) ts))
      ∙ (λ i. each-firing since q n lt t (entities_at j q t.rule) i ++ firings-from since q (n + 1) lt ts i)

  -- LAW: the firings at an earlier place are what they were
  pub firings-more : (ts : List Trigger) (since q : ℕ) → q < length j → firings (more j x) ts since q ≡ firings j ts since q
  firings-more ts since q lt = firings-from since q 0 lt ts

  -- ---- the end of a wait

  module _ (ask : Ask) (p : ℕ) where
    completes-more : (q : ℕ) → q < length j → completes (more j x) ask p q ≡ completes j ask p q
    completes-more q lt =
        (let s = sight-more j x h (suc q) lt in λ i. option_map_or (λ t. says (rendered (s i) t ask.env)) ask.test false || is_some (first_of_list (map (λ f. f.variables) (firings-more ask.triggers p q lt i))))

    over-more : (q : ℕ) → p ≤ q → q < length j → is_over (more j x) ask p q ≡ is_over j ask p q
    over-more q le lt =
        (let s = sight-more j x h (suc q) lt in let b = sight-more j x h (suc p) (omega (arith, le, lt)) in λ i. option_map_or (λ d. nat_le ((b i).now + d) (s i).now) ask.timeout false)

    end-more : (q : ℕ) → p ≤ q → q < length j → end_at (more j x) ask p q ≡ end_at j ask p q
    end-more q le lt =
        (let s = sight-more j x h (suc q) lt in let b = sight-more j x h (suc p) (omega (arith, le, lt)) in λ i. record {
          place = q;
          done = completes-more q lt i;
          remaining = option_map (λ d. Num.Fixed (pos (1000 * ((b i).now + d - (s i).now)))) ask.timeout;
          trigger = first_of_list (map (λ f. f.variables) (firings-more ask.triggers p q lt i));
        })

    abbrev ends_at : Journal → ℕ → Bool
    ends_at k q = completes k ask p q || is_over k ask p q

    -- LAW: it has ended before, or else it ends at this entry
    pub wait-more : p ≤ length j → wait_end (more j x) ask p
        ≡ or_else (wait_end j ask p) (if completes (more j x) ask p (length j) || is_over (more j x) ask p (length j) then Some (end_at (more j x) ask p (length j)) else None)
    wait-more le =
        let n = length j in
        let count : suc (length (more j x) - 1) - p ≡ suc (suc (length j - 1) - p) = omega (arith, length-more j x, le, has-length j h) in
        let last : p + (0 + (suc (length j - 1) - p)) ≡ length j = omega (arith, le, has-length j h) in
        let places : map (λ k. p + k) (numbers_from 0 (suc (length (more j x) - 1) - p)) ≡ map (λ k. p + k) (numbers_from 0 (suc (length j - 1) - p)) ++ (length j ∷ [])
        = (λ i. map (λ k. p + k) (numbers_from 0 (count i))) ∙ ap (map (λ k. p + k)) (numbers-snoc 0 (suc (length j - 1) - p))
        ∙ map-snoc (λ k. p + k) (numbers_from 0 (suc (length j - 1) - p)) (0 + (suc (length j - 1) - p)) ∙ (λ i. map (λ k. p + k) (numbers_from 0 (suc (length j - 1) - p)) ++ (last i ∷ [])) in
        let test = λ (q : ℕ). completes (more j x) ask p q || is_over (more j x) ask p q in
        (λ i. option_map (end_at (more j x) ask p) (find test (places i)))
        ∙ ap (option_map (end_at (more j x) ask p)) (find-snoc test (map (λ k. p + k) (numbers_from 0 (suc (length j - 1) - p))) (length j))
        ∙ or-map (end_at (more j x) ask p) (find test (map (λ k. p + k) (numbers_from 0 (suc (length j - 1) - p)))) (if test (length j) then Some (length j) else None)
        ∙ (λ i. or_else (found-alike test (λ q. completes j ask p q || is_over j ask p q) (end_at (more j x) ask p) (end_at j ask p) p 0 (suc (length j - 1) - p)
        (λ k lt q. completes-more (p + k) (omega (arith, lt, le, has-length j h)) q || over-more (p + k) (omega arith) (omega (arith, lt, le, has-length j h)) q)
        (λ k lt. end-more (p + k) (omega arith) (omega (arith, lt, le, has-length j h))) i) (option_map (end_at (more j x) ask p) (if test (length j) then Some (length j) else None)))
        ∙ (λ i. or_else (wait_end j ask p) (by (test (length j)) i))
      where
        by : (b : Bool) → option_map (end_at (more j x) ask p) (if b then Some (length j) else None) ≡ (if b then Some (end_at (more j x) ask p (length j)) else None)
        by true = refl
        by false = refl
