-- The automations that targets name, each once, and the flags of a call's data.
use Rattle.std.proofs.Common.{◌≡◌, ◌∙◌, ap, ℕ, zero, suc, ◌+◌, ◌<◌, Bool, true, false, refl, List, [], ◌∷◌, ◌++◌, length, get_or, take, sym, rules, arith}
use Rattle.std.specs.Prelude.{IsSome, Option, Some, None, ◌&&◌, nat_eq, find, is_some, option_map, slice_index_or, unwrap_or, codes, if◌then◌else◌}
use Rattle.std.specs.List.{list_all}
use Rattle.std.specs.Option.{option_map_or}
use Rattle.ha_value.specs.declared.value.EntityId.{EntityId}
use Rattle.ha_value.specs.declared.value.Value.{Value}
use Rattle.ha_value.specs.declared.value.Value.TheViews.{out-Value}
use Rattle.ha_config.specs.Words.{Text, Pairs, same, last_pair}
use Rattle.ha_sight.specs.Calls.{automation_at, flag_or_true, flag_named, was_on}
use Rattle.ha_sight.specs.Once.{has_number, with_number}
use Rattle.ha_sight.specs.Sight.{Automations, switch_at}
use Rattle.ha_sight.proofs.OnceLemmas.{front-more}

-- ---- flags

last-more : (name : Text) (ps : Pairs) (p : Text × Value) → last_pair name (ps ++ (p ∷ [])) ≡ (if same p.0 name then Some p.1 else last_pair name ps)
last-more name [] p = refl
last-more name (q ∷ qs) p = by (same p.0 name) refl (last-more name qs p)
  where
    by : (b : Bool) → same p.0 name ≡ b → last_pair name (qs ++ (p ∷ [])) ≡ (if same p.0 name then Some p.1 else last_pair name qs)
        → last_pair name (q ∷ (qs ++ (p ∷ []))) ≡ (if b then Some p.1 else last_pair name (q ∷ qs))
    by true e h = (let z : last_pair name (qs ++ (p ∷ [])) ≡ Some p.1 = h ∙ (λ k. if e k then Some p.1 else last_pair name qs) in rw z refl)
    by false e h = (let z : last_pair name (qs ++ (p ∷ [])) ≡ last_pair name qs = h ∙ (λ k. if e k then Some p.1 else last_pair name qs) in rw z refl)

abbrev flag_of : Option Value → Bool
flag_of o = option_map_or (λ v. flag_or_true (out-Value v)) o true

pub flag-more : (name : Text) (ps : Pairs) (i : ℕ) (p : Text × Value) → i < length ps → p ≡ get_or ps i p
    → flag_named name (take (i + 1) ps) ≡ (if same p.0 name then flag_or_true (out-Value p.1) else flag_named name (take i ps))
flag-more name ps i p lt is = ap (flag_named name) (front-more ps i p lt is) ∙ ap flag_of (last-more name (take i ps) p) ∙ by (same p.0 name)
  where
    by : (b : Bool) → flag_of (if b then Some p.1 else last_pair name (take i ps)) ≡ (if b then flag_or_true (out-Value p.1) else flag_named name (take i ps))
    by true = refl
    by false = refl

-- ---- the automations that targets name are seen

abbrev pub AreSeen : Automations → List ℕ → Type 0
AreSeen all xs = list_all (λ a. is_some (switch_at all a)) xs ≡ true

pub seen-more : (all : Automations) (xs : List ℕ) (a : ℕ) → AreSeen all xs → is_some (switch_at all a) ≡ true → AreSeen all (xs ++ (a ∷ []))
seen-more all [] a h one = (λ i. one i && true)
seen-more all (x ∷ xs) a h one = by (is_some (switch_at all x)) h (λ e. seen-more all xs a e one)
  where
    by : (b : Bool) → (b && list_all (λ c. is_some (switch_at all c)) xs) ≡ true → (AreSeen all xs → AreSeen all (xs ++ (a ∷ []))) → (b && list_all (λ c. is_some (switch_at all c)) (xs ++ (a ∷ []))) ≡ true
    by true e more = more e
    by false e more = absurd (let bad : ◌≡◌ {A = Bool} false true = e in cc)

pub seen-with : (all : Automations) (xs : List ℕ) (o : Option ℕ) → AreSeen all xs → ((a : ℕ) → o ≡ Some a → is_some (switch_at all a) ≡ true) → AreSeen all (with_number o xs)
seen-with all xs None h one = h
seen-with all xs (Some a) h one = by (has_number a xs)
  where
    by : (b : Bool) → AreSeen all (if b then xs else xs ++ (a ∷ []))
    by true = h
    by false = seen-more all xs a h (one a refl)

pub seen-at : (all : Automations) (xs : List ℕ) (i a : ℕ) → AreSeen all xs → i < length xs → a ≡ get_or xs i a → IsSome (switch_at all a)
seen-at all [] i a h lt is = absurd (omega (arith, lt))
seen-at all (x ∷ xs) i a h lt is = by (is_some (switch_at all x)) refl h (λ e j. seen-at all xs j a e) i lt is
  where
    by : (b : Bool) → is_some (switch_at all x) ≡ b → (b && list_all (λ c. is_some (switch_at all c)) xs) ≡ true → (AreSeen all xs → (j : ℕ) → j < length xs → a ≡ get_or xs j a → IsSome (switch_at all a))
        → (i : ℕ) → i < length (x ∷ xs) → a ≡ get_or (x ∷ xs) i a → IsSome (switch_at all a)
    by false f e more i lt is = absurd (let bad : ◌≡◌ {A = Bool} false true = e in cc)
    by true f e more zero lt is = (λ k. is_some (switch_at all (is k))) ∙ f
    by true f e more (suc i) lt is = more e i (omega (arith, lt)) is

-- so is the one at a place
pub seen-here : (all : Automations) (xs : List ℕ) (i d : ℕ) → AreSeen all xs → i < length xs → IsSome (switch_at all (slice_index_or xs i d))
seen-here all xs i d h lt = seen-at all xs i (slice_index_or xs i d) h lt (index-here xs i lt)
  where
    index-here : (ys : List ℕ) (k : ℕ) → k < length ys → slice_index_or ys k d ≡ get_or ys k (slice_index_or ys k d)
    index-here [] k lt = absurd (omega (arith, lt))
    index-here (y ∷ ys) zero lt = refl
    index-here (y ∷ ys) (suc k) lt = index-here ys k (omega (arith, lt))

eq-self : (a b : ℕ) → a ≡ b → nat_eq a b ≡ true
eq-self a b e = search (rules, e)

-- one that is found is found by its number
found-seen : (test : ℕ × Text × Bool → Bool) (all : Automations) (a : ℕ) → option_map (λ (p : ℕ × Text × Bool). p.0) (find test all) ≡ Some a → is_some (switch_at all a) ≡ true
found-seen test [] a h = absurd (let bad : ◌≡◌ {A = Option ℕ} None (Some a) = h in cc)
found-seen test (p ∷ ps) a h = by (nat_eq p.0 a) (test p) refl refl h (found-seen test ps a)
  where
    by : (b c : Bool) → nat_eq p.0 a ≡ b → test p ≡ c → option_map (λ (q : ℕ × Text × Bool). q.0) (if c then Some p else find test ps) ≡ Some a
        → (option_map (λ (q : ℕ × Text × Bool). q.0) (find test ps) ≡ Some a → is_some (switch_at ps a) ≡ true)
        → is_some (option_map (λ (q : ℕ × Text × Bool). q.2) (if b then Some p else find (λ q. nat_eq q.0 a) ps)) ≡ true
    by true c e t g rec = refl
    by false true e t g rec = (let own : p.0 ≡ a = cc in absurd (let bad : ◌≡◌ {A = Bool} true false = sym (eq-self p.0 a own) ∙ e in cc))
    by false false e t g rec = rec g

pub automation-seen : (all : Automations) (e : EntityId) (a : ℕ) → automation_at all e ≡ Some a → is_some (switch_at all a) ≡ true
automation-seen all e a h = by (same e.domain (codes "automation")) h
  where
    by : (b : Bool) → (if b then option_map (λ (p : ℕ × Text × Bool). p.0) (find (λ (p : ℕ × Text × Bool). same p.1 e.object) all) else None) ≡ Some a → is_some (switch_at all a) ≡ true
    by true g = found-seen (λ p. same p.1 e.object) all a g
    by false g = absurd (let bad : ◌≡◌ {A = Option ℕ} None (Some a) = g in cc)

-- ---- the switch that is seen

pub seen-on : (all : Automations) (a : ℕ) (on : Bool) → switch_at all a ≡ Some on → was_on all a ≡ on
seen-on all a on h = (λ i. unwrap_or (h i) false)
