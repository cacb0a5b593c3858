-- A step in one list of a parallel block changes that list's continuation alone.
use Rattle.std.proofs.Common.{◌≡◌, ℕ, zero, suc, ◌+◌, ◌<◌, List, [], ◌∷◌, ◌&&◌, ◌||◌, map, length, set, get_or, Bool, true, false, refl, sym, ap, ◌∙◌, rules, arith}
use Rattle.std.specs.Prelude.{Option, Some, None, option_map, nat_eq, nat_lt, if◌then◌else◌}
use Rattle.std.specs.Option.{option_map_or}
use Rattle.std.proofs.Math.ListN.{length-set}
use Rattle.std.specs.List.{list_any, list_all, cons_option}
use Rattle.ha_sight.specs.declared.item.Item.{Item}
use Rattle.ha_sight.specs.Scripts.{Branch, Spot, Outcome, Status, gives, prefixed, ends, side, on_side, front, past_front, is_deeper, take_item, woven, all_allowed, is_open, first_halt, halt_or, after_lists, each_on, joined_lists, side_by_side}

abbrev Cont : Type 0
Cont = List Spot → Option Outcome

-- the outcome at place d gives one item first
give_at : ℕ → Item → List (Option Outcome) → List (Option Outcome)
give_at d item [] = []
give_at zero item (o ∷ os) = gives item o ∷ os
give_at (suc d) item (o ∷ os) = o ∷ give_at d item os

gave_at : ℕ → Item → List Outcome → List Outcome
gave_at d item [] = []
gave_at zero item (o ∷ os) = record o { items = item ∷ o.items } ∷ os
gave_at (suc d) item (o ∷ os) = o ∷ gave_at d item os

module _ (b : Branch) (s : Spot) (item : Item) where
  on-side : (i : ℕ) (ps : List Spot) → side b s ≡ i → on_side b i (s ∷ ps) ≡ s ∷ on_side b i ps
  on-side i ps e = (let h : nat_eq (side b s) i ≡ true = search rules in rw h)

  off-side : (i : ℕ) (ps : List Spot) → (side b s ≡ i → ⊥) → on_side b i (s ∷ ps) ≡ on_side b i ps
  off-side i ps e = (let h : nat_eq (side b s) i ≡ false = search rules in rw h)

  each-later : (lists : List Cont) (k : ℕ) (ps : List Spot) → side b s < k → each_on b k lists (s ∷ ps) ≡ each_on b k lists ps
  each-later [] k ps lt = refl
  each-later (l ∷ ls) k ps lt =
      let off = off-side k ps (λ e. omega arith) in
      (λ i. l (off i) ∷ each-later ls (suc k) ps (omega arith) i)

  each-step : (lists : List Cont) (k d : ℕ) (new : Cont) (ps : List Spot) → side b s ≡ k + d → d < length lists
      → ((z : Cont) (qs : List Spot) → get_or lists d z (s ∷ qs) ≡ gives item (new qs))
      → each_on b k lists (s ∷ ps) ≡ give_at d item (each_on b k (set lists d new) ps)
  unfolding give_at
  each-step [] k d new ps e lt h = absurd (omega arith)
  each-step (l ∷ ls) k zero new ps e lt h =
      let on = on-side k ps (omega arith) in
      (λ i. l (on i) ∷ each-later ls (suc k) ps (omega arith) i) ∙ (λ i. h l (on_side b k ps) i ∷ each_on b (suc k) ls ps)
  each-step (l ∷ ls) k (suc d) new ps e lt h =
      let off = off-side k ps (λ q. omega arith) in
      (λ i. l (off i) ∷ each-step ls (suc k) d new ps (omega arith) (omega arith) (λ z. h z) i)

allowed-step : (item : Item) (os : List (Option Outcome)) (d : ℕ) → all_allowed (give_at d item os) ≡ option_map (gave_at d item) (all_allowed os)
unfolding give_at gave_at
allowed-step item [] d = refl
allowed-step item (None ∷ os) zero = refl
allowed-step item (None ∷ os) (suc d) = refl
allowed-step item (Some o ∷ os) zero = by (all_allowed os)
  where
    by : (r : Option (List Outcome)) → option_map (λ rest. record o { items = item ∷ o.items } ∷ rest) r ≡ option_map (gave_at zero item) (option_map (λ rest. o ∷ rest) r)
    by None = refl
    by (Some r) = refl
allowed-step item (Some o ∷ os) (suc d) = ap (option_map (λ rest. o ∷ rest)) (allowed-step item os d) ∙ by (all_allowed os)
  where
    by : (r : Option (List Outcome)) → option_map (λ rest. o ∷ rest) (option_map (gave_at d item) r) ≡ option_map (gave_at (suc d) item) (option_map (λ rest. o ∷ rest) r)
    by None = refl
    by (Some r) = refl

-- the item is the next one of the list
taken : (item : Item) (os : List Outcome) (d : ℕ) → d < length os → take_item d (map (λ o. o.items) (gave_at d item os)) ≡ (Some item, map (λ o. o.items) os)
unfolding gave_at
taken item [] d lt = absurd (omega arith)
taken item (o ∷ os) zero lt = refl
taken item (o ∷ os) (suc d) lt = (let t = taken item os d (omega arith) in (λ i. ((t i).0, o.items ∷ (t i).1)))

any-gave : (item : Item) (os : List Outcome) (d : ℕ) → list_any (λ o. is_open o.status) (gave_at d item os) ≡ list_any (λ o. is_open o.status) os
unfolding gave_at
any-gave item [] d = refl
any-gave item (o ∷ os) zero = refl
any-gave item (o ∷ os) (suc d) = ap (λ x. is_open o.status || x) (any-gave item os d)

halt-gave : (item : Item) (os : List Outcome) (d : ℕ) → first_halt (gave_at d item os) ≡ first_halt os
unfolding gave_at
halt-gave item [] d = refl
halt-gave item (o ∷ os) zero = refl
halt-gave item (o ∷ os) (suc d) = ap (halt_or o.status) (halt-gave item os d)

prefixed-more : (item : Item) (items : List Item) (o : Option Outcome) → prefixed (item ∷ items) o ≡ gives item (prefixed items o)
prefixed-more item items None = refl
prefixed-more item items (Some o) = refl

length-allowed : (xs : List (Option Outcome)) (os : List Outcome) → all_allowed xs ≡ Some os → length os ≡ length xs
length-allowed [] [] h = refl
length-allowed [] (o ∷ os) h = cc
length-allowed (None ∷ xs) os h = cc
length-allowed (Some x ∷ xs) os h = by (all_allowed xs) (length-allowed xs) h
  where
    by : (r : Option (List Outcome)) → ((l : List Outcome) → r ≡ Some l → length l ≡ length xs) → option_map (λ rest. x ∷ rest) r ≡ Some os → length os ≡ length (Some x ∷ xs)
    by None f q = cc
    by (Some r) f q = (let same_list : x ∷ r ≡ os = cc in ap length (sym same_list) ∙ ap suc (f r refl))

length-each : (b : Branch) (k : ℕ) (lists : List Cont) (ps : List Spot) → length (each_on b k lists ps) ≡ length lists
length-each b k [] ps = refl
length-each b k (l ∷ ls) ps = ap suc (length-each b (suc k) ls ps)

module _ (b : Branch) (next : Cont) (s : Spot) (item : Item) (places past : List Spot) where
  joined-step : (r : Option (List Outcome)) → ((os : List Outcome) → r ≡ Some os → side b s < length os)
      → joined_lists b next (s ∷ places) past (option_map (gave_at (side b s) item) r) ≡ gives item (joined_lists b next places past r)
  joined-step None lt = refl
  joined-step (Some os) lt =
      let t = taken item os (side b s) (lt os refl) in
      let a = any-gave item os (side b s) in
      let f = halt-gave item os (side b s) in
      (λ i. prefixed (cons_option (t i).0 (woven b places (t i).1)) (if a i then ends Status.Open past else option_map_or (λ status. ends status past) (f i) (next past)))
      ∙ prefixed-more item (woven b places (map (λ o. o.items) os)) (after_lists os next past)

gives-if : (t : Bool) (item : Item) (o : Option Outcome) → (if t then gives item o else None) ≡ gives item (if t then o else None)
gives-if true item o = refl
gives-if false item o = refl

module _ (b : Branch) (next : Cont) (s : Spot) (rest : List Spot) where
  -- in a parallel block, a step of the list that a place names changes that list's continuation alone
  -- a block over its places and those behind them
  abbrev block : ℕ → List Spot → List Spot → List (Option Outcome) → Option Outcome
  block n places past xs = if list_all (λ q. nat_lt (side b q) n) places then joined_lists b next places past (all_allowed xs) else None

  pub side-step : (lists : List Cont) (item : Item) (new : Cont) → is_deeper b s.branch ≡ true → side b s < length lists
      → ((z : Cont) (qs : List Spot) → get_or lists (side b s) z (s ∷ qs) ≡ gives item (new qs))
      → side_by_side b lists next (s ∷ rest) ≡ gives item (side_by_side b (set lists (side b s) new) next rest)
  side-step lists item new deeper lt h =
      let fr = front b rest in
      let past = past_front b rest in
      let after : List (Option Outcome) = each_on b 0 (set lists (side b s) new) fr in
      let named : nat_lt (side b s) (length lists) ≡ true = search rules in
      let long : length (set lists (side b s) new) ≡ length lists = length-set lists (side b s) new in
      let places_are : front b (s ∷ rest) ≡ s ∷ fr = rw deeper in
      let past_is : past_front b (s ∷ rest) ≡ past = rw deeper in
      let step : each_on b 0 lists (s ∷ fr) ≡ give_at (side b s) item after = each-step b s item lists 0 (side b s) new fr (omega arith) lt h in
      let joined = joined-step b next s item fr past (all_allowed after) (λ os e. omega (arith, length-allowed after os e, length-each b 0 (set lists (side b s) new) fr, long)) in
      (λ i. block (length lists) (places_are i) (past_is i) (each_on b 0 lists (places_are i)))
      ∙ (λ i. if named i && list_all (λ q. nat_lt (side b q) (length lists)) fr then joined_lists b next (s ∷ fr) past ((ap all_allowed step ∙ allowed-step item after (side b s)) i) else None)
      ∙ (λ i. if list_all (λ q. nat_lt (side b q) (sym long i)) fr then joined i else None)
      ∙ gives-if (list_all (λ q. nat_lt (side b q) (length (set lists (side b s) new))) fr) item (joined_lists b next fr past (all_allowed after))
