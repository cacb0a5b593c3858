-- An expression has the same value in two sights that agree on what it reads.
use Rattle.std.proofs.Common.{◌≡◌, ◌∙◌, ℕ, zero, suc, Bool, true, false, List, [], ◌∷◌, map, refl, sym, subst}
use Rattle.std.specs.Prelude.{Option, Some, None, MatchOption, not, ◌||◌, nat_eq, nat_le, slice_get, option_map, option_and_then, unwrap_or, pos, negsuc, ◌-◌, length, sum_by, if◌then◌else◌}
use Rattle.std.proofs.lemmas.Bool.{eqb-true}
use Rattle.ha_value.specs.declared.value.Num.{Num}
use Rattle.ha_value.specs.declared.value.Value.{Value}
use Rattle.ha_value.specs.declared.value.Value.TheOpen.{Value-F}
use Rattle.ha_value.specs.declared.value.Value.TheVariants.{Items, outs-Items}
use Rattle.ha_value.specs.declared.value.Value.TheViews.{out-Value}
use Rattle.ha_value.specs.Truth.{truth}
use Rattle.ha_config.specs.declared.template.Op.{Op}
use Rattle.ha_config.specs.declared.template.Expr.{Expr}
use Rattle.ha_config.specs.declared.template.Expr.TheOpen.{Expr-F}
use Rattle.ha_config.specs.declared.template.Expr.TheViews.{roll-Expr}
use Rattle.ha_config.specs.declared.template.Expr.TheFolds.{ind-Expr, map-Expr}
use Rattle.ha_config.specs.Words.{Text, Pairs, first_of_list, first_pair, last_of}
use Rattle.ha_sight.specs.FilterNumbers as filter
use Rattle.ha_sight.specs.Sight.{Sight}
use Rattle.ha_sight.specs.Filters.{filtered, applied}
use Rattle.ha_sight.specs.Values.{at_index, bounded_items, field_of, is_null, item_number, items_in, items_of, most_values, negation, operate, pairs_in, part_at, size_of}
use Rattle.ha_sight.specs.Templates as t
use Rattle.ha_sight.specs.Templates.{expr_step, pair_step, value_of, Meaning}
use Rattle.ha_sight.proofs.Rolls.{value_of-roll}
use Rattle.tpl_reads.specs.Reads.{Known, all_of, both, known_of, known_step, looked_up, looks_up, reads_of, takes_item}
use Rattle.tpl_reads.proofs.KnownRolls.{known_of-roll}
use Rattle.tpl_reads.proofs.SameLemmas.{Alike, AllAlike, On, applied-alike, applied-none, applied-same, empty-alike, ids-alike, items-alike, null-alike, on-both}

module _ (a b : Sight) where
  abbrev OnValue : (Value → Type 0) → Option Value → Type 0
  OnValue P o = MatchOption o (Unit {0}) P

  -- a list whose items name the same states in both sights
  abbrev AlikeItems : Value → Type 0
  AlikeItems v = (vs : List Value) × (out-Value v ≡ Value-F.Items vs) × AllAlike a b vs

  -- ---- an item of such a list

  or-null : (o : Option Value) → OnValue (Alike a b) o → Alike a b (unwrap_or o Value.Null)
  or-null None h = null-alike a b
  or-null (Some v) h = h

  item-at : (vs : List Value) → AllAlike a b vs → (n : ℕ) → OnValue (Alike a b) (slice_get vs n)
  item-at [] h n = tt
  item-at (v ∷ vs) h zero = h.0
  item-at (v ∷ vs) h (suc n) = item-at vs h.1 n

  item-number : (vs : List Value) → AllAlike a b vs → (n : Num) → OnValue (Alike a b) (item_number vs n)
  item-number vs h (Num.Whole (pos i)) = item-at vs h i
  item-number vs h (Num.Whole (negsuc i)) = by (nat_le (suc i) (length vs)) (slice_get vs (length vs - suc i)) (item-at vs h (length vs - suc i))
    where
      by : (c : Bool) (o : Option Value) → OnValue (Alike a b) o → OnValue (Alike a b) (if c then o else None)
      by true o k = k
      by false o k = tt
  item-number vs h (Num.Fixed z) = tt

  no-field : (v : Value) (vs : List Value) (name : Text) → out-Value v ≡ Value-F.Items vs → Alike a b (field_of v name)
  no-field v vs name e =
      subst (λ (w : Value-F Value). Alike a b (unwrap_or (option_and_then (first_pair name) (pairs_in w)) Value.Null)) (sym e) (null-alike a b)

  at-alike : (v : Value) → AlikeItems v → (w : Value-F Value) → Alike a b (at_index v w)
  at-alike v h (Value-F.Text name) = no-field v h.0 name h.1
  at-alike v h (Value-F.Number n) =
      subst (λ (w : Value-F Value). Alike a b (unwrap_or (option_and_then (λ vs. item_number vs n) (items_in w)) Value.Null)) (sym h.1)
      (or-null (item_number h.0 n) (item-number h.0 h.2 n))
  at-alike v h Value-F.Null = null-alike a b
  at-alike v h (Value-F.Flag x) = null-alike a b
  at-alike v h (Value-F.Items vs) = null-alike a b
  at-alike v h (Value-F.Pairs ps) = null-alike a b

  first-alike : (vs : List Value) → AllAlike a b vs → OnValue (Alike a b) (first_of_list vs)
  first-alike [] h = tt
  first-alike (v ∷ vs) h = h.0

  last-alike : (vs : List Value) → AllAlike a b vs → OnValue (Alike a b) (last_of vs)
  last-alike [] h = tt
  last-alike (v ∷ []) h = h.0
  last-alike (v ∷ w ∷ vs) h = last-alike (w ∷ vs) h.1

  -- an item that is there, or null, of the list that a value is
  one-alike : (take : List Value → Option Value) → ((vs : List Value) → AllAlike a b vs → OnValue (Alike a b) (take vs))
      → (v : Value) → AlikeItems v → OnValue (Alike a b) (option_map (λ vs. unwrap_or (take vs) Value.Null) (items_of v))
  one-alike take keeps v h =
      subst (λ (w : Value-F Value). OnValue (Alike a b) (option_map (λ vs. unwrap_or (take vs) Value.Null) (items_in w))) (sym h.1)
      (or-null (take h.0) (keeps h.0 h.2))

  first-filtered : (v : Value) (args : List Value) → AlikeItems v → OnValue (Alike a b) (filtered filter.first v args)
  first-filtered v [] h = one-alike first_of_list first-alike v h
  first-filtered v (x ∷ []) h = tt
  first-filtered v (x ∷ y ∷ []) h = tt
  first-filtered v (x ∷ y ∷ z ∷ more) h = tt

  last-filtered : (v : Value) (args : List Value) → AlikeItems v → OnValue (Alike a b) (filtered filter.last v args)
  last-filtered v [] h = one-alike last_of last-alike v h
  last-filtered v (x ∷ []) h = tt
  last-filtered v (x ∷ y ∷ []) h = tt
  last-filtered v (x ∷ y ∷ z ∷ more) h = tt

  filtered-alike : (name : ℕ) (v : Value) (args : List Value) → takes_item name ≡ true → AlikeItems v → OnValue (Alike a b) (filtered name v args)
  filtered-alike name v args is h = by (nat_eq name filter.first) (nat_eq name filter.last) refl refl is
    where
      by : (p q : Bool) → nat_eq name filter.first ≡ p → nat_eq name filter.last ≡ q → (p || q) ≡ true → OnValue (Alike a b) (filtered name v args)
      by true q e f k = subst (λ (n : ℕ). OnValue (Alike a b) (filtered n v args)) (sym (eqb-true name filter.first e)) (first-filtered v args h)
      by false true e f k = subst (λ (n : ℕ). OnValue (Alike a b) (filtered n v args)) (sym (eqb-true name filter.last f)) (last-filtered v args h)
      by false false e f k = absurd (cc)

  -- ---- one level of an expression

  record Same (e : Expr) : Type 0 where
    value : On a b (known_of e).reads → (env : Pairs) → value_of a e env ≡ value_of b e env
    named : On a b (known_of e).named → (env : Pairs) → OnValue (Alike a b) (value_of a e env)
    listed : On a b (known_of e).listed → (env : Pairs) → OnValue AlikeItems (value_of a e env)

  abbrev Proved : Type 0
  Proved = (e : Expr) × Same e

  abbrev below : Expr-F Proved → Expr-F Expr
  below = map-Expr Proved Expr (λ p. p.0)

  abbrev known : Expr-F Proved → Known
  known y = known_step (map-Expr Expr Known known_of (below y))

  abbrev meant : (s : Sight) → Expr-F Proved → Meaning s
  meant s y = expr_step s (map-Expr Expr (Meaning s) (value_of s) (below y))

  abbrev plain : List Proved → List Expr
  plain es = map {A = Proved} {B = Expr} (λ p. p.0) es

  all-same : (es : List Proved) → On a b (reads_of (map known_of (plain es))) → (env : Pairs)
      → t.all_of a (map (value_of a) (plain es)) env ≡ t.all_of b (map (value_of b) (plain es)) env
  all-same [] h env = refl
  all-same (e ∷ es) h env =
      let g = on-both a b (known_of e.0).reads (reads_of (map known_of (plain es))) h in
      λ i. option_and_then (λ v. option_map (λ vs. v ∷ vs) (all-same es g.1 env i)) (e.1.value g.0 env i)

  -- the values of items that name the same states
  all-alike : (es : List Proved) → On a b (all_of (map (λ k. k.named) (map known_of (plain es)))) → (env : Pairs)
      → MatchOption (t.all_of a (map (value_of a) (plain es)) env) (Unit {0}) (AllAlike a b)
  all-alike [] h env = tt
  all-alike (e ∷ es) h env = by (value_of a e.0 env) (t.all_of a (map (value_of a) (plain es)) env) (e.1.named g.0 env) (all-alike es g.1 env)
    where
      g : On a b (known_of e.0).named × On a b (all_of (map (λ k. k.named) (map known_of (plain es))))
      g = on-both a b (known_of e.0).named (all_of (map (λ k. k.named) (map known_of (plain es)))) h

      by : (o : Option Value) (os : Option (List Value)) → OnValue (Alike a b) o → MatchOption os (Unit {0}) (AllAlike a b)
          → MatchOption (option_and_then (λ v. option_map (λ vs. v ∷ vs) os) o) (Unit {0}) (AllAlike a b)
      by None os p q = tt
      by (Some v) None p q = tt
      by (Some v) (Some vs) p q = (p, q)

  -- a function whose first argument names the same state, or that looks nothing up
  function-same : (name : ℕ) (es : List Proved) → On a b (looked_up name (map known_of (plain es))) → (env : Pairs)
      → option_and_then (applied a name) (t.all_of a (map (value_of a) (plain es)) env) ≡ option_and_then (applied b name) (t.all_of a (map (value_of a) (plain es)) env)
  function-same name [] h env = applied-none a b name
  function-same name (e ∷ es) h env = by (looks_up name) refl h
    where
      V : Option Value
      V = value_of a e.0 env

      O : Option (List Value)
      O = t.all_of a (map (value_of a) (plain es)) env

      with_all : (v : Value) (o : Option (List Value)) → ((vs : List Value) → applied a name (v ∷ vs) ≡ applied b name (v ∷ vs))
          → option_and_then (applied a name) (option_map (λ vs. v ∷ vs) o) ≡ option_and_then (applied b name) (option_map (λ vs. v ∷ vs) o)
      with_all v None k = refl
      with_all v (Some vs) k = k vs

      with_first : (v : Option Value) → OnValue (λ v. (vs : List Value) → applied a name (v ∷ vs) ≡ applied b name (v ∷ vs)) v
          → option_and_then (applied a name) (option_and_then (λ v. option_map (λ vs. v ∷ vs) O) v) ≡ option_and_then (applied b name) (option_and_then (λ v. option_map (λ vs. v ∷ vs) O) v)
      with_first None k = refl
      with_first (Some v) k = with_all v O k

      looking : (v : Option Value) → OnValue (Alike a b) v → OnValue (λ v. (vs : List Value) → applied a name (v ∷ vs) ≡ applied b name (v ∷ vs)) v
      looking None k = tt
      looking (Some v) k = λ vs. applied-alike a b name v vs k

      other : looks_up name ≡ false → (v : Option Value) → OnValue (λ v. (vs : List Value) → applied a name (v ∷ vs) ≡ applied b name (v ∷ vs)) v
      other is None = tt
      other is (Some v) = λ vs. applied-same a b name is (v ∷ vs)

      by : (c : Bool) → looks_up name ≡ c → On a b (if c then (known_of e.0).named else Some [])
          → option_and_then (applied a name) (option_and_then (λ v. option_map (λ vs. v ∷ vs) O) V) ≡ option_and_then (applied b name) (option_and_then (λ v. option_map (λ vs. v ∷ vs) O) V)
      by true is k = with_first V (looking V (e.1.named k env))
      by false is k = with_first V (other is V)

  pair-same : (op : Op) (l r : Meaning a) (l' r' : Meaning b) (env : Pairs) → l env ≡ l' env → r env ≡ r' env → pair_step a op l r env ≡ pair_step b op l' r' env
  pair-same Op.Or l r l' r' env p q = λ i. option_and_then (λ v. if truth v then Some v else q i) (p i)
  pair-same Op.And l r l' r' env p q = λ i. option_and_then (λ v. if truth v then q i else Some v) (p i)
  pair-same Op.Equal l r l' r' env p q = λ i. option_and_then (λ v. option_and_then (operate Op.Equal v) (q i)) (p i)
  pair-same Op.Unequal l r l' r' env p q = λ i. option_and_then (λ v. option_and_then (operate Op.Unequal v) (q i)) (p i)
  pair-same Op.Less l r l' r' env p q = λ i. option_and_then (λ v. option_and_then (operate Op.Less v) (q i)) (p i)
  pair-same Op.AtMost l r l' r' env p q = λ i. option_and_then (λ v. option_and_then (operate Op.AtMost v) (q i)) (p i)
  pair-same Op.More l r l' r' env p q = λ i. option_and_then (λ v. option_and_then (operate Op.More v) (q i)) (p i)
  pair-same Op.AtLeast l r l' r' env p q = λ i. option_and_then (λ v. option_and_then (operate Op.AtLeast v) (q i)) (p i)
  pair-same Op.Within l r l' r' env p q = λ i. option_and_then (λ v. option_and_then (operate Op.Within v) (q i)) (p i)
  pair-same Op.Outside l r l' r' env p q = λ i. option_and_then (λ v. option_and_then (operate Op.Outside v) (q i)) (p i)
  pair-same Op.Plus l r l' r' env p q = λ i. option_and_then (λ v. option_and_then (operate Op.Plus v) (q i)) (p i)
  pair-same Op.Minus l r l' r' env p q = λ i. option_and_then (λ v. option_and_then (operate Op.Minus v) (q i)) (p i)
  pair-same Op.Join l r l' r' env p q = λ i. option_and_then (λ v. option_and_then (operate Op.Join v) (q i)) (p i)
  pair-same Op.Times l r l' r' env p q = λ i. option_and_then (λ v. option_and_then (operate Op.Times v) (q i)) (p i)
  pair-same Op.Over l r l' r' env p q = λ i. option_and_then (λ v. option_and_then (operate Op.Over v) (q i)) (p i)
  pair-same Op.Floor l r l' r' env p q = λ i. option_and_then (λ v. option_and_then (operate Op.Floor v) (q i)) (p i)
  pair-same Op.Modulo l r l' r' env p q = λ i. option_and_then (λ v. option_and_then (operate Op.Modulo v) (q i)) (p i)

  value-step : (y : Expr-F Proved) → On a b (known y).reads → (env : Pairs) → meant a y env ≡ meant b y env
  value-step (Expr-F.Plain v) h env = refl
  value-step (Expr-F.Name name) h env = refl
  value-step (Expr-F.List es) h env = λ i. option_and_then bounded_items (all-same es h env i)
  value-step (Expr-F.Field e name) h env = λ i. option_map (λ v. field_of v name) (e.1.value h env i)
  value-step (Expr-F.At e index) h env =
      let g = on-both a b (known_of e.0).reads (known_of index.0).reads h in
      λ i. option_and_then (λ v. option_map (part_at v) (index.1.value g.1 env i)) (e.1.value g.0 env i)
  value-step (Expr-F.Filter name e args) h env =
      let g = on-both a b (known_of e.0).reads (reads_of (map known_of (plain args))) h in
      λ i. option_and_then (λ v. option_and_then (filtered name v) (all-same args g.1 env i)) (e.1.value g.0 env i)
  value-step (Expr-F.Function name args) h env =
      let g = on-both a b (looked_up name (map known_of (plain args))) (reads_of (map known_of (plain args))) h in
      function-same name args g.0 env ∙ (λ i. option_and_then (applied b name) (all-same args g.1 env i))
  value-step (Expr-F.Negate e) h env = λ i. option_and_then negation (e.1.value h env i)
  value-step (Expr-F.Not e) h env = λ i. option_map (λ v. Value.Flag (not (truth v))) (e.1.value h env i)
  value-step (Expr-F.IsNone e holds) h env = λ i. option_map (λ v. Value.Flag (if is_null v then holds else not holds)) (e.1.value h env i)
  value-step (Expr-F.Pair op left right) h env =
      let g = on-both a b (known_of left.0).reads (known_of right.0).reads h in
      pair-same op (value_of a left.0) (value_of a right.0) (value_of b left.0) (value_of b right.0) env (left.1.value g.0 env) (right.1.value g.1 env)
  value-step (Expr-F.Pick test yes' None) h env =
      let g = on-both a b (both (known_of test.0).reads (known_of yes'.0).reads) (Some []) h in
      let k = on-both a b (known_of test.0).reads (known_of yes'.0).reads g.0 in
      λ i. option_and_then (λ v. if truth v then yes'.1.value k.1 env i else Some (Value.Text [])) (test.1.value k.0 env i)
  value-step (Expr-F.Pick test yes' (Some e)) h env =
      let g = on-both a b (both (known_of test.0).reads (known_of yes'.0).reads) (known_of e.0).reads h in
      let k = on-both a b (known_of test.0).reads (known_of yes'.0).reads g.0 in
      λ i. option_and_then (λ v. if truth v then yes'.1.value k.1 env i else e.1.value g.1 env i) (test.1.value k.0 env i)

  -- ---- what a value names

  within : (P : Value → Type 0) (vs : List Value) → P (Items vs) → OnValue P (bounded_items vs)
  within P vs h = by (nat_le (sum_by size_of vs) most_values)
    where
      by : (c : Bool) → OnValue P (if c then Some (Items vs) else None)
      by true = h
      by false = tt

  list-named : (o : Option (List Value)) → OnValue (Alike a b) (option_and_then bounded_items o)
  list-named None = tt
  list-named (Some vs) = within (Alike a b) vs (items-alike a b vs)

  list-listed : (o : Option (List Value)) → MatchOption o (Unit {0}) (AllAlike a b) → OnValue AlikeItems (option_and_then bounded_items o)
  list-listed None h = tt
  list-listed (Some vs) h = within AlikeItems vs (vs, simp outs-Items, h)

  part-named : (o index : Option Value) → OnValue AlikeItems o → OnValue (Alike a b) (option_and_then (λ v. option_map (part_at v) index) o)
  part-named None index h = tt
  part-named (Some v) None h = tt
  part-named (Some v) (Some w) h = at-alike v h (out-Value w)

  filter-named : (name : ℕ) → takes_item name ≡ true → (o : Option Value) (args : Option (List Value)) → OnValue AlikeItems o
      → OnValue (Alike a b) (option_and_then (λ v. option_and_then (filtered name v) args) o)
  filter-named name is None args h = tt
  filter-named name is (Some v) None h = tt
  filter-named name is (Some v) (Some vs) h = filtered-alike name v vs is h

  pick-named : (test first second : Option Value) → OnValue (Alike a b) first → OnValue (Alike a b) second
      → OnValue (Alike a b) (option_and_then (λ v. if truth v then first else second) test)
  pick-named None first second h k = tt
  pick-named (Some v) first second h k = by (truth v)
    where
      by : (c : Bool) → OnValue (Alike a b) (if c then first else second)
      by true = h
      by false = k

  named-step : (y : Expr-F Proved) → On a b (known y).named → (env : Pairs) → OnValue (Alike a b) (meant a y env)
  named-step (Expr-F.Plain v) h env = ids-alike a b v h
  named-step (Expr-F.Name name) h env = absurd h
  named-step (Expr-F.List es) h env = list-named (t.all_of a (map (value_of a) (plain es)) env)
  named-step (Expr-F.Field e name) h env = absurd h
  named-step (Expr-F.At e index) h env = part-named (value_of a e.0 env) (value_of a index.0 env) (e.1.listed h env)
  named-step (Expr-F.Filter name e args) h env = by (takes_item name) refl h
    where
      by : (c : Bool) → takes_item name ≡ c → On a b (if c then (known_of e.0).listed else None)
          → OnValue (Alike a b) (option_and_then (λ v. option_and_then (filtered name v) (t.all_of a (map (value_of a) (plain args)) env)) (value_of a e.0 env))
      by true is k = filter-named name is (value_of a e.0 env) (t.all_of a (map (value_of a) (plain args)) env) (e.1.listed k env)
      by false is k = absurd k
  named-step (Expr-F.Function name args) h env = absurd h
  named-step (Expr-F.Negate e) h env = absurd h
  named-step (Expr-F.Not e) h env = absurd h
  named-step (Expr-F.IsNone e holds) h env = absurd h
  named-step (Expr-F.Pair op left right) h env = absurd h
  named-step (Expr-F.Pick test yes' None) h env =
      let g = on-both a b (known_of yes'.0).named (Some []) h in
      pick-named (value_of a test.0 env) (value_of a yes'.0 env) (Some (Value.Text [])) (yes'.1.named g.0 env) (empty-alike a b)
  named-step (Expr-F.Pick test yes' (Some e)) h env =
      let g = on-both a b (known_of yes'.0).named (known_of e.0).named h in
      pick-named (value_of a test.0 env) (value_of a yes'.0 env) (value_of a e.0 env) (yes'.1.named g.0 env) (e.1.named g.1 env)

  listed-step : (y : Expr-F Proved) → On a b (known y).listed → (env : Pairs) → OnValue AlikeItems (meant a y env)
  listed-step (Expr-F.Plain v) h env = absurd h
  listed-step (Expr-F.Name name) h env = absurd h
  listed-step (Expr-F.List es) h env = list-listed (t.all_of a (map (value_of a) (plain es)) env) (all-alike es h env)
  listed-step (Expr-F.Field e name) h env = absurd h
  listed-step (Expr-F.At e index) h env = absurd h
  listed-step (Expr-F.Filter name e args) h env = absurd h
  listed-step (Expr-F.Function name args) h env = absurd h
  listed-step (Expr-F.Negate e) h env = absurd h
  listed-step (Expr-F.Not e) h env = absurd h
  listed-step (Expr-F.IsNone e holds) h env = absurd h
  listed-step (Expr-F.Pair op left right) h env = absurd h
  listed-step (Expr-F.Pick test yes' no') h env = absurd h

  rolled : (y : Expr-F Proved) → Same (roll-Expr (below y))
  rolled y = record {
    value = λ h env.
        value_of-roll a (below y) env ∙ value-step y (subst (λ (k : Known). On a b k.reads) (known_of-roll (below y)) h) env ∙ sym (value_of-roll b (below y) env);
    named = λ h env.
        subst (λ (o : Option Value). OnValue (Alike a b) o) (sym (value_of-roll a (below y) env))
        (named-step y (subst (λ (k : Known). On a b k.named) (known_of-roll (below y)) h) env);
    listed = λ h env.
        subst (λ (o : Option Value). OnValue AlikeItems o) (sym (value_of-roll a (below y) env))
        (listed-step y (subst (λ (k : Known). On a b k.listed) (known_of-roll (below y)) h) env);
  }

  expr-same : (e : Expr) → Same e
  expr-same = ind-Expr Same (λ x y is. subst (λ z. Same (roll-Expr z)) is (rolled y))

  -- LAW: an expression has the same value in both sights, in each environment
  pub value-same : (e : Expr) → On a b (known_of e).reads → (env : Pairs) → value_of a e env ≡ value_of b e env
  value-same e = (expr-same e).value
