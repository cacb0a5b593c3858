-- What stands in a bracket from a place on, as the machine of flow comes to it, where keys may stand again.
use Rattle.std.proofs.Common.{◌≡◌, ℕ, Bool, true, false, ◌||◌, ◌⊎◌, inl, inr, List, [], ◌∷◌, ◌++◌, refl, sym, ap, subst, ◌∙◌, append_assoc, arith}
use Rattle.std.specs.Prelude.{max}
use Rattle.std.specs.Str.{bytes_eq}
use Rattle.std.proofs.lemmas.Slice.Eq.{bytes_eq-Decides}
use Rattle.yaml_scan.specs.Words.{is_blank}
use Rattle.yaml_tree.specs.declared.node.Node.{Node}
use Rattle.yaml_tree.specs.Nodes.{Pair, null, listed, mapped, has_key}
use Rattle.yaml_tree.specs.Brackets.{IsAfter, blank, ends_key, IsKey}
use Rattle.yaml_tree.proofs.BracketSpots.{Spot, items, item_end, pairs, pair_end, value}
use Rattle.yaml_rules.specs.Notation as n
use Rattle.yaml_rules.proofs.Layouts.{Earlier}
use Rattle.yaml_rules.specs.LooseFlow.{IsFlow, IsItems, no_item, last_item, more_items, IsPair, no_value, key_value, IsPairs, no_pair, last_pair, more_pairs}

-- ---- keys that stand again

-- a key on the line stands again in one of these nodes
pub data Among (at : ℕ) : List Node → Type 0 where
  first : {x : Node} {xs : List Node} → n.Has (n.Repeats at) x → Among at (x ∷ xs)
  later : {x : Node} {xs : List Node} → Among at xs → Among at (x ∷ xs)

-- a key on the line stands again among these pairs, behind those that were found, or in one of them
pub data Again (at : ℕ) : List Pair → List Pair → Type 0 where
  old : {found ps : List Pair} {k : List ℕ} {x : Node} → has_key found k ≡ true → Again at found ((k, at, x) ∷ ps)
  inside : {found ps : List Pair} {k : List ℕ} {m : ℕ} {x : Node} → n.Has (n.Repeats at) x → Again at found ((k, m, x) ∷ ps)
  next : {found ps : List Pair} {k : List ℕ} {m : ℕ} {x : Node} (y : Node) → Again at (found ++ (k, m, y) ∷ []) ps → Again at found ((k, m, x) ∷ ps)

pub among_has : (at m : ℕ) (before xs : List Node) → Among at xs → n.Has (n.Repeats at) (listed m (before ++ xs))
among_has at m before [] a = elim a [ ]
among_has at m before (x ∷ xs) (first h) = n.in_list before xs h
among_has at m before (x ∷ xs) (later a) = subst (λ (ys : List Node). n.Has (n.Repeats at) (listed m ys)) (append_assoc before (x ∷ []) xs) (among_has at m (before ++ x ∷ []) xs a)

earlier_more : (k : List ℕ) (found : List Pair) (p : Pair) → Earlier k found → Earlier k (found ++ p ∷ [])
earlier_more k found p e = (e.0, e.1 ++ p ∷ [], e.2, e.3, ap (λ (qs : List Pair). qs ++ p ∷ []) e.4 ∙ append_assoc e.0 ((k, e.2, e.3) ∷ e.1) (p ∷ []))

earlier_last : (k l : List ℕ) (m : ℕ) (x : Node) (found : List Pair) → bytes_eq l k ≡ true → Earlier k (found ++ (l, m, x) ∷ [])
earlier_last k l m x found e = (found, [], m, x, ap (λ (j : List ℕ). found ++ (j, m, x) ∷ []) ((bytes_eq-Decides l k).0 e))

or_true : (a b : Bool) → (a || b) ≡ true → (a ≡ true) ⊎ (b ≡ true)
or_true true b e = inl refl
or_true false b e = inr e

-- the last pair's key is this one, or it stands before it
has_last : (found : List Pair) (p : Pair) (k : List ℕ) → has_key (found ++ p ∷ []) k ≡ true → (has_key found k ≡ true) ⊎ (bytes_eq p.0 k ≡ true)
has_last [] p k e = elim (or_true (bytes_eq p.0 k) false e) [ inl h ↦ inr h | inr h ↦ absurd cc ]
has_last (q ∷ found) p k e = by (bytes_eq q.0 k) e (has_last found p k)
  where
    by : (a : Bool) → (a || has_key (found ++ p ∷ []) k) ≡ true → (has_key (found ++ p ∷ []) k ≡ true → (has_key found k ≡ true) ⊎ (bytes_eq p.0 k ≡ true)) → ((a || has_key found k) ≡ true) ⊎ (bytes_eq p.0 k ≡ true)
    by true e more = inl refl
    by false e more = more e

abbrev AsKeys : List Pair → List Pair → Type 0
AsKeys found before = (k : List ℕ) → has_key found k ≡ true → Earlier k before

keys_more : (found before : List Pair) (k : List ℕ) (m : ℕ) (x y : Node) → AsKeys found before → AsKeys (found ++ (k, m, y) ∷ []) (before ++ (k, m, x) ∷ [])
keys_more found before k m x y to l e = elim (has_last found (k, m, y) l e) [
  | inl h ↦ earlier_more l before (k, m, x) (to l h)
  | inr h ↦ earlier_last l k m x before h
]

pub again_has : (at m : ℕ) (found before ps : List Pair) → AsKeys found before → Again at found ps → n.Has (n.Repeats at) (mapped m (before ++ ps))
again_has at m found before [] to a = elim a [ ]
again_has at m found before ((k, o, x) ∷ ps) to (old h) =
    let r = to k h in
    subst (λ (qs : List Pair). n.Has (n.Repeats at) (mapped m (qs ++ (k, at, x) ∷ ps))) (sym r.4) (n.itself (n.again r.0 r.1 ps k r.2 r.3 x))
again_has at m found before ((k, o, x) ∷ ps) to (inside h) = n.in_map before ps k o h
again_has at m found before ((k, o, x) ∷ ps) to (next y a) =
    subst (λ (qs : List Pair). n.Has (n.Repeats at) (mapped m qs)) (append_assoc before ((k, o, x) ∷ []) ps) (again_has at m (found ++ (k, o, y) ∷ []) (before ++ (k, o, x) ∷ []) ps (keys_more found before k o x y to) a)

-- where a key is repeated at the end, it was before, or there is a reason
abbrev pub Says : Bool → Bool → Type 0 → Type 0
Says before behind P = behind ≡ true → (before ≡ true) ⊎ P

pub says_as : {a b : Bool} {P Q : Type 0} → (P → Q) → Says a b P → Says a b Q
says_as to s e = elim (s e) [ inl h ↦ inl h | inr h ↦ inr (to h) ]

-- the reason of a part, and then that of what follows
pub says_more : {a b c : Bool} {P Q R : Type 0} → (P → R) → (Q → R) → Says a b P → Says b c Q → Says a c R
says_more to to' s s' e = elim (s' e) [
  | inr h ↦ inr (to' h)
  | inl h ↦ elim (s h) [ inl i ↦ inl i | inr i ↦ inr (to i) ]
]

-- a key is read
pub says_key : (at : ℕ) (found ps : List Pair) (k : List ℕ) (x : Node) (a c : Bool) → Says (a || has_key found k) c (Again at found ((k, at, x) ∷ ps)) → Says a c (Again at found ((k, at, x) ∷ ps))
says_key at found ps k x a c s e = elim (s e) [
  | inr h ↦ inr h
  | inl h ↦ elim (or_true a (has_key found k) h) [ inl i ↦ inl i | inr i ↦ inr (old i) ]
]

-- ---- what is left of a bracket

-- behind an item: the end, or a comma and more
pub data ItemsEnd (n : ℕ) : List ℕ → List Node → ℕ → List ℕ → Type 0 where
  items_stop : {bytes rest : List ℕ} → IsAfter bytes (93 ∷ rest) → ItemsEnd n bytes [] 0 rest
  items_go_on : {height : ℕ} {bytes more rest : List ℕ} {xs : List Node} → IsAfter bytes (44 ∷ more) → IsItems n more xs height rest → ItemsEnd n bytes xs height rest

pub data PairsEnd (n : ℕ) : List ℕ → List Pair → ℕ → List ℕ → Type 0 where
  pairs_stop : {bytes rest : List ℕ} → IsAfter bytes (125 ∷ rest) → PairsEnd n bytes [] 0 rest
  pairs_go_on : {height : ℕ} {bytes more rest : List ℕ} {ps : List Pair} → IsAfter bytes (44 ∷ more) → IsPairs n more ps height rest → PairsEnd n bytes ps height rest

-- behind a key's colon: nothing, or a value
pub data KeyEnd (n : ℕ) : List ℕ → Node → ℕ → List ℕ → Type 0 where
  no_more : {bytes : List ℕ} → KeyEnd n bytes (null n) 1 bytes
  a_value : {height : ℕ} {bytes item rest : List ℕ} {x : Node} → IsAfter bytes item → IsFlow n item x height rest → KeyEnd n bytes x height rest

pub item_more : {n height others : ℕ} {bytes item behind rest : List ℕ} {x : Node} {xs : List Node} → IsAfter bytes item → IsFlow n item x height behind → ItemsEnd n behind xs others rest → IsItems n bytes (x ∷ xs) (max height others) rest
item_more {n = n} {height = height} {bytes = bytes} {rest = rest} {x = x} a v (items_stop c) =
    let same : height ≡ max height 0 = omega arith in
    subst (λ (h : ℕ). IsItems n bytes (x ∷ []) h rest) same (last_item a v c)
item_more a v (items_go_on c i) = more_items a v c i

pub pair_more : {n height others : ℕ} {bytes pair behind rest : List ℕ} {p : Pair} {ps : List Pair} → IsAfter bytes pair → IsPair n pair p height behind → PairsEnd n behind ps others rest → IsPairs n bytes (p ∷ ps) (max height others) rest
pair_more {n = n} {height = height} {bytes = bytes} {rest = rest} {p = p} a v (pairs_stop c) =
    let same : height ≡ max height 0 = omega arith in
    subst (λ (h : ℕ). IsPairs n bytes (p ∷ []) h rest) same (last_pair a v c)
pair_more a v (pairs_go_on c i) = more_pairs a v c i

pub key_more : {n height : ℕ} {bytes k r rest : List ℕ} {x : Node} → IsKey bytes k (58 ∷ r) → ends_key r ≡ true → KeyEnd n r x height rest → IsPair n bytes (k, n, x) height rest
key_more i ends no_more = no_value i ends
key_more i ends (a_value a v) = key_value i ends a v

-- what these bytes add up to the end of the bracket, its height, and why a key is repeated at the end
abbrev pub Content : ℕ → Spot → Bool → Bool → List ℕ → ℕ → List ℕ → Type 0
Content n (items found) before behind bytes height rest = (xs : List Node) × IsItems n bytes xs height rest × Says before behind (Among n xs)
Content n (item_end found) before behind bytes height rest = (xs : List Node) × ItemsEnd n bytes xs height rest × Says before behind (Among n xs)
Content n (pairs found) before behind bytes height rest = (ps : List Pair) × IsPairs n bytes ps height rest × Says before behind (Again n found ps)
Content n (pair_end found) before behind bytes height rest = (ps : List Pair) × PairsEnd n bytes ps height rest × Says before behind (Again n found ps)
Content n (value found k) before behind bytes height rest = (x : Node) × (ps : List Pair) × (own : ℕ) × (others : ℕ) × (left : List ℕ) × KeyEnd n bytes x own left × PairsEnd n left ps others rest
    × (height ≡ max own others) × Says before behind (Again n found ((k, n, x) ∷ ps))

-- ---- a blank before

blank_items : {n b height : ℕ} {bytes rest : List ℕ} {xs : List Node} → is_blank b ≡ true → IsItems n bytes xs height rest → IsItems n (b ∷ bytes) xs height rest
blank_items h (no_item a) = no_item (blank h a)
blank_items h (last_item a v c) = last_item (blank h a) v c
blank_items h (more_items a v c i) = more_items (blank h a) v c i

blank_pairs : {n b height : ℕ} {bytes rest : List ℕ} {ps : List Pair} → is_blank b ≡ true → IsPairs n bytes ps height rest → IsPairs n (b ∷ bytes) ps height rest
blank_pairs h (no_pair a) = no_pair (blank h a)
blank_pairs h (last_pair a v c) = last_pair (blank h a) v c
blank_pairs h (more_pairs a v c i) = more_pairs (blank h a) v c i

blank_item_end : {n b height : ℕ} {bytes rest : List ℕ} {xs : List Node} → is_blank b ≡ true → ItemsEnd n bytes xs height rest → ItemsEnd n (b ∷ bytes) xs height rest
blank_item_end h (items_stop a) = items_stop (blank h a)
blank_item_end h (items_go_on a i) = items_go_on (blank h a) i

blank_pair_end : {n b height : ℕ} {bytes rest : List ℕ} {ps : List Pair} → is_blank b ≡ true → PairsEnd n bytes ps height rest → PairsEnd n (b ∷ bytes) ps height rest
blank_pair_end h (pairs_stop a) = pairs_stop (blank h a)
blank_pair_end h (pairs_go_on a i) = pairs_go_on (blank h a) i

-- where no value stands the blank stands behind it
data Later (n b : ℕ) (bytes : List ℕ) (x : Node) (own : ℕ) (ps : List Pair) (others : ℕ) (rest : List ℕ) : Type 0 where
  later_by : {left : List ℕ} → KeyEnd n (b ∷ bytes) x own left → PairsEnd n left ps others rest → Later n b bytes x own ps others rest

blank_value : {n b own others : ℕ} {bytes left rest : List ℕ} {x : Node} {ps : List Pair} → is_blank b ≡ true → KeyEnd n bytes x own left → PairsEnd n left ps others rest → Later n b bytes x own ps others rest
blank_value h no_more e = later_by no_more (blank_pair_end h e)
blank_value h (a_value a v) e = later_by (a_value (blank h a) v) e

pub blank_content : (n b : ℕ) (s : Spot) (before behind : Bool) (bytes : List ℕ) (height : ℕ) (rest : List ℕ) → is_blank b ≡ true → Content n s before behind bytes height rest → Content n s before behind (b ∷ bytes) height rest
blank_content n b (items found) before behind bytes height rest h c = (c.0, blank_items h c.1, c.2)
blank_content n b (item_end found) before behind bytes height rest h c = (c.0, blank_item_end h c.1, c.2)
blank_content n b (pairs found) before behind bytes height rest h c = (c.0, blank_pairs h c.1, c.2)
blank_content n b (pair_end found) before behind bytes height rest h c = (c.0, blank_pair_end h c.1, c.2)
blank_content n b (value found k) before behind bytes height rest h c = put (blank_value h c.5 c.6)
  where
    put : Later n b bytes c.0 c.2 c.1 c.3 rest → Content n (value found k) before behind (b ∷ bytes) height rest
    put (later_by {left = left} i e) = (c.0, c.1, c.2, c.3, left, i, e, c.7, c.8)
