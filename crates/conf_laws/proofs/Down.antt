-- Down a sound tree: each node inside is sound, and no list of nodes is long.
use Rattle.std.proofs.Common.{◌≡◌, ◌∙◌, ap, sym, subst, refl, ℕ, ◌+◌, ◌≤◌, ◌<◌, Bool, true, false, cond, List, [], ◌∷◌, length, map, Option, Some, arith}
use Rattle.std.specs.Prelude.{◌&&◌}
use Rattle.std.specs.List.{list_all, find}
use Rattle.std.proofs.lemmas.Bool.{and_parts}
use Rattle.ha_config.specs.ValueFacts.{all_distinct}
use Rattle.yaml_tree.specs.declared.node.Node.{Node}
use Rattle.yaml_tree.specs.declared.node.Node.{Node-F}
use Rattle.yaml_tree.specs.declared.node.NodeKind.{NodeKind}
use Rattle.yaml_tree.specs.declared.node.NodeKind.TheOpen.{NodeKind-F}
use Rattle.yaml_tree.specs.declared.node.NodeKind.TheViews.{out-Node, out-NodeKind, roll-Node, out-roll-Node, out-roll-NodeKind}
use Rattle.yaml_tree.specs.declared.node.NodeKind.TheFolds.{fold-NodeKind, fold_out-Node, fold_out-NodeKind, map-NodeKind, ind-Node}
use Rattle.yaml_tree.specs.Readers.{Shape, shape_of}
use Rattle.conf_field.specs.Holds.{Each, IfThere}
use Rattle.conf_field.specs.Fields.{Pair}
use Rattle.conf_field.specs.Sizes.{total, size, size_step, has_distinct_keys, distinct_step, IsSoundTree}

-- ---- induction over a tree: what holds of a node where it holds of each node inside

module _ (P : Node → Type 0) where
  abbrev pub EachInside : Shape → Type 0
  EachInside (NodeKind-F.Scalar t plain) = Unit {0}
  EachInside (NodeKind-F.List items) = Each P items
  EachInside (NodeKind-F.Map pairs) = Each (λ (p : Pair). P p.2) pairs

  abbrev Inside : NodeKind → Type 0
  Inside k = EachInside (out-NodeKind k)

  abbrev Such : Type 0
  Such = (n : Node) × P n

  items_in : (es : List Such) → Each P (map (λ e. e.0) es)
  items_in [] = tt
  items_in (e ∷ es) = (e.1, items_in es)

  pairs_in : (es : List (List ℕ × ℕ × Such)) → Each (λ (p : Pair). P p.2) (map (λ e. (e.0, e.1, e.2.0)) es)
  pairs_in [] = tt
  pairs_in (e ∷ es) = (e.2.1, pairs_in es)

  layer : (y : NodeKind-F ((k : NodeKind) × Inside k) Such) → EachInside (map-NodeKind ((k : NodeKind) × Inside k) Such NodeKind Node (λ e. e.0) (λ e. e.0) y)
  layer (NodeKind-F.Scalar t plain) = tt
  layer (NodeKind-F.List es) = items_in es
  layer (NodeKind-F.Map es) = pairs_in es

  pub down : ((n : Node) → EachInside (shape_of n) → P n) → (n : Node) → P n
  down step = ind-Node Inside P
      (λ x y is. subst EachInside (sym (out-roll-NodeKind x)) (subst EachInside is (layer y)))
      (λ x y is. step (roll-Node x) (subst (λ (z : Node-F NodeKind Node). Inside z.kind) (sym (out-roll-Node x)) (subst (λ (z : Node-F NodeKind Node). Inside z.kind) is y.kind.1)))

-- ---- sizes and keys at a node

abbrev pub size_by : Shape → ℕ
size_by (NodeKind-F.Scalar t plain) = 1 + length t
size_by (NodeKind-F.List items) = 1 + total size items
size_by (NodeKind-F.Map pairs) = 1 + total (λ (p : Pair). 1 + length p.0 + size p.2) pairs

abbrev pub distinct_by : Shape → Bool
distinct_by (NodeKind-F.Scalar t plain) = true
distinct_by (NodeKind-F.List items) = list_all has_distinct_keys items
distinct_by (NodeKind-F.Map pairs) = all_distinct (map (λ (p : Pair). p.0) pairs) && list_all (λ (p : Pair). has_distinct_keys p.2) pairs

items_total : (ns : List Node) → total (λ n. n) (map size ns) ≡ total size ns
items_total [] = refl
items_total (n ∷ ns) = ap (λ s. size n + s) (items_total ns)

pairs_total : (ps : List Pair) → total (λ (p : List ℕ × ℕ × ℕ). 1 + length p.0 + p.2) (map (λ (p : Pair). (p.0, p.1, size p.2)) ps) ≡ total (λ (p : Pair). 1 + length p.0 + size p.2) ps
pairs_total [] = refl
pairs_total (p ∷ ps) = ap (λ s. 1 + length p.0 + size p.2 + s) (pairs_total ps)

items_distinct : (ns : List Node) → list_all (λ b. b) (map has_distinct_keys ns) ≡ list_all has_distinct_keys ns
items_distinct [] = refl
items_distinct (n ∷ ns) = ap (λ b. has_distinct_keys n && b) (items_distinct ns)

pairs_distinct : (ps : List Pair) → list_all (λ (p : List ℕ × ℕ × Bool). p.2) (map (λ (p : Pair). (p.0, p.1, has_distinct_keys p.2)) ps) ≡ list_all (λ (p : Pair). has_distinct_keys p.2) ps
pairs_distinct [] = refl
pairs_distinct (p ∷ ps) = ap (λ b. has_distinct_keys p.2 && b) (pairs_distinct ps)

keys_same : (ps : List Pair) → map (λ (p : List ℕ × ℕ × Bool). p.0) (map (λ (p : Pair). (p.0, p.1, has_distinct_keys p.2)) ps) ≡ map (λ (p : Pair). p.0) ps
keys_same [] = refl
keys_same (p ∷ ps) = ap (λ ks. p.0 ∷ ks) (keys_same ps)

abbrev size_below : NodeKind → ℕ
size_below = fold-NodeKind ℕ ℕ size_step (λ n. n.kind)

abbrev distinct_below : NodeKind → Bool
distinct_below = fold-NodeKind Bool Bool distinct_step (λ n. n.kind)

size_shape : (s : Shape) → size_step (map-NodeKind NodeKind Node ℕ ℕ size_below size s) ≡ size_by s
size_shape (NodeKind-F.Scalar t plain) = refl
size_shape (NodeKind-F.List items) = ap (λ n. 1 + n) (items_total items)
size_shape (NodeKind-F.Map pairs) = ap (λ n. 1 + n) (pairs_total pairs)

distinct_shape : (s : Shape) → distinct_step (map-NodeKind NodeKind Node Bool Bool distinct_below has_distinct_keys s) ≡ distinct_by s
distinct_shape (NodeKind-F.Scalar t plain) = refl
distinct_shape (NodeKind-F.List items) = items_distinct items
distinct_shape (NodeKind-F.Map pairs) = λ i. all_distinct (keys_same pairs i) && pairs_distinct pairs i

pub size-out : (n : Node) → size n ≡ size_by (shape_of n)
size-out n = fold_out-Node ℕ ℕ size_step (λ x. x.kind) n ∙ fold_out-NodeKind ℕ ℕ size_step (λ x. x.kind) (out-Node n).kind ∙ size_shape (shape_of n)

pub distinct-out : (n : Node) → has_distinct_keys n ≡ distinct_by (shape_of n)
distinct-out n = fold_out-Node Bool Bool distinct_step (λ x. x.kind) n ∙ fold_out-NodeKind Bool Bool distinct_step (λ x. x.kind) (out-Node n).kind ∙ distinct_shape (shape_of n)

-- ---- what is inside a sound node

abbrev pub most : ℕ
most = 2_147_483_648

abbrev pub IsSoundPair : Pair → Type 0
IsSoundPair p = IsSoundTree p.2 × (length p.0 < most)

-- the pairs of a sound map
pub record AreSoundPairs (ps : List Pair) : Type 0 where
  pub distinct : all_distinct (map (λ p. p.0) ps) ≡ true
  pub each : Each IsSoundPair ps
  pub few : length ps < most

pub record AreSoundItems (ns : List Node) : Type 0 where
  pub each : Each IsSoundTree ns
  pub few : length ns < most

abbrev pub IsSoundShape : Shape → Type 0
IsSoundShape (NodeKind-F.Scalar t plain) = length t < most
IsSoundShape (NodeKind-F.List items) = AreSoundItems items
IsSoundShape (NodeKind-F.Map pairs) = AreSoundPairs pairs

some_size : (n : Node) → 1 ≤ size n
some_size n = by (shape_of n) (size-out n)
  where
    by : (s : Shape) → size n ≡ size_by s → 1 ≤ size n
    by (NodeKind-F.Scalar t plain) h = omega arith
    by (NodeKind-F.List items) h = omega arith
    by (NodeKind-F.Map pairs) h = omega arith

count_items : (ns : List Node) → length ns ≤ total size ns
count_items [] = omega arith
count_items (n ∷ ns) = omega (arith, count_items ns, some_size n)

count_pairs : (ps : List Pair) → length ps ≤ total (λ (p : Pair). 1 + length p.0 + size p.2) ps
count_pairs [] = omega arith
count_pairs (p ∷ ps) = omega (arith, count_pairs ps)

each_item : (ns : List Node) → list_all has_distinct_keys ns ≡ true → total size ns < most → Each IsSoundTree ns
each_item [] h small = tt
each_item (n ∷ ns) h small =
    let two = and_parts (has_distinct_keys n) (list_all has_distinct_keys ns) h in
    (record { distinct = two.0; small = omega arith }, each_item ns two.1 (omega arith))

each_pair : (ps : List Pair) → list_all (λ (p : Pair). has_distinct_keys p.2) ps ≡ true → total (λ (p : Pair). 1 + length p.0 + size p.2) ps < most → Each IsSoundPair ps
each_pair [] h small = tt
each_pair (p ∷ ps) h small =
    let two = and_parts (has_distinct_keys p.2) (list_all (λ (q : Pair). has_distinct_keys q.2) ps) h in
    ((record { distinct = two.0; small = omega arith }, omega arith), each_pair ps two.1 (omega arith))

sound_by : (s : Shape) → distinct_by s ≡ true → size_by s < most → IsSoundShape s
sound_by (NodeKind-F.Scalar t plain) h small = omega arith
sound_by (NodeKind-F.List items) h small = record { each = each_item items h (omega arith); few = omega (arith, count_items items) }
sound_by (NodeKind-F.Map pairs) h small =
    let two = and_parts (all_distinct (map (λ (p : Pair). p.0) pairs)) (list_all (λ (p : Pair). has_distinct_keys p.2) pairs) h in
    record { distinct = two.0; each = each_pair pairs two.1 (omega arith); few = omega (arith, count_pairs pairs) }

pub sound_inside : (n : Node) → IsSoundTree n → IsSoundShape (shape_of n)
sound_inside n h = sound_by (shape_of n) (sym (distinct-out n) ∙ h.distinct) (subst (λ m. m < most) (size-out n) h.small)

-- ---- members that are found

this_or : {X : Type 0} (P : X → Type 0) (b : Bool) (x : X) (o : Option X) → P x → IfThere P o → IfThere P (cond b (Some x) o)
this_or P true x o h k = h
this_or P false x o h k = k

pub found_each : {X : Type 0} (P : X → Type 0) (test : X → Bool) (xs : List X) → Each P xs → IfThere P (find test xs)
found_each P test [] h = tt
found_each P test (x ∷ xs) h = this_or P (test x) x (find test xs) h.0 (found_each P test xs h.1)
