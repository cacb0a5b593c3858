-- In the tree of a text no key stands twice in a map.
use Rattle.std.proofs.Common.{◌≡◌, ◌∙◌, ap, sym, subst, refl, ℕ, zero, suc, Bool, true, false, List, [], ◌∷◌, ◌++◌, map, arith, IsUtf8}
use Rattle.std.specs.Prelude.{◌||◌, not, bytes_eq}
use Rattle.std.specs.List.{list_all, list_any}
use Rattle.std.proofs.lemmas.Bool.{and_parts}
use Rattle.std.proofs.lemmas.List.{map-append}
use Rattle.std.proofs.lemmas.Slice.Eq.{bytes_eq-Decides}
use Rattle.yaml_scan.specs.Words.{trimmed}
use Rattle.ha_config.specs.ValueFacts.{all_distinct}
use Rattle.ha_config.specs.Words.{same}
use Rattle.yaml_scan.specs.declared.line.RawLine.{RawLine}
use Rattle.yaml_tree.specs.declared.node.Node.{Node}
use Rattle.yaml_tree.specs.declared.node.NodeKind.TheOpen.{NodeKind-F}
use Rattle.yaml_tree.specs.declared.node.NodeKind.TheVariants as kinds
use Rattle.yaml_tree.specs.declared.piece.Piece.{Piece}
use Rattle.yaml_tree.specs.declared.piece.What.{What}
use Rattle.yaml_tree.specs.declared.piece.What.TheVariants as what
use Rattle.yaml_tree.specs.Readers.{shape_of}
use Rattle.yaml_tree.specs.Nodes.{Pair, word, worded, listed, mapped, has_key}
use Rattle.yaml_tree.specs.Brackets.{IsFlow, plain, quoted, list as a_list, map as a_map, IsItems, no_item, last_item, more_items, IsPair, key_alone, no_value, key_value, IsPairs, no_pair, last_pair, more_pairs}
use Rattle.yaml_tree.specs.Grammar as blocks
use Rattle.yaml_tree.specs.Spelling.{IsLeaf, in_quotes, in_lines, is_plain, in_brackets, IsHeads, nothing, dash, leaf, key, key_value as key_and_value, IsPieces, none, line, IsText, text}
use Rattle.conf_field.specs.Holds.{Each}
use Rattle.conf_field.specs.Sizes.{has_distinct_keys}
use Rattle.conf_laws.proofs.Joined.{one_more, pair}
use Rattle.conf_laws.proofs.KeyBytes.{front_cut, flow_key, block_key, after_utf8, at_utf8, dash_utf8, flow_utf8, pair_utf8, AreUtf8, clean_utf8, end_utf8, start_utf8}
use Rattle.yaml_tree.proofs.PiecesFound.{heads_end}
use Rattle.conf_laws.proofs.Down.{distinct-out, distinct_by}

abbrev Distinct : Node → Type 0
Distinct n = has_distinct_keys n ≡ true

-- ---- two ways to say that no key is repeated

agree : (p q : Bool) → (p ≡ true → q ≡ true) → (q ≡ true → p ≡ true) → p ≡ q
agree true q h k = sym (h refl)
agree false true h k = k refl
agree false false h k = refl

turned : (a b : List ℕ) → bytes_eq a b ≡ bytes_eq b a
turned a b =
    let left = bytes_eq-Decides a b in
    let right = bytes_eq-Decides b a in
    agree (bytes_eq a b) (bytes_eq b a) (λ h. right.1 (sym (left.0 h))) (λ h. left.1 (sym (right.0 h)))

among : (k : List ℕ) (ps : List Pair) → list_any (same k) (map (λ (p : Pair). p.0) ps) ≡ has_key ps k
among k [] = refl
among k (p ∷ ps) = λ i. turned k p.0 i || among k ps i

-- Keys that are UTF-8 are their own texts.
abbrev AllDistinct : List Pair → Type 0
AllDistinct ps = (all_distinct (map (λ (p : Pair). p.0) ps) ≡ true) × (list_all (λ (p : Pair). has_distinct_keys p.2) ps ≡ true) × (map worded ps ≡ ps)

in_front : (p : Pair) (ps : List Pair) → has_key ps p.0 ≡ false → word p.0 ≡ p.0 → Distinct p.2 → AllDistinct ps → AllDistinct (p ∷ ps)
in_front p ps new own here rest = (
  pair (not (list_any (same p.0) (map (λ (q : Pair). q.0) ps))) (all_distinct (map (λ (q : Pair). q.0) ps)) (ap not (among p.0 ps ∙ new)) rest.0,
  pair (has_distinct_keys p.2) (list_all (λ (q : Pair). has_distinct_keys q.2) ps) here rest.1,
  (λ i. (own i, p.1, p.2) ∷ rest.2 i),
)

or_parts : (a b : Bool) → (a || b) ≡ false → (a ≡ false) × (b ≡ false)
or_parts true b h = absurd cc
or_parts false b h = (refl, h)

step : (b x y : Bool) → (not x ≡ true → not y ≡ true) → not (b || x) ≡ true → not (b || y) ≡ true
step true x y f h = absurd cc
step false x y f h = f h

not_any : (k : List ℕ) (ps : List Pair) (p : Pair) → not (list_any (same k) (map (λ (q : Pair). q.0) ps)) ≡ true → bytes_eq k p.0 ≡ false → not (list_any (same k) (map (λ (q : Pair). q.0) (ps ++ p ∷ []))) ≡ true
not_any k [] p h e = ap (λ b. not (b || false)) e
not_any k (q ∷ ps) p h e =
    step (bytes_eq k q.0) (list_any (same k) (map (λ (r : Pair). r.0) ps)) (list_any (same k) (map (λ (r : Pair). r.0) (ps ++ p ∷ []))) (λ g. not_any k ps p g e) h

keys_behind : (ps : List Pair) (p : Pair) → all_distinct (map (λ (q : Pair). q.0) ps) ≡ true → has_key ps p.0 ≡ false → all_distinct (map (λ (q : Pair). q.0) (ps ++ p ∷ [])) ≡ true
keys_behind [] p h k = refl
keys_behind (q ∷ ps) p h k =
    let two = and_parts (not (list_any (same q.0) (map (λ (r : Pair). r.0) ps))) (all_distinct (map (λ (r : Pair). r.0) ps)) h in
    let apart = or_parts (bytes_eq q.0 p.0) (has_key ps p.0) k in
    pair (not (list_any (same q.0) (map (λ (r : Pair). r.0) (ps ++ p ∷ [])))) (all_distinct (map (λ (r : Pair). r.0) (ps ++ p ∷ [])))
    (not_any q.0 ps p two.0 apart.0) (keys_behind ps p two.1 apart.1)

behind : (ps : List Pair) (p : Pair) → AllDistinct ps → has_key ps p.0 ≡ false → word p.0 ≡ p.0 → Distinct p.2 → AllDistinct (ps ++ p ∷ [])
behind ps p h k own here =
    (keys_behind ps p h.0 k, one_more (λ (q : Pair). has_distinct_keys q.2) ps p h.1 here, map-append worded ps (p ∷ []) ∙ (λ i. h.2 i ++ (own i, p.1, p.2) ∷ []))

-- ---- nodes that are made

scalar_shape : (n : ℕ) (t : List ℕ) (is : Bool) → shape_of (record { line = n; kind = kinds.Scalar t is }) ≡ NodeKind-F.Scalar t is
scalar_shape n t is = simp kinds.outs-Scalar

list_shape : (n : ℕ) (xs : List Node) → shape_of (listed n xs) ≡ NodeKind-F.List xs
list_shape n xs = simp kinds.outs-List

map_shape : (n : ℕ) (ps : List Pair) → shape_of (mapped n ps) ≡ NodeKind-F.Map (map worded ps)
map_shape n ps = simp kinds.outs-Map

of_scalar : (n : ℕ) (t : List ℕ) (is : Bool) → Distinct (record { line = n; kind = kinds.Scalar t is })
of_scalar n t is = distinct-out (record { line = n; kind = kinds.Scalar t is }) ∙ ap distinct_by (scalar_shape n t is)

of_list : (n : ℕ) (xs : List Node) → list_all has_distinct_keys xs ≡ true → Distinct (listed n xs)
of_list n xs h = distinct-out (listed n xs) ∙ ap distinct_by (list_shape n xs) ∙ h

of_map : (n : ℕ) (ps : List Pair) → AllDistinct ps → Distinct (mapped n ps)
of_map n ps h =
    distinct-out (mapped n ps) ∙ ap distinct_by (map_shape n ps) ∙ ap (λ (qs : List Pair). distinct_by (NodeKind-F.Map qs)) h.2
    ∙ pair (all_distinct (map (λ (p : Pair). p.0) ps)) (list_all (λ (p : Pair). has_distinct_keys p.2) ps) h.0 h.1

-- ---- flow

mutual
  flow_distinct : {n height : ℕ} {bytes rest : List ℕ} {x : Node} → IsFlow n bytes x height rest → IsUtf8 bytes → Distinct x
  flow_distinct {n = n} (plain {w = w} s i) u = of_scalar n (word (trimmed w)) true
  flow_distinct {n = n} (quoted {s = s} q i) u = of_scalar n (word s) false
  flow_distinct {n = n} (a_list {bytes = bytes} {xs = xs} i) u = of_list n xs (items_distinct i (front_cut bytes 91 (omega arith) u))
  flow_distinct {n = n} (a_map {bytes = bytes} {ps = ps} i) u = of_map n ps (pairs_distinct i (front_cut bytes 123 (omega arith) u))

  items_distinct : {n height : ℕ} {bytes rest : List ℕ} {xs : List Node} → IsItems n bytes xs height rest → IsUtf8 bytes → list_all has_distinct_keys xs ≡ true
  items_distinct (no_item a) u = refl
  items_distinct (last_item {x = x} a i b) u = pair (has_distinct_keys x) true (flow_distinct i (after_utf8 a u)) refl
  items_distinct (more_items {more = more} {x = x} {xs = xs} a i b is) u =
      let v = after_utf8 a u in
      pair (has_distinct_keys x) (list_all has_distinct_keys xs) (flow_distinct i v) (items_distinct is (front_cut more 44 (omega arith) (after_utf8 b (flow_utf8 i v))))

  pair_distinct : {n height : ℕ} {bytes rest : List ℕ} {p : Pair} → IsPair n bytes p height rest → IsUtf8 bytes → Distinct p.2
  pair_distinct {n = n} (key_alone k) u = of_scalar n [] true
  pair_distinct {n = n} (no_value k e) u = of_scalar n [] true
  pair_distinct (key_value {behind = behind} k e a i) u = flow_distinct i (after_utf8 a (front_cut behind 58 (omega arith) (flow_key k u).1))

  pairs_distinct : {n height : ℕ} {bytes rest : List ℕ} {ps : List Pair} → IsPairs n bytes ps height rest → IsUtf8 bytes → AllDistinct ps
  pairs_distinct (no_pair a) u = (refl, refl, refl)
  pairs_distinct (last_pair {p = p} a i b) u = let v = after_utf8 a u in in_front p [] refl (pair_utf8 i v).0 (pair_distinct i v) (refl, refl, refl)
  pairs_distinct (more_pairs {more = more} {p = p} {ps = ps} a i b is new) u =
      let v = after_utf8 a u in
      let q = pair_utf8 i v in
      in_front p ps new q.0 (pair_distinct i v) (pairs_distinct is (front_cut more 44 (omega arith) (after_utf8 b q.1)))

-- ---- pieces

abbrev OfWhat : What → Type 0
OfWhat what.Dash = Unit {0}
OfWhat (what.Key k) = word k ≡ k
OfWhat (what.Leaf x height out) = Distinct x

abbrev Leaves : List Piece → Type 0
Leaves ps = Each (λ (p : Piece). OfWhat p.what) ps

leaf_distinct : {right n height : ℕ} {bytes : List ℕ} {ls ls' : List RawLine} {x : Node} → IsLeaf right n bytes ls x height ls' → IsUtf8 bytes → Distinct x
leaf_distinct {n = n} (in_quotes {s = s} q i) u = of_scalar n (word s) false
leaf_distinct {n = n} (in_lines {s = s} q i) u = of_scalar n (word s) false
leaf_distinct {n = n} (is_plain {s = s} q i) u = of_scalar n (word s) true
leaf_distinct (in_brackets q i e) u = flow_distinct i u

heads_distinct : {n right column : ℕ} {spaced : Bool} {bytes : List ℕ} {ls ls' : List RawLine} {ps : List Piece} → IsHeads n right spaced column bytes ls ps ls' → IsUtf8 bytes → Leaves ps
heads_distinct (nothing e) u = tt
heads_distinct (dash {b = b} {rest = rest} i d more) u = (tt, heads_distinct more (dash_utf8 b rest d (at_utf8 i u)))
heads_distinct (leaf i d l) u = (leaf_distinct l (at_utf8 i u), tt)
heads_distinct (key i d k e) u = ((block_key k (at_utf8 i u)).0, tt)
heads_distinct (key_and_value i d k a l) u = let r = block_key k (at_utf8 i u) in (r.0, (leaf_distinct l (at_utf8 a r.1), tt))

joined : (ps qs : List Piece) → Leaves ps → Leaves qs → Leaves (ps ++ qs)
joined [] qs h k = k
joined (p ∷ ps) qs h k = (h.0, joined ps qs h.1 k)

pieces_distinct : {found all : List Piece} {ls : List RawLine} → IsPieces found ls all → AreUtf8 ls → Leaves found → Leaves all
pieces_distinct none u h = h
pieces_distinct (line {found = found} {ps = ps} i more) u h = pieces_distinct more (end_utf8 (heads_end i) u.1) (joined found ps h (heads_distinct i u.0))

-- ---- blocks

rows_keep : {A : Type 0} {Ends : List Piece → Type 0} {Item : List A → List Piece → A → List Piece → Type 0} (P : List A → Type 0)
    → ((found : List A) (ps rest : List Piece) (x : A) → Item found ps x rest → Leaves ps → P found → P (found ++ x ∷ []) × Leaves rest)
    → {found all : List A} {ps rest : List Piece} → blocks.IsRows Ends Item found ps all rest → Leaves ps → P found → P all × Leaves rest
rows_keep P one (blocks.ends e) l h = (h, l)
rows_keep P one (blocks.more {found = found} {x = x} {ps = ps} {behind = rest} i rows) l h = let s = one found ps rest x i l h in rows_keep P one rows s.1 s.0

module _ (Inner : blocks.Nodes) (inner : (n floor : ℕ) (ps rest : List Piece) (x : Node) → Inner n floor ps x rest → Leaves ps → Distinct x × Leaves rest) where
  abbrev AllNodes : List Node → Type 0
  AllNodes xs = list_all has_distinct_keys xs ≡ true

  item_keeps : (column : ℕ) (found : List Node) (ps rest : List Piece) (x : Node) → blocks.IsItem Inner column found ps x rest → Leaves ps → AllNodes found → AllNodes (found ++ x ∷ []) × Leaves rest
  item_keeps column found ps rest x (blocks.item e d i) l h = let s = inner _ _ _ _ _ i l.1 in (one_more has_distinct_keys found x h s.0, s.1)

  pair_keeps : (column : ℕ) (found : List Pair) (ps rest : List Piece) (x : Pair) → blocks.IsPair Inner column found ps x rest → Leaves ps → AllDistinct found → AllDistinct (found ++ x ∷ []) × Leaves rest
  pair_keeps column found ps rest x (blocks.pair {p = p} {k = k} {x = v} e w new i) l h = let s = inner _ _ _ _ v i l.1 in (behind found (k, p.line, v) h new (subst OfWhat w l.0) s.0, s.1)

  over_distinct : {depth n floor : ℕ} {ps rest : List Piece} {x : Node} → blocks.IsNodeOver depth Inner n floor ps x rest → Leaves ps → Distinct x × Leaves rest
  over_distinct {n = n} (blocks.absent e) l = (of_scalar n [] true, l)
  over_distinct (blocks.leaf le e h) l = (subst OfWhat e l.0, l.1)
  over_distinct (blocks.list {p = p} {items = items} le e rows) l =
      let s = rows_keep AllNodes (item_keeps p.column) rows l refl in (of_list p.line items s.0, s.1)
  over_distinct (blocks.map {p = p} {pairs = pairs} le e rows) l =
      let s = rows_keep AllDistinct (pair_keeps p.column) rows l (refl, refl, refl) in (of_map p.line pairs s.0, s.1)

node_distinct : (depth n floor : ℕ) (ps rest : List Piece) (x : Node) → blocks.IsNode depth n floor ps x rest → Leaves ps → Distinct x × Leaves rest
unfolding blocks.IsNode
node_distinct zero n floor ps rest x h l = absurd h
node_distinct (suc depth) n floor ps rest x h l = over_distinct (blocks.IsNode depth) (node_distinct depth) h l

pub text_distinct : (t : List ℕ) (root : Node) → IsText t root → Distinct root
text_distinct t root (text {ls = ls} {ps = ps} lines clean found tree) = (node_distinct 64 1 0 ps [] root tree (pieces_distinct found (start_utf8 ls (clean_utf8 clean)) tt)).0
