-- Both grammars of blocks give the same trees.
use Rattle.std.proofs.Common.{◌≡◌, ◌≢◌, ℕ, zero, suc, ◌+◌, Bool, true, false, ◌||◌, inl, inr, List, [], ◌∷◌, ◌++◌, refl, sym, ap, subst, ◌∙◌, append_assoc}
use Rattle.std.specs.Prelude.{◌==◌, ◌&&◌, ◌↔◌}
use Rattle.std.specs.Str.{bytes_eq}
use Rattle.std.proofs.lemmas.Bool.{eqb-true, eq-eqb}
use Rattle.std.proofs.lemmas.List.{append-nil}
use Rattle.std.proofs.lemmas.Slice.Eq.{bytes_eq-Decides}
use Rattle.yaml_tree.specs.declared.node.Node.{Node}
use Rattle.yaml_tree.specs.declared.piece.Piece.{Piece}
use Rattle.yaml_tree.specs.declared.piece.What.{What}
use Rattle.yaml_tree.specs.declared.piece.What.TheVariants.{Dash, Key, Leaf}
use Rattle.yaml_tree.specs.Layout.{front, is_dash, value_floor}
use Rattle.yaml_tree.specs.Nodes.{Pair, listed, mapped, has_key}
use Rattle.yaml_tree.specs.Pieces.{dash, key}
use Rattle.yaml_tree.specs.Grammar as g
use Rattle.yaml_tree.specs.Spelling.{IsText, text as a_text}
use Rattle.yaml_laws.specs.Indents as i
use Rattle.yaml_laws.proofs.Orders.{tested}

-- ---- keys

-- a test that a pair has no key, and that those behind it have none
two_tests : (p : Pair) (ps : List Pair) (k : List ℕ) (a b : Bool) → bytes_eq p.0 k ≡ a → (b ≡ false → i.IsNew k ps) → (a || b) ≡ false → i.IsNew k (p ∷ ps)
two_tests p ps k true b h more e = absurd cc
two_tests p ps k false b h more e = ((λ same. let q : true ≡ false = sym ((bytes_eq-Decides p.0 k).1 same) ∙ h in cc), more e)

has_none : (k : List ℕ) (ps : List Pair) → has_key ps k ≡ false → i.IsNew k ps
has_none k [] e = tt
has_none k (p ∷ ps) e = two_tests p ps k (bytes_eq p.0 k) (has_key ps k) refl (has_none k ps) e

both_false : (a b : Bool) → a ≡ false → b ≡ false → (a || b) ≡ false
both_false a b e e' = rw (e, e') refl

differ : (k l : List ℕ) → k ≢ l → bytes_eq k l ≡ false
differ k l h = elim (tested (bytes_eq k l)) [ inl e ↦ absurd (h ((bytes_eq-Decides k l).0 e)) | inr e ↦ e ]

none_has : (k : List ℕ) (ps : List Pair) → i.IsNew k ps → has_key ps k ≡ false
none_has k [] h = refl
none_has k (p ∷ ps) h = both_false (bytes_eq p.0 k) (has_key ps k) (differ p.0 k h.0) (none_has k ps h.1)

new_parts : (k : List ℕ) (ps qs : List Pair) → i.IsNew k (ps ++ qs) → i.IsNew k ps × i.IsNew k qs
new_parts k [] qs h = (tt, h)
new_parts k (p ∷ ps) qs h = let r = new_parts k ps qs h.1 in ((h.0, r.0), r.1)

new_both : (k : List ℕ) (ps qs : List Pair) → i.IsNew k ps → i.IsNew k qs → i.IsNew k (ps ++ qs)
new_both k [] qs h j = j
new_both k (p ∷ ps) qs h j = (h.0, new_both k ps qs h.1 j)

-- the keys of the second are not among those of the first
abbrev AllNew : List Pair → List Pair → Type 0
AllNew found [] = Unit {0}
AllNew found (p ∷ ps) = i.IsNew p.0 found × AllNew found ps

-- those of one pair more
later_new : (found ps : List Pair) (x : Pair) → AllNew (found ++ x ∷ []) ps → AllNew found ps × i.IsNew x.0 ps
later_new found [] x h = (tt, tt)
later_new found (p ∷ ps) x h =
    let q = new_parts p.0 found (x ∷ []) h.0 in
    let r = later_new found ps x h.1 in
    ((q.0, r.0), ((λ same. q.1.0 (sym same)), r.1))

one_newer : (found ps : List Pair) (x : Pair) → AllNew found ps → i.IsNew x.0 ps → AllNew (found ++ x ∷ []) ps
one_newer found [] x h j = tt
one_newer found (p ∷ ps) x h j = (new_both p.0 found (x ∷ []) h.0 ((λ same. j.0 (sym same)), tt), one_newer found ps x h.1 j.1)

all_new : (ps : List Pair) → AllNew [] ps
all_new [] = tt
all_new (p ∷ ps) = (tt, all_new ps)

-- ---- what stands next

not_dash : (w : What) → is_dash w ≡ false → w ≢ Dash
not_dash w e same = let q : true ≡ false = sym (ap is_dash same) ∙ e in cc

no_dash : (w : What) → w ≢ Dash → is_dash w ≡ false
no_dash Dash h = absurd (h refl)
no_dash (Key k) h = refl
no_dash (Leaf x height out) h = refl

left_is : {n : ℕ} {ps : List Piece} → g.IsLeft n ps → i.IsLeft n ps
left_is g.none = i.no_piece
left_is (g.before lt) = i.lower lt

is_left : {n : ℕ} {ps : List Piece} → i.IsLeft n ps → g.IsLeft n ps
is_left i.no_piece = g.none
is_left (i.lower lt) = g.before lt

over_is : {n : ℕ} {ps : List Piece} → g.ListEnds n ps → i.IsOver n ps
over_is (g.left g.none) = i.nothing
over_is (g.left (g.before lt)) = i.lower lt
over_is (g.other e d) = i.other e (not_dash _ d)

is_over : {n : ℕ} {ps : List Piece} → i.IsOver n ps → g.ListEnds n ps
is_over i.nothing = g.left g.none
is_over (i.lower lt) = g.left (g.before lt)
is_over (i.other e d) = g.other e (no_dash _ d)

-- ---- nodes

piece_is : (p : Piece) (c : ℕ) (w : What) → p.column ≡ c → p.what ≡ w → p ≡ record { line = p.line; column = c; what = w }
piece_is p c w e e' = rw (sym e, sym e') refl

abbrev Sound : g.Nodes → g.Nodes → Type 0
Sound N M = (line floor : ℕ) (ps : List Piece) (x : Node) (rest : List Piece) → N line floor ps x rest → M line floor ps x rest

module _ (N M : g.Nodes) (to : Sound N M) where
  -- ---- what is in the one grammar is in the other

  items_to : {c : ℕ} {found all : List Node} {ps rest : List Piece} → g.IsRows (g.ListEnds c) (g.IsItem N c) found ps all rest
      → (xs : List Node) × (all ≡ found ++ xs) × i.IsItems M c ps xs rest
  items_to {found = found} (g.ends e) = ([], sym (append-nil found), i.no_item (over_is e))
  items_to {c = c} {found = found} {rest = rest} (g.more {x = x} {behind = behind} (g.item {p = p} {ps = ps} at is node) r) =
      let more = items_to r in
      let inner : M p.line (c + 1) ps x behind = subst (λ (m : ℕ). M p.line (m + 1) ps x behind) at (to p.line (p.column + 1) ps x behind node) in (
        x ∷ more.0,
        more.1 ∙ append_assoc found (x ∷ []) more.0,
        subst (λ (q : Piece). i.IsItems M c (q ∷ ps) (x ∷ more.0) rest) (sym (piece_is p c Dash at is)) (i.item {n = p.line} inner more.2),
      )

  value_to : (c n : ℕ) (ps : List Piece) (x : Node) (rest : List Piece) → N n (value_floor c (front ps)) ps x rest → i.IsValue M c n ps x rest
  value_to c n [] x rest h = i.deeper i.nothing (to n (c + 1) [] x rest h)
  value_to c n (p ∷ ps) x rest h =
      elim (tested (is_dash p.what)) [
        | inr e ↦ i.deeper (i.other (not_dash p.what e)) (to n (c + 1) (p ∷ ps) x rest (rw e at h))
        | inl e ↦ elim (tested (p.column == c)) [
          | inr d ↦ i.deeper (i.elsewhere (λ same. let q : true ≡ false = sym (eq-eqb p.column c same) ∙ d in cc)) (to n (c + 1) (p ∷ ps) x rest (rw (e, d) at h))
          | inl d ↦
              let is : p ≡ dash p.line c = piece_is p c Dash (eqb-true p.column c d) (a_dash p.what e) in
              subst (λ (q : Piece). i.IsValue M c n (q ∷ ps) x rest) (sym is) (i.own_list (subst (λ (q : Piece). M n c (q ∷ ps) x rest) is (to n c (p ∷ ps) x rest (rw (e, d) at h))))
        ]
      ]
    where
      a_dash : (w : What) → is_dash w ≡ true → w ≡ Dash
      a_dash Dash e = refl
      a_dash (Key k) e = absurd cc
      a_dash (Leaf y height out) e = absurd cc

  pairs_to : {c : ℕ} {found all : List Pair} {ps rest : List Piece} → g.IsRows (g.IsLeft c) (g.IsPair N c) found ps all rest
      → (xs : List Pair) × (all ≡ found ++ xs) × i.IsPairs M c ps xs rest × AllNew found xs × i.AreDistinct xs
  pairs_to {found = found} (g.ends e) = ([], sym (append-nil found), i.no_pair (left_is e), tt, tt)
  pairs_to {c = c} {found = found} {rest = rest} (g.more {behind = behind} (g.pair {p = p} {k = k} {ps = ps} {x = x} at is fresh node) r) =
      let more = pairs_to r in
      let y : Pair = (k, p.line, x) in
      let new = later_new found more.0 y more.3 in
      let value : i.IsValue M c p.line ps x behind = subst (λ (m : ℕ). i.IsValue M m p.line ps x behind) at (value_to p.column p.line ps x behind node) in (
        y ∷ more.0,
        more.1 ∙ append_assoc found (y ∷ []) more.0,
        subst (λ (q : Piece). i.IsPairs M c (q ∷ ps) (y ∷ more.0) rest) (sym (piece_is p c (Key k) at is)) (i.pair {n = p.line} value more.2),
        (has_none k found fresh, new.0),
        (new.1, more.4),
      )

  over_to : (depth line floor : ℕ) (ps : List Piece) (x : Node) (rest : List Piece) → g.IsNodeOver depth N line floor ps x rest → i.IsBlockOver depth M line floor ps x rest
  over_to depth line floor ps x rest (g.absent a) = i.absent (left_is a)
  over_to depth line floor ps x rest (g.leaf {p = p} {height = height} {out = out} le is h) =
      subst (λ (q : Piece). i.IsBlockOver depth M line floor (q ∷ rest) x rest) (sym (piece_is p p.column (Leaf x height out) refl is)) (i.one_leaf le h)
  over_to depth line floor ps x rest (g.list {p = p} {ps = qs} {items = items} le is r) =
      let q : Piece = dash p.line p.column in
      let e : p ≡ q = piece_is p p.column Dash refl is in
      let h = items_to r in
      subst (λ (t : Piece). i.IsBlockOver depth M line floor (t ∷ qs) (listed p.line items) rest) (sym e)
      (subst (λ (xs : List Node). i.IsBlockOver depth M line floor (q ∷ qs) (listed p.line xs) rest) (sym h.1) (i.list le (subst (λ (t : Piece). i.IsItems M p.column (t ∷ qs) h.0 rest) e h.2)))
  over_to depth line floor ps x rest (g.map {p = p} {k = k} {ps = qs} {pairs = pairs} le is r) =
      let q : Piece = key p.line p.column k in
      let e : p ≡ q = piece_is p p.column (Key k) refl is in
      let h = pairs_to r in
      subst (λ (t : Piece). i.IsBlockOver depth M line floor (t ∷ qs) (mapped p.line pairs) rest) (sym e)
      (subst (λ (xs : List Pair). i.IsBlockOver depth M line floor (q ∷ qs) (mapped p.line xs) rest) (sym h.1) (i.map le (subst (λ (t : Piece). i.IsPairs M p.column (t ∷ qs) h.0 rest) e h.2) h.4))

  -- ---- and the other way

  items_from : {c : ℕ} {xs : List Node} {ps rest : List Piece} → i.IsItems N c ps xs rest → (found : List Node) → g.IsRows (g.ListEnds c) (g.IsItem M c) found ps (found ++ xs) rest
  items_from {c = c} {rest = rest} (i.no_item {ps = ps} o) found = subst (λ (all : List Node). g.IsRows (g.ListEnds c) (g.IsItem M c) found ps all ps) (sym (append-nil found)) (g.ends (is_over o))
  items_from {c = c} {rest = rest} (i.item {n = n} {ps = ps} {behind = behind} {x = x} {xs = xs} node r) found =
      subst (λ (all : List Node). g.IsRows (g.ListEnds c) (g.IsItem M c) found (dash n c ∷ ps) all rest) (append_assoc found (x ∷ []) xs)
      (g.more (g.item refl refl (to n (c + 1) ps x behind node)) (items_from r (found ++ x ∷ [])))

  value_from : {c n : ℕ} {ps : List Piece} {x : Node} {rest : List Piece} → i.IsValue N c n ps x rest → M n (value_floor c (front ps)) ps x rest
  value_from {c = c} {n = n} {x = x} {rest = rest} (i.own_list {m = m} {ps = ps} h) = rw (eq-eqb c c refl) (to n c (dash m c ∷ ps) x rest h)
  value_from {c = c} {n = n} {x = x} {rest = rest} (i.deeper {ps = ps} i.nothing h) = to n (c + 1) [] x rest h
  value_from {c = c} {n = n} {x = x} {rest = rest} (i.deeper {ps = ps} (i.elsewhere {p = p} {ps = qs} away) h) =
      rw (apart (is_dash p.what) (p.column == c) (unequal p.column c away)) (to n (c + 1) (p ∷ qs) x rest h)
    where
      unequal : (a b : ℕ) → a ≢ b → (a == b) ≡ false
      unequal a b h = elim (tested (a == b)) [ inl e ↦ absurd (h (eqb-true a b e)) | inr e ↦ e ]

      apart : (a b : Bool) → b ≡ false → (a && b) ≡ false
      apart true b e = e
      apart false b e = refl
  value_from {c = c} {n = n} {x = x} {rest = rest} (i.deeper {ps = ps} (i.other {p = p} {ps = qs} d) h) = rw (no_dash p.what d) (to n (c + 1) (p ∷ qs) x rest h)

  pairs_from : {c : ℕ} {xs : List Pair} {ps rest : List Piece} → i.IsPairs N c ps xs rest → i.AreDistinct xs → (found : List Pair) → AllNew found xs
      → g.IsRows (g.IsLeft c) (g.IsPair M c) found ps (found ++ xs) rest
  pairs_from {c = c} (i.no_pair {ps = ps} o) d found new = subst (λ (all : List Pair). g.IsRows (g.IsLeft c) (g.IsPair M c) found ps all ps) (sym (append-nil found)) (g.ends (is_left o))
  pairs_from {c = c} {rest = rest} (i.pair {n = n} {k = k} {ps = ps} {behind = behind} {x = x} {xs = xs} value r) d found new =
      let y : Pair = (k, n, x) in
      subst (λ (all : List Pair). g.IsRows (g.IsLeft c) (g.IsPair M c) found (key n c k ∷ ps) all rest) (append_assoc found (y ∷ []) xs)
      (g.more (g.pair refl refl (none_has k found new.0) (value_from value)) (pairs_from r d.1 (found ++ y ∷ []) (one_newer found xs y new.1 d.0)))

  over_from : (depth line floor : ℕ) (ps : List Piece) (x : Node) (rest : List Piece) → i.IsBlockOver depth N line floor ps x rest → g.IsNodeOver depth M line floor ps x rest
  over_from depth line floor ps x rest (i.absent a) = g.absent (is_left a)
  over_from depth line floor ps x rest (i.one_leaf le h) = g.leaf le refl h
  over_from depth line floor ps x rest (i.list le r) = g.list le refl (items_from r [])
  over_from depth line floor ps x rest (i.map {xs = xs} le r d) = g.map le refl (pairs_from r d [] (all_new xs))

block_to : (depth : ℕ) → Sound (g.IsNode depth) (i.IsBlock depth)
unfolding g.IsNode i.IsBlock
block_to zero line floor ps x rest h = absurd h
block_to (suc depth) line floor ps x rest h = over_to (g.IsNode depth) (i.IsBlock depth) (block_to depth) (suc depth) line floor ps x rest h

block_from : (depth : ℕ) → Sound (i.IsBlock depth) (g.IsNode depth)
unfolding g.IsNode i.IsBlock
block_from zero line floor ps x rest h = absurd h
block_from (suc depth) line floor ps x rest h = over_from (i.IsBlock depth) (g.IsNode depth) (block_from depth) (suc depth) line floor ps x rest h

pub same_trees : (ps : List Piece) (root : Node) → g.IsTree ps root ↔ i.IsRoot ps root
same_trees ps root = (block_to 64 1 0 ps root [], block_from 64 1 0 ps root [])

pub same_texts : (text : List ℕ) (root : Node) → IsText text root ↔ i.IsTextByIndent text root
same_texts text root = (to, from)
  where
    to : IsText text root → i.IsTextByIndent text root
    to (a_text {ps = ps} l c p t) = i.text l c p (block_to 64 1 0 ps root [] t)

    from : i.IsTextByIndent text root → IsText text root
    from (i.text {ps = ps} l c p t) = a_text l c p (block_from 64 1 0 ps root [] t)
