-- Pieces with others behind them: their tree is refused on a line of theirs, or they are in the notation by themselves.
use Rattle.std.proofs.Common.{◌≡◌, ℕ, zero, suc, ◌+◌, ◌≤◌, ◌<◌, Bool, true, false, cond, ◌&&◌, ◌⊎◌, inl, inr, List, [], ◌∷◌, ◌++◌, length, Some, Result, Ok, Err, refl, sym, ap, subst, ◌∙◌, arith, length-append}
use Rattle.std.specs.Prelude.{◌==◌, nat_lt}
use Rattle.std.proofs.lemmas.Bool.{ltb-true, ltb-false, eqb-true, eq-eqb}
use Rattle.yaml_scan.specs.declared.fault.Fault.{Fault}
use Rattle.yaml_scan.specs.declared.fault.Code.TheVariants.{Structure, LeftOut, RepeatedKey, Limit}
use Rattle.yaml_scan.specs.Codes.{number_of}
use Rattle.yaml_tree.specs.declared.layout.Begins.TheVariants as begins
use Rattle.yaml_tree.specs.declared.layout.Head.{Head}
use Rattle.yaml_tree.specs.declared.node.Node.{Node}
use Rattle.yaml_tree.specs.declared.piece.Piece.{Piece}
use Rattle.yaml_tree.specs.declared.piece.What.{What}
use Rattle.yaml_tree.specs.declared.piece.What.TheVariants.{Dash, Key, Leaf}
use Rattle.yaml_tree.specs.Nodes.{Pair, null, listed, mapped, has_key}
use Rattle.yaml_tree.specs.Pieces.{dash, key, leaf}
use Rattle.yaml_tree.specs.Layout.{◌>>=◌, Answer, Nodes, stop, front, is_dash, value_floor, dash_on, key_on, list_on, map_on, row_by, row, rows, item, pair, list, map, begins_with, head, node_by, node, document}
use Rattle.yaml_tree.proofs.Found.{is_left, is_right, is_there, place_of}
use Rattle.yaml_tree.proofs.LinesFound.{and_true}
use Rattle.yaml_laws.specs.Indents as i
use Rattle.yaml_laws.proofs.Laid.{AllOn}
use Rattle.yaml_laws.proofs.Orders.{tested}
use Rattle.yaml_rules.specs.Notation as n
use Rattle.yaml_rules.proofs.Chains.{piece_is}
use Rattle.yaml_codes.proofs.Allowed.{here_is, node_less, value_less}

own_dash : (q : Piece) (c : ℕ) → (is_dash q.what && q.column == c) ≡ true → q ≡ dash q.line c
own_dash q c e = let r = and_true (is_dash q.what) (q.column == c) e in piece_is q c Dash (eqb-true q.column c r.1) (by q.what r.0)
  where
    by : (w : What) → is_dash w ≡ true → w ≡ Dash
    by Dash e = refl
    by (Key k) e = absurd cc
    by (Leaf x height out) e = absurd cc

no_own_dash : (q : Piece) (qs : List Piece) (c : ℕ) → (is_dash q.what && q.column == c) ≡ false → i.IsNoDash c (q ∷ qs)
no_own_dash q qs c e = by q.what refl e
  where
    by : (w : What) → q.what ≡ w → (is_dash w && q.column == c) ≡ false → i.IsNoDash c (q ∷ qs)
    by Dash is e = i.elsewhere (λ at. let z : true ≡ false = sym (eq-eqb q.column c at) ∙ e in cc)
    by (Key k) is e = i.other (λ d. let z : Key k ≡ Dash = sym is ∙ d in cc)
    by (Leaf x height out) is e = i.other (λ d. let z : Leaf x height out ≡ Dash = sym is ∙ d in cc)

module _ (L : ℕ → Type 0) (tail : List Piece) where
  -- What is read of pieces with the tail behind them is refused on a line of theirs. Or they are in the notation and used up, or up to what is left.
  data Reads {A B : Type 0} (Are : A → List Piece → Type 0) (r : Answer B) : Type 0 where
    early : {f : Fault} → r ≡ Err f → L f.line → number_of f.code ≤ 12 → Reads Are r
    passed : {x : A} → Are x [] → Reads Are r
    leaves : {x : A} {y : B} {rest : List Piece} → Are x rest → r ≡ Ok (y, rest ++ tail) → AllOn L rest → Reads Are r

  -- as a part of something else
  as_part : {A B C D : Type 0} (Are : A → List Piece → Type 0) (All : C → List Piece → Type 0) (put : A → C) (make : B → D) → ((x : A) (rest : List Piece) → Are x rest → All (put x) rest)
      → (r : Answer B) → Reads Are r → Reads All (r >>= λ (v : B × List Piece). Ok (make v.0, v.1))
  as_part Are All put make wraps r (early {f = f} e l c) = early {f = f} (rw e refl) l c
  as_part Are All put make wraps r (passed {x = x} h) = passed {x = put x} (wraps x [] h)
  as_part Are All put make wraps r (leaves {x = x} {y = y} {rest = rest} h e on) = leaves {x = put x} {y = make y} {rest = rest} (wraps x rest h) (rw e refl) on

  as_is : {A B C : Type 0} (Are : A → List Piece → Type 0) (All : C → List Piece → Type 0) (put : A → C) → ((x : A) (rest : List Piece) → Are x rest → All (put x) rest) → (r : Answer B) → Reads Are r → Reads All r
  as_is Are All put wraps r (early {f = f} e l c) = early {f = f} e l c
  as_is Are All put wraps r (passed {x = x} h) = passed {x = put x} (wraps x [] h)
  as_is Are All put wraps r (leaves {x = x} {y = y} {rest = rest} h e on) = leaves {x = put x} {y = y} {rest = rest} (wraps x rest h) e on

  as_key : {A B : Type 0} (Are : A → List Piece → Type 0) (old : Bool) (line : ℕ) (r : Answer B) → L line → Reads Are r → Reads Are (cond old (stop line RepeatedKey) r)
  as_key Are true line r l h = early {f = record { line = line; code = RepeatedKey }} refl l (omega arith)
  as_key Are false line r l h = h

  -- one more, and those behind it
  one_more : {A B : Type 0} (First : A → List Piece → Type 0) (Rest : List Piece → List B → List Piece → Type 0) (All : List B → List Piece → Type 0) (put : A → B) → Rest [] [] []
      → ((x : A) (xs : List B) (behind rest : List Piece) → First x behind → Rest behind xs rest → All (put x ∷ xs) rest)
      → (t : Result Bool Fault) (found : List B) (all : List Piece) (r : Answer B) (go : B × List Piece → Answer (List B)) → t ≡ Ok true → Reads First r
      → ((x : A) (y : B) (rest : List Piece) → First x rest → AllOn L rest → Reads (Rest rest) (go (y, rest ++ tail))) → Reads All (row_by t found all (r >>= go))
  one_more First Rest All put none wraps t found all r go te (early {f = f} e l c) more = early {f = f} (rw (te, e) refl) l c
  one_more First Rest All put none wraps t found all r go te (passed {x = x} h) more = passed {x = put x ∷ []} (wraps x [] [] [] h none)
  one_more First Rest All put none wraps t found all r go te (leaves {x = x} {y = y} {rest = behind} h e on) more = by (more x y behind h on)
    where
      by : Reads (Rest behind) (go (y, behind ++ tail)) → Reads All (row_by t found all (r >>= go))
      by (early {f = f} d l c) = early {f = f} (rw (te, e) d) l c
      by (passed {x = xs} i) = passed {x = put x ∷ xs} (wraps x xs behind [] h i)
      by (leaves {x = xs} {y = ys} {rest = rest} i d on') = leaves {x = put x ∷ xs} {y = ys} {rest = rest} (wraps x xs behind rest h i) (rw (te, e) d) on'

  abbrev Covers : Nodes → Type 0
  Covers inner = (line floor : ℕ) (ps : List Piece) → L line → AllOn L ps → Reads (λ (x : Node) (rest : List Piece). n.IsNode line floor ps x rest) (inner line floor (ps ++ tail))

  module _ (inner : Nodes) (covers : Covers inner) where
    inner_covers : (line floor : ℕ) (ps : List Piece) → L line → AllOn L ps → Reads (λ (x : Node) (rest : List Piece). n.IsNode line floor ps x rest) (inner line floor (ps ++ tail))
    inner_covers = covers

    value_covers : (c line : ℕ) (ps : List Piece) → L line → AllOn L ps → Reads (λ (x : Node) (rest : List Piece). n.IsValue c line ps x rest) (inner line (value_floor c (front (ps ++ tail))) (ps ++ tail))
    value_covers c line [] l on = passed {x = null line} (n.deeper i.nothing (n.absent i.no_piece))
    value_covers c line (q ∷ qs) l on = elim (tested (is_dash q.what && q.column == c)) [
      | inl h ↦
          let is = own_dash q c h in
          rw h (as_is (λ (x : Node) (rest : List Piece). n.IsNode line c (q ∷ qs) x rest) (λ (x : Node) (rest : List Piece). n.IsValue c line (q ∷ qs) x rest) (λ x. x)
          (λ x rest k. subst (λ (p : Piece). n.IsValue c line (p ∷ qs) x rest) (sym is) (n.own_list (subst (λ (p : Piece). n.IsNode line c (p ∷ qs) x rest) is k))) (inner line c (q ∷ qs ++ tail)) (inner_covers line c (q ∷ qs) l on))
      | inr h ↦
          rw h (as_is (λ (x : Node) (rest : List Piece). n.IsNode line (c + 1) (q ∷ qs) x rest) (λ (x : Node) (rest : List Piece). n.IsValue c line (q ∷ qs) x rest) (λ x. x)
          (λ x rest k. n.deeper (no_own_dash q qs c h) k) (inner line (c + 1) (q ∷ qs ++ tail)) (inner_covers line (c + 1) (q ∷ qs) l on))
    ]

    items_covers : (c turns : ℕ) (found : List Node) (ps : List Piece) → length (ps ++ tail) < turns → AllOn L ps → Reads (λ (xs : List Node) (rest : List Piece). n.IsItems c ps xs rest) (row (list_on c) (λ _. item inner) turns found (ps ++ tail))
    unfolding row item
    items_covers c zero found ps lt on = absurd (omega arith)
    items_covers c (suc turns) found [] lt on = passed {x = []} (n.no_item i.nothing)
    items_covers c (suc turns) found (p ∷ ps) lt on = elim (place_of c p (dash_on p.what)) [
      | is_left lf e ↦ leaves {x = []} {y = found} {rest = p ∷ ps} (n.no_item (i.lower lf)) (rw e refl) on
      | is_right lf e ↦ early {f = record { line = p.line; code = Structure }} (rw e refl) on.0 (omega arith)
      | is_there at e ↦ by (λ found rest small o. items_covers c turns found rest small o) at e p.what refl
    ]
      where
        Again : Type 0
        Again = (found : List Node) (rest : List Piece) → length (rest ++ tail) < turns → AllOn L rest → Reads (λ (xs : List Node) (left : List Piece). n.IsItems c rest xs left) (row (list_on c) (λ _. item inner) turns found (rest ++ tail))

        Row : Piece → Type 0
        Row q = Reads (λ (xs : List Node) (rest : List Piece). n.IsItems c (q ∷ ps) xs rest) (row (list_on c) (λ _. item inner) (suc turns) found (q ∷ ps ++ tail))

        dash_row : Again → (m : ℕ) → L m → Row (dash m c)
        dash_row again m l =
            one_more (λ (x : Node) (rest : List Piece). n.IsNode m (c + 1) ps x rest) (n.IsItems c) (λ (xs : List Node) (rest : List Piece). n.IsItems c (dash m c ∷ ps) xs rest) (λ x. x) (n.no_item i.nothing)
            (λ x xs behind rest h k. n.item h k) (list_on c (Some (dash m c))) found (dash m c ∷ ps ++ tail) (inner m (c + 1) (ps ++ tail)) (λ y. row (list_on c) (λ _. item inner) turns (found ++ y.0 ∷ []) y.1)
            (here_is c (dash m c) (Ok true) refl) (inner_covers m (c + 1) ps l on.1)
            (λ x y rest h o. let less = node_less h in again (found ++ y ∷ []) rest (omega (arith, less, lt, length-append rest tail, length-append ps tail)) o)

        by : Again → p.column ≡ c → list_on c (Some p) ≡ dash_on p.what → (w : What) → p.what ≡ w → Row p
        by again at e Dash is = subst Row (sym (piece_is p c Dash at is)) (dash_row again p.line on.0)
        by again at e (Key k) is = leaves {x = []} {y = found} {rest = p ∷ ps} (n.no_item (i.other at (λ d. let z : Key k ≡ Dash = sym is ∙ d in cc))) (rw (e ∙ ap dash_on is) refl) on
        by again at e (Leaf x height out) is = leaves {x = []} {y = found} {rest = p ∷ ps} (n.no_item (i.other at (λ d. let z : Leaf x height out ≡ Dash = sym is ∙ d in cc))) (rw (e ∙ ap dash_on is) refl) on

    pairs_covers : (c turns : ℕ) (found : List Pair) (ps : List Piece) → length (ps ++ tail) < turns → AllOn L ps → Reads (λ (xs : List Pair) (rest : List Piece). n.IsPairs c ps xs rest) (row (map_on c) (pair inner) turns found (ps ++ tail))
    unfolding row pair
    pairs_covers c zero found ps lt on = absurd (omega arith)
    pairs_covers c (suc turns) found [] lt on = passed {x = []} (n.no_pair i.no_piece)
    pairs_covers c (suc turns) found (p ∷ ps) lt on = elim (place_of c p (key_on p.line p.what)) [
      | is_left lf e ↦ leaves {x = []} {y = found} {rest = p ∷ ps} (n.no_pair (i.lower lf)) (rw e refl) on
      | is_right lf e ↦ early {f = record { line = p.line; code = Structure }} (rw e refl) on.0 (omega arith)
      | is_there at e ↦ by (λ found rest small o. pairs_covers c turns found rest small o) at e p.what refl
    ]
      where
        Again : Type 0
        Again = (found : List Pair) (rest : List Piece) → length (rest ++ tail) < turns → AllOn L rest → Reads (λ (xs : List Pair) (left : List Piece). n.IsPairs c rest xs left) (row (map_on c) (pair inner) turns found (rest ++ tail))

        Row : Piece → Type 0
        Row q = Reads (λ (xs : List Pair) (rest : List Piece). n.IsPairs c (q ∷ ps) xs rest) (row (map_on c) (pair inner) (suc turns) found (q ∷ ps ++ tail))

        key_row : Again → (m : ℕ) (k : List ℕ) → L m → Row (key m c k)
        key_row again m k l =
            one_more (λ (x : Node) (rest : List Piece). n.IsValue c m ps x rest) (n.IsPairs c) (λ (xs : List Pair) (rest : List Piece). n.IsPairs c (key m c k ∷ ps) xs rest) (λ x. (k, m, x)) (n.no_pair i.no_piece)
            (λ x xs behind rest h j. n.pair h j) (map_on c (Some (key m c k))) found (key m c k ∷ ps ++ tail) _ (λ y. row (map_on c) (pair inner) turns (found ++ y.0 ∷ []) y.1)
            (here_is c (key m c k) (Ok true) refl)
            (as_key (λ (x : Node) (rest : List Piece). n.IsValue c m ps x rest) (has_key found k) m _ l
            (as_part (λ (x : Node) (rest : List Piece). n.IsValue c m ps x rest) (λ (x : Node) (rest : List Piece). n.IsValue c m ps x rest) (λ x. x) (λ (x : Node). (k, m, x)) (λ x rest h. h) (inner m (value_floor c (front (ps ++ tail))) (ps ++ tail)) (value_covers c m ps l on.1)))
            (λ x y rest h o. let less = value_less h in again (found ++ y ∷ []) rest (omega (arith, less, lt, length-append rest tail, length-append ps tail)) o)

        few : (out : Bool) → number_of (cond out LeftOut Structure) ≤ 12
        few true = omega arith
        few false = omega arith

        by : Again → p.column ≡ c → map_on c (Some p) ≡ key_on p.line p.what → (w : What) → p.what ≡ w → Row p
        by again at e Dash is = early {f = record { line = p.line; code = Structure }} (rw (e ∙ ap (key_on p.line) is) refl) on.0 (omega arith)
        by again at e (Key k) is = subst Row (sym (piece_is p c (Key k) at is)) (key_row again p.line k on.0)
        by again at e (Leaf x height out) is = early {f = record { line = p.line; code = cond out LeftOut Structure }} (rw (e ∙ ap (key_on p.line) is) refl) on.0 (few out)

  head_on : (line floor : ℕ) (p : Piece) → L line → L p.line → L (head line floor (Some p)).line
  head_on line floor p h k = by (nat_lt p.column floor)
    where
      by : (b : Bool) → L (cond {A = Head} b (record { line = line; begins = begins.Null }) (record { line = p.line; begins = begins_with p.column p.what })).line
      by true = h
      by false = k

  leaf_covers : (depth line floor m c height : ℕ) (x : Node) (out : Bool) (ps : List Piece) → floor ≤ c → L m → AllOn L ps
      → Reads (λ (y : Node) (rest : List Piece). n.IsNode line floor (leaf m c x height out ∷ ps) y rest) (cond (nat_lt depth height) (stop {A = Node × List Piece} m Limit) (Ok (x, ps ++ tail)))
  leaf_covers depth line floor m c height x out ps le l on = by (nat_lt depth height)
    where
      by : (b : Bool) → Reads (λ (y : Node) (rest : List Piece). n.IsNode line floor (leaf m c x height out ∷ ps) y rest) (cond b (stop {A = Node × List Piece} m Limit) (Ok (x, ps ++ tail)))
      by true = early {f = record { line = m; code = Limit }} refl l (omega arith)
      by false = leaves {x = x} {y = x} {rest = ps} (n.one_leaf le) refl on

  node_covers : (depth line floor : ℕ) (ps : List Piece) → (depth ≡ 0 → L line) → AllOn L ps → Reads (λ (x : Node) (rest : List Piece). n.IsNode line floor ps x rest) (node depth line floor (ps ++ tail))
  unfolding node list map rows
  node_covers zero line floor [] holds on = passed {x = null line} (n.absent i.no_piece)
  node_covers zero line floor (p ∷ ps) holds on = early {f = record { line = (head line floor (Some p)).line; code = Limit }} refl (head_on line floor p (holds refl) on.0) (omega arith)
  node_covers (suc depth) line floor [] holds on = passed {x = null line} (n.absent i.no_piece)
  node_covers (suc depth) line floor (p ∷ ps) holds on = elim (tested (nat_lt p.column floor)) [
    | inl h ↦ leaves {x = null line} {y = null line} {rest = p ∷ ps} (n.absent (i.lower (ltb-true p.column floor h))) (rw h refl) on
    | inr h ↦ rw h (shape (λ line floor ps l on. node_covers depth line floor ps (λ e. l) on) p.line p.column p.what (ltb-false p.column floor h) on.0)
  ]
    where
      shape : Covers (node depth) → (m c : ℕ) (w : What) → floor ≤ c → L m → Reads (λ (x : Node) (rest : List Piece). n.IsNode line floor (record { line = m; column = c; what = w } ∷ ps) x rest) (node_by (suc depth) (node depth) m (begins_with c w) (record { line = m; column = c; what = w } ∷ ps ++ tail))
      shape next m c Dash le l =
          as_part (λ (xs : List Node) (rest : List Piece). n.IsItems c (dash m c ∷ ps) xs rest) (λ (x : Node) (rest : List Piece). n.IsNode line floor (dash m c ∷ ps) x rest) (listed m) (listed m) (λ xs rest h. n.list le h)
          (list (node depth) c (dash m c ∷ ps ++ tail)) (items_covers (node depth) next c (suc (length (dash m c ∷ ps ++ tail))) [] (dash m c ∷ ps) (omega arith) (l, on.1))
      shape next m c (Key k) le l =
          as_part (λ (xs : List Pair) (rest : List Piece). n.IsPairs c (key m c k ∷ ps) xs rest) (λ (x : Node) (rest : List Piece). n.IsNode line floor (key m c k ∷ ps) x rest) (mapped m) (mapped m) (λ xs rest h. n.map le h)
          (map (node depth) c (key m c k ∷ ps ++ tail)) (pairs_covers (node depth) next c (suc (length (key m c k ∷ ps ++ tail))) [] (key m c k ∷ ps) (omega arith) (l, on.1))
      shape next m c (Leaf x height out) le l = leaf_covers (suc depth) line floor m c height x out ps le l on.1

  -- the pieces are in the notation, or their tree is refused on a line of theirs
  pub document_covers : (ps : List Piece) → AllOn L ps → ((x : Node) × n.IsNotation ps x) ⊎ ((f : Fault) × (document (ps ++ tail) ≡ Err f) × L f.line × (number_of f.code ≤ 12))
  unfolding document
  document_covers ps on = by (node 64 1 0 (ps ++ tail)) refl (node_covers 64 1 0 ps (λ e. absurd (omega (arith, e))) on)
    where
      by : (r : Answer Node) → node 64 1 0 (ps ++ tail) ≡ r → Reads (λ (x : Node) (rest : List Piece). n.IsNode 1 0 ps x rest) r → ((x : Node) × n.IsNotation ps x) ⊎ ((f : Fault) × (document (ps ++ tail) ≡ Err f) × L f.line × (number_of f.code ≤ 12))
      by r is (early {f = f} e l c) = inr (f, rw (is, e) refl, l, c)
      by r is (passed {x = x} h) = inl (x, h)
      by r is (leaves {x = x} {rest = []} h e on') = inl (x, h)
      by r is (leaves {rest = q ∷ qs} h e on') = inr (record { line = q.line; code = Structure }, rw (is, e) refl, on'.0, omega arith)
