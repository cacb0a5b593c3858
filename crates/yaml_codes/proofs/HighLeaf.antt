-- Where a leaf of pieces in the notation is too high, their tree is refused on one of their lines, whatever follows.
use Rattle.std.proofs.Common.{◌≡◌, ℕ, zero, suc, ◌+◌, ◌≤◌, ◌<◌, Bool, true, false, cond, inl, inr, List, [], ◌∷◌, ◌++◌, length, Some, Result, Ok, Err, refl, sym, ap, subst, ◌∙◌, arith, length-append}
use Rattle.std.specs.Prelude.{◌==◌, nat_lt}
use Rattle.std.proofs.lemmas.Bool.{lt-ltb, le-ltb, ltb-false, eqb-true, eq-eqb}
use Rattle.yaml_scan.specs.declared.fault.Fault.{Fault}
use Rattle.yaml_scan.specs.declared.fault.Code.TheVariants.{RepeatedKey, Limit}
use Rattle.yaml_tree.specs.declared.node.Node.{Node}
use Rattle.yaml_tree.specs.declared.piece.Piece.{Piece}
use Rattle.yaml_tree.specs.declared.piece.What.{What}
use Rattle.yaml_tree.specs.declared.piece.What.TheVariants.{Dash, Key, Leaf}
use Rattle.yaml_tree.specs.Nodes.{Pair, null, listed, mapped, has_key}
use Rattle.yaml_tree.specs.Pieces.{dash, key, leaf}
use Rattle.yaml_tree.specs.declared.layout.Begins.TheVariants as begins
use Rattle.yaml_tree.specs.declared.layout.Head.{Head}
use Rattle.yaml_tree.specs.Layout.{◌>>=◌, Answer, stop, front, value_floor, dash_on, key_on, list_on, map_on, row_by, row, rows, item, pair, list, map, made, begins_with, head, node, document}
use Rattle.yaml_tree.proofs.Low.{Low}
use Rattle.yaml_laws.specs.Indents as i
use Rattle.yaml_laws.proofs.Laid.{AllOn}
use Rattle.yaml_laws.proofs.Orders.{tested, less_or_same}
use Rattle.yaml_rules.specs.Notation as n
use Rattle.yaml_rules.proofs.Chains.{IsOpener, Chained}
use Rattle.yaml_rules.proofs.Layouts.{Fit}
use Rattle.yaml_codes.proofs.Allowed.{here_is, left_is, dash_off, own_floor, deeper_floor, node_less, items_less, value_less, pairs_less}

none_of : (ps qs : List Piece) → length qs ≤ length ps → ps ≡ [] → qs ≡ []
none_of ps [] le e = refl
none_of ps (q ∷ qs) le e = absurd (let z : length ps ≡ 0 = ap (λ (xs : List Piece). length xs) e in omega (arith, le, z))

module _ (P : ℕ → Type 0) (tail : List Piece) where
  -- What pieces give that are followed by the tail: a fault on such a line. Or no leaf of those that were read is too high, and none is left,
  -- or these are left before the tail.
  data Reads {A : Type 0} (ps rest : List Piece) (r : Answer A) : Type 0 where
    fails : {g : Fault} → r ≡ Err g → P g.line → Reads ps rest r
    used : (Low rest → Low ps) → rest ≡ [] → Reads ps rest r
    leaves : {x : A} → (Low rest → Low ps) → r ≡ Ok (x, rest ++ tail) → AllOn P rest → Reads ps rest r

  head_on : (line floor : ℕ) (p : Piece) → P line → P p.line → P (head line floor (Some p)).line
  head_on line floor p h k = by (nat_lt p.column floor)
    where
      by : (b : Bool) → P (cond {A = Head} b (record { line = line; begins = begins.Null }) (record { line = p.line; begins = begins_with p.column p.what })).line
      by true = h
      by false = k

  one_leaf : (depth m : ℕ) (height c : ℕ) (x : Node) (out : Bool) (ps : List Piece) → depth ≤ 64 → P m → AllOn P ps → Reads (leaf m c x height out ∷ ps) ps (cond (nat_lt depth height) (stop {A = Node × List Piece} m Limit) (Ok (x, ps ++ tail)))
  one_leaf depth m height c x out ps le p on = elim (tested (nat_lt depth height)) [
    | inl e ↦ fails {g = record { line = m; code = Limit }} (rw e refl) p
    | inr e ↦ leaves {x = x} (λ l. (let h = ltb-false depth height e in omega (arith, h, le), l)) (rw e refl) on
  ]

  as_made : {A : Type 0} (make : A → Node) (ps rest : List Piece) (r : Answer A) → Reads ps rest r → Reads ps rest (made make r)
  as_made make ps rest r (fails {g = g} e p) = fails {g = g} (rw e refl) p
  as_made make ps rest r (used l e) = used l e
  as_made make ps rest r (leaves {x = x} l e on) = leaves {x = make x} l (rw e refl) on

  as_pair : (k : List ℕ) (line : ℕ) (ps rest : List Piece) (r : Answer Node) → Reads ps rest r → Reads {A = Pair} ps rest (r >>= λ (v : Node × List Piece). Ok ((k, line, v.0), v.1))
  as_pair k line ps rest r (fails {g = g} e p) = fails {g = g} (rw e refl) p
  as_pair k line ps rest r (used l e) = used l e
  as_pair k line ps rest r (leaves {x = x} l e on) = leaves {x = (k, line, x)} l (rw e refl) on

  as_key : (old : Bool) (line : ℕ) (ps rest : List Piece) (r : Answer Pair) → P line → Reads ps rest r → Reads ps rest (cond old (stop line RepeatedKey) r)
  as_key true line ps rest r p h = fails refl p
  as_key false line ps rest r p h = h

  -- one more item, and those behind it
  one_more : {A : Type 0} (t : Result Bool Fault) (found : List A) (all ps behind rest : List Piece) (r : Answer A) (go : A × List Piece → Answer (List A)) → t ≡ Ok true → length rest ≤ length behind → Reads ps behind r
      → ((x : A) → AllOn P behind → Reads behind rest (go (x, behind ++ tail))) → Reads ps rest (row_by t found all (r >>= go))
  one_more t found all ps behind rest r go e less h more = by h
    where
      by : Reads ps behind r → Reads ps rest (row_by t found all (r >>= go))
      by (fails {g = g} e' p) = fails {g = g} (rw (e, e') refl) p
      by (used l e') =
          let none = none_of behind rest less e' in
          used (λ z. l (subst Low (sym e') tt)) none
      by (leaves {x = x} l e' on) = then_more (more x on)
        where
          then_more : Reads behind rest (go (x, behind ++ tail)) → Reads ps rest (row_by t found all (r >>= go))
          then_more (fails {g = g} d p) = fails {g = g} (rw (e, e') d) p
          then_more (used m d) = used (λ z. l (m z)) d
          then_more (leaves {x = y} m d on') = leaves {x = y} (λ z. l (m z)) (rw (e, e') d) on'

  -- what stands before them
  behind_one : {A : Type 0} (p : Piece) (ps rest : List Piece) (r : Answer A) → (Low ps → Low (p ∷ ps)) → Reads ps rest r → Reads (p ∷ ps) rest r
  behind_one p ps rest r to (fails e h) = fails e h
  behind_one p ps rest r to (used l e) = used (λ z. to (l z)) e
  behind_one p ps rest r to (leaves {x = x} l e on) = leaves {x = x} (λ z. to (l z)) e on

  end_of_row : {A : Type 0} (t : Result Bool Fault) (found : List A) (ps : List Piece) (more : Answer (List A)) → t ≡ Ok false → AllOn P ps → Reads ps ps (row_by t found (ps ++ tail) more)
  end_of_row t found ps more e on = leaves {x = found} (λ l. l) (rw e refl) on

  mutual
    unfolding node list map rows row item pair

    node_high : {line floor : ℕ} {ps rest : List Piece} {x : Node} → n.IsNode line floor ps x rest → (depth : ℕ) → depth ≤ 64 → (depth ≡ 0 → P line) → AllOn P ps → Reads ps rest (node depth line floor (ps ++ tail))
    node_high {ps = []} {rest = rest} h zero le holds on = used (λ l. tt) (none_of [] rest (node_less h) refl)
    node_high {line = line} {floor = floor} {ps = p ∷ ps} h zero le holds on = fails refl (head_on line floor p (holds refl) on.0)
    node_high (n.absent i.no_piece) (suc depth) le holds on = used (λ l. l) refl
    node_high {line = line} {floor = floor} (n.absent (i.lower {p = p} lt)) (suc depth) le holds on = leaves {x = null line} (λ l. l) (rw (lt-ltb p.column floor lt) refl) on
    node_high {floor = floor} (n.one_leaf {n = m} {indent = c} {height = height} {out = out} {ps = ps} {x = x} lf) (suc depth) le holds on = rw (le-ltb c floor lf) (one_leaf (suc depth) m height c x out ps le on.0 on.1)
    node_high {floor = floor} {rest = rest} (n.list {n = m} {indent = c} {ps = ps} lf i) (suc depth) le holds on =
        rw (le-ltb c floor lf) (as_made (listed m) (dash m c ∷ ps) rest (list (node depth) c (dash m c ∷ ps ++ tail)) (items_high i depth (suc (length (dash m c ∷ ps ++ tail))) [] (omega (arith, le)) (omega arith) on))
    node_high {floor = floor} {rest = rest} (n.map {n = m} {indent = c} {k = k} {ps = ps} lf i) (suc depth) le holds on =
        rw (le-ltb c floor lf) (as_made (mapped m) (key m c k ∷ ps) rest (map (node depth) c (key m c k ∷ ps ++ tail)) (pairs_high i depth (suc (length (key m c k ∷ ps ++ tail))) [] (omega (arith, le)) (omega arith) on))

    items_high : {c : ℕ} {ps rest : List Piece} {xs : List Node} → n.IsItems c ps xs rest → (depth turns : ℕ) (found : List Node) → depth ≤ 64 → length (ps ++ tail) < turns → AllOn P ps → Reads ps rest (row (list_on c) (λ _. item (node depth)) turns found (ps ++ tail))
    items_high h depth zero found le lt on = absurd (omega arith)
    items_high (n.no_item i.nothing) depth (suc turns) found le lt on = used (λ l. l) refl
    items_high {c = c} {ps = ps} (n.no_item (i.lower {p = p} lf)) depth (suc turns) found le lt on = end_of_row (list_on c (Some p)) found ps _ (left_is c p (dash_on p.what) lf) on
    items_high {c = c} {ps = ps} (n.no_item (i.other {p = p} e d)) depth (suc turns) found le lt on = end_of_row (list_on c (Some p)) found ps _ (here_is c p (dash_on p.what) e ∙ dash_off p.what d) on
    items_high {c = c} {rest = rest} (n.item {n = m} {ps = ps} {behind = behind} h i) depth (suc turns) found le lt on =
        let less = node_less h in
        one_more (list_on c (Some (dash m c))) found (dash m c ∷ ps ++ tail) (dash m c ∷ ps) behind rest (node depth m (c + 1) (ps ++ tail)) (λ y. row (list_on c) (λ _. item (node depth)) turns (found ++ y.0 ∷ []) y.1)
        (here_is c (dash m c) (Ok true) refl) (items_less i) (behind_one (dash m c) ps behind _ (λ l. (tt, l)) (node_high h depth le (λ e. on.0) on.1))
        (λ x o. items_high i depth turns (found ++ x ∷ []) le (omega (arith, less, lt, length-append behind tail, length-append ps tail)) o)

    value_high : {c line : ℕ} {ps rest : List Piece} {x : Node} → n.IsValue c line ps x rest → (depth : ℕ) → depth ≤ 64 → P line → AllOn P ps → Reads ps rest (node depth line (value_floor c (front (ps ++ tail))) (ps ++ tail))
    value_high {c = c} {line = line} {rest = rest} (n.own_list {m = m} {ps = ps} h) depth le p on =
        subst (λ (d : ℕ). Reads (dash m c ∷ ps) rest (node depth line d (dash m c ∷ ps ++ tail))) (sym (own_floor m c (ps ++ tail))) (node_high h depth le (λ e. p) on)
    value_high {rest = rest} (n.deeper i.nothing h) depth le p on = used (λ l. tt) (none_of [] rest (node_less h) refl)
    value_high {c = c} {line = line} {ps = ps} {rest = rest} (n.deeper (i.elsewhere {p = q} {ps = qs} away) h) depth le p on =
        subst (λ (d : ℕ). Reads ps rest (node depth line d (ps ++ tail))) (sym (deeper_floor c (q ∷ qs ++ tail) (i.elsewhere away))) (node_high h depth le (λ e. p) on)
    value_high {c = c} {line = line} {ps = ps} {rest = rest} (n.deeper (i.other {p = q} {ps = qs} d) h) depth le p on =
        subst (λ (d : ℕ). Reads ps rest (node depth line d (ps ++ tail))) (sym (deeper_floor c (q ∷ qs ++ tail) (i.other d))) (node_high h depth le (λ e. p) on)

    pairs_high : {c : ℕ} {ps rest : List Piece} {xs : List Pair} → n.IsPairs c ps xs rest → (depth turns : ℕ) (found : List Pair) → depth ≤ 64 → length (ps ++ tail) < turns → AllOn P ps → Reads ps rest (row (map_on c) (pair (node depth)) turns found (ps ++ tail))
    pairs_high h depth zero found le lt on = absurd (omega arith)
    pairs_high (n.no_pair i.no_piece) depth (suc turns) found le lt on = used (λ l. l) refl
    pairs_high {c = c} {ps = ps} (n.no_pair (i.lower {p = p} lf)) depth (suc turns) found le lt on = end_of_row (map_on c (Some p)) found ps _ (left_is c p (key_on p.line p.what) lf) on
    pairs_high {c = c} {rest = rest} (n.pair {n = m} {k = k} {ps = ps} {behind = behind} h i) depth (suc turns) found le lt on =
        let less = value_less h in
        one_more (map_on c (Some (key m c k))) found (key m c k ∷ ps ++ tail) (key m c k ∷ ps) behind rest _ (λ y. row (map_on c) (pair (node depth)) turns (found ++ y.0 ∷ []) y.1)
        (here_is c (key m c k) (Ok true) refl) (pairs_less i)
        (as_key (has_key found k) m (key m c k ∷ ps) behind _ on.0 (as_pair k m (key m c k ∷ ps) behind (node depth m (value_floor c (front (ps ++ tail))) (ps ++ tail)) (behind_one (key m c k) ps behind _ (λ l. (tt, l)) (value_high h depth le on.0 on.1))))
        (λ x o. pairs_high i depth turns (found ++ x ∷ []) le (omega (arith, less, lt, length-append behind tail, length-append ps tail)) o)

  -- so the tree is refused on one of their lines
  pub high_refused : (ps : List Piece) (root : Node) → n.IsNotation ps root → AllOn P ps → (Low ps → ⊥) → (g : Fault) × (document (ps ++ tail) ≡ Err g) × P g.line
  unfolding document
  high_refused ps root h on high = by (node 64 1 0 (ps ++ tail)) refl (node_high h 64 (omega arith) (λ e. absurd (omega (arith, e))) on)
    where
      by : (r : Answer Node) → node 64 1 0 (ps ++ tail) ≡ r → Reads ps [] r → (g : Fault) × (document (ps ++ tail) ≡ Err g) × P g.line
      by r is (fails {g = g} e p) = (g, rw (is, e) refl, p)
      by r is (used l e) = absurd (high (l tt))
      by r is (leaves l e o) = absurd (high (l tt))

-- ---- the pieces before a line

-- the last piece is no leaf that is too high
pub LastLow : List Piece → Type 0
LastLow [] = Unit {0}
LastLow (p ∷ []) = Low (p ∷ [])
LastLow (p ∷ q ∷ ps) = LastLow (q ∷ ps)

pub last_low : (k column : ℕ) (x : Node) (before : List Piece) → LastLow (before ++ leaf k column x 1 false ∷ [])
unfolding LastLow
last_low k column x [] = (omega arith, tt)
last_low k column x (p ∷ []) = (omega arith, tt)
last_low k column x (p ∷ q ∷ before) = last_low k column x (q ∷ before)

opener_low : (line column : ℕ) (w : What) → IsOpener w → Low (record { line = line; column = column; what = w } ∷ [])
opener_low line column Dash o = (tt, tt)
opener_low line column (Key k) o = (tt, tt)
opener_low line column (Leaf x height out) o = absurd o

chained_low : (p : Piece) (ps : List Piece) → Chained p ps → LastLow (p ∷ ps) → Low (p ∷ ps)
unfolding LastLow
chained_low p [] c l = l
chained_low p (q ∷ qs) c l = ((opener_low p.line p.column p.what c.0.0).0, chained_low q qs c.1 l)

-- pieces of a line and those before it, where it ends them: the ones before, and those of the line, which are not too high
pub before_line : (k : ℕ) (ps : List Piece) → AllOn (λ m. m ≤ k) ps → Fit k ps → LastLow ps → (qs rest : List Piece) × (ps ≡ qs ++ rest) × AllOn (λ m. m < k) qs × Low rest
unfolding LastLow
before_line k [] on fit l = ([], [], refl, tt, tt)
before_line k (p ∷ ps) on fit l = elim (tested (p.line == k)) [
  | inl e ↦ ([], p ∷ ps, refl, tt, chained_low p ps (fit.0 (eqb-true p.line k e)) l)
  | inr e ↦
      let lt : p.line < k = elim (less_or_same p.line k on.0) [ inl lt ↦ lt | inr same ↦ absurd (let q : true ≡ false = sym (eq-eqb p.line k same) ∙ e in cc) ] in
      let r = before_line k ps on.1 fit.2 (later ps l) in
      (p ∷ r.0, r.1, ap (λ (xs : List Piece). p ∷ xs) r.2, (lt, r.3), r.4)
]
  where
    later : (ps : List Piece) → LastLow (p ∷ ps) → LastLow ps
    later [] l = tt
    later (q ∷ qs) l = l
