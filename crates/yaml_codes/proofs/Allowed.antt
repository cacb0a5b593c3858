-- Of what is in the notation the tree is read, or refused for a repeated key or the depth of a node.
use Rattle.std.proofs.Common.{◌≡◌, ◌≢◌, ℕ, zero, suc, ◌+◌, ◌≤◌, ◌<◌, Bool, true, false, cond, ◌&&◌, ◌⊎◌, inl, inr, List, [], ◌∷◌, ◌++◌, length, Some, Result, Ok, Err, refl, eq-eqb, sym, ap, subst, ◌∙◌, append_assoc, arith}
use Rattle.std.specs.Prelude.{◌==◌, nat_lt}
use Rattle.std.proofs.lemmas.Bool.{eqb-true, lt-ltb, le-ltb}
use Rattle.std.proofs.lemmas.List.{append-nil}
use Rattle.yaml_scan.specs.declared.fault.Fault.{Fault}
use Rattle.yaml_scan.specs.declared.fault.Code.TheVariants.{RepeatedKey, Limit}
use Rattle.yaml_tree.specs.declared.node.Node.{Node}
use Rattle.yaml_tree.specs.declared.piece.Piece.{Piece}
use Rattle.yaml_tree.specs.declared.piece.What.{What}
use Rattle.yaml_tree.specs.declared.piece.What.TheVariants.{Dash, Key, Leaf}
use Rattle.yaml_tree.specs.Nodes.{Pair, null, listed, mapped, has_key}
use Rattle.yaml_tree.specs.Pieces.{dash, key}
use Rattle.yaml_tree.specs.Layout.{◌>>=◌, Answer, Nodes, stop, front, is_dash, value_floor, at_column, dash_on, key_on, list_on, map_on, row_by, row, rows, item, pair, list, map, made, head, node_at, node, ended, document}
use Rattle.yaml_laws.specs.Indents as i
use Rattle.yaml_laws.proofs.Orders.{tested}
use Rattle.yaml_rules.specs.Notation as n
use Rattle.yaml_rules.proofs.Layouts.{IsTreeCode}

-- it is read, or refused for one of the two codes
abbrev pub Told : {A : Type 0} → Answer A → A → List Piece → Type 0
Told r x rest = (r ≡ Ok (x, rest)) ⊎ ((f : Fault) × (r ≡ Err f) × IsTreeCode f.code)

-- ---- what stands next

pub here_is : (column : ℕ) (p : Piece) (same : Result Bool Fault) → p.column ≡ column → at_column column p same ≡ same
here_is column p same e = let a = le-ltb p.column column (omega arith) in let b = le-ltb column p.column (omega arith) in rw (a, b) refl

pub left_is : (column : ℕ) (p : Piece) (same : Result Bool Fault) → p.column < column → at_column column p same ≡ Ok false
left_is column p same lt = rw (lt-ltb p.column column lt) refl

no_dash : (w : What) → w ≢ Dash → is_dash w ≡ false
no_dash Dash h = absurd (h refl)
no_dash (Key k) h = refl
no_dash (Leaf x height out) h = refl

pub dash_off : (w : What) → w ≢ Dash → dash_on w ≡ Ok false
dash_off Dash h = absurd (h refl)
dash_off (Key k) h = refl
dash_off (Leaf x height out) h = refl

list_over : (column : ℕ) (ps : List Piece) → i.IsOver column ps → list_on column (front ps) ≡ Ok false
list_over column ps i.nothing = refl
list_over column ps (i.lower {p = p} lt) = left_is column p (dash_on p.what) lt
list_over column ps (i.other {p = p} e d) = here_is column p (dash_on p.what) e ∙ dash_off p.what d

map_over : (column : ℕ) (ps : List Piece) → i.IsLeft column ps → map_on column (front ps) ≡ Ok false
map_over column ps i.no_piece = refl
map_over column ps (i.lower {p = p} lt) = left_is column p (key_on p.line p.what) lt

-- the column from which on a value stands
pub own_floor : (m c : ℕ) (ps : List Piece) → value_floor c (front (dash m c ∷ ps)) ≡ c
own_floor m c ps = rw (eq-eqb c c refl) refl

unequal : (a b : ℕ) → a ≢ b → (a == b) ≡ false
unequal a b h = elim (tested (a == b)) [ inl e ↦ absurd (h (eqb-true a b e)) | inr e ↦ e ]

apart : (a b : Bool) → b ≡ false → (a && b) ≡ false
apart true b e = e
apart false b e = refl

pub deeper_floor : (c : ℕ) (ps : List Piece) → i.IsNoDash c ps → value_floor c (front ps) ≡ c + 1
deeper_floor c ps i.nothing = refl
deeper_floor c ps (i.elsewhere {p = p} away) = rw (apart (is_dash p.what) (p.column == c) (unequal p.column c away)) refl
deeper_floor c ps (i.other {p = p} d) = rw (no_dash p.what d) refl

-- ---- no more is left than there was

mutual
  pub node_less : {line floor : ℕ} {ps rest : List Piece} {x : Node} → n.IsNode line floor ps x rest → length rest ≤ length ps
  node_less (n.absent e) = omega arith
  node_less (n.one_leaf le) = omega arith
  node_less (n.list le i) = items_less i
  node_less (n.map le i) = pairs_less i

  pub items_less : {indent : ℕ} {ps rest : List Piece} {xs : List Node} → n.IsItems indent ps xs rest → length rest ≤ length ps
  items_less (n.no_item o) = omega arith
  items_less (n.item x i) = let a = node_less x in let b = items_less i in omega (arith, a, b)

  pub value_less : {indent line : ℕ} {ps rest : List Piece} {x : Node} → n.IsValue indent line ps x rest → length rest ≤ length ps
  value_less (n.own_list x) = node_less x
  value_less (n.deeper d x) = node_less x

  pub pairs_less : {indent : ℕ} {ps rest : List Piece} {xs : List Pair} → n.IsPairs indent ps xs rest → length rest ≤ length ps
  pairs_less (n.no_pair o) = omega arith
  pairs_less (n.pair x i) = let a = value_less x in let b = pairs_less i in omega (arith, a, b)

-- ---- what is read

told_item : {A : Type 0} (t : Result Bool Fault) (found : List A) (ps behind rest : List Piece) (r : Answer A) (go : A × List Piece → Answer (List A)) (x : A) (xs : List A) → t ≡ Ok true → Told r x behind
    → Told (go (x, behind)) ((found ++ x ∷ []) ++ xs) rest → Told (row_by t found ps (r >>= go)) (found ++ x ∷ xs) rest
told_item t found ps behind rest r go x xs e (inl h) (inl m) = inl (rw (e, h) (m ∙ ap (λ (ys : List _). Ok (ys, rest)) (append_assoc found (x ∷ []) xs)))
told_item t found ps behind rest r go x xs e (inl h) (inr m) = inr (m.0, rw (e, h) m.1, m.2)
told_item t found ps behind rest r go x xs e (inr f) m = inr (f.0, rw (e, f.1) refl, f.2)

told_end : {A : Type 0} (t : Result Bool Fault) (found : List A) (ps : List Piece) (more : Answer (List A)) → t ≡ Ok false → Told (row_by t found ps more) (found ++ []) ps
told_end t found ps more e = inl (rw e (ap (λ (ys : List _). Ok (ys, ps)) (sym (append-nil found))))

told_made : {A : Type 0} (make : A → Node) (r : Answer A) (x : A) (rest : List Piece) → Told r x rest → Told (made make r) (make x) rest
told_made make r x rest (inl e) = inl (rw e refl)
told_made make r x rest (inr f) = inr (f.0, rw f.1 refl, f.2)

told_pair : (k : List ℕ) (line : ℕ) (r : Answer Node) (x : Node) (rest : List Piece) → Told r x rest → Told {A = Pair} (r >>= λ (v : Node × List Piece). Ok ((k, line, v.0), v.1)) (k, line, x) rest
told_pair k line r x rest (inl e) = inl (rw e refl)
told_pair k line r x rest (inr f) = inr (f.0, rw f.1 refl, f.2)

told_key : (old : Bool) (line : ℕ) (r : Answer Pair) (x : Pair) (rest : List Piece) → Told r x rest → Told (cond old (stop line RepeatedKey) r) x rest
told_key true line r x rest h = inr (record { line = line; code = RepeatedKey }, refl, refl)
told_key false line r x rest h = h

told_leaf : (b : Bool) (line : ℕ) (x : Node) (ps : List Piece) → Told (cond b (stop {A = Node × List Piece} line Limit) (Ok (x, ps))) x ps
told_leaf true line x ps = inr (record { line = line; code = Limit }, refl, refl)
told_leaf false line x ps = inl refl

absent_told : (depth line floor : ℕ) (inner : Nodes) (ps : List Piece) → i.IsLeft floor ps → Told (node_at depth inner (head line floor (front ps)) ps) (null line) ps
absent_told depth line floor inner ps i.no_piece = inl refl
absent_told depth line floor inner ps (i.lower {p = p} lt) = inl (rw (lt-ltb p.column floor lt) refl)

mutual
  unfolding node list map rows row item pair

  node_told : {line floor : ℕ} {ps rest : List Piece} {x : Node} → n.IsNode line floor ps x rest → (depth : ℕ) → Told (node depth line floor ps) x rest
  node_told {line = line} {floor = floor} {ps = ps} h zero = inr (record { line = (head line floor (front ps)).line; code = Limit }, refl, refl)
  node_told {line = line} {floor = floor} {ps = ps} (n.absent e) (suc depth) = absent_told (suc depth) line floor (node depth) ps e
  node_told {floor = floor} (n.one_leaf {n = m} {indent = c} {height = height} {ps = ps} {x = x} le) (suc depth) =
      rw (le-ltb c floor le) (told_leaf (nat_lt (suc depth) height) m x ps)
  node_told {floor = floor} {rest = rest} (n.list {n = m} {indent = c} {ps = ps} {xs = xs} le i) (suc depth) =
      rw (le-ltb c floor le) (told_made (listed m) (list (node depth) c (dash m c ∷ ps)) xs rest (items_told i depth (suc (length (dash m c ∷ ps))) [] (omega arith)))
  node_told {floor = floor} {rest = rest} (n.map {n = m} {indent = c} {k = k} {ps = ps} {xs = xs} le i) (suc depth) =
      rw (le-ltb c floor le) (told_made (mapped m) (map (node depth) c (key m c k ∷ ps)) xs rest (pairs_told i depth (suc (length (key m c k ∷ ps))) [] (omega arith)))

  items_told : {c : ℕ} {ps rest : List Piece} {xs : List Node} → n.IsItems c ps xs rest → (depth turns : ℕ) (found : List Node) → length ps < turns → Told (row (list_on c) (λ _. item (node depth)) turns found ps) (found ++ xs) rest
  items_told h depth zero found lt = absurd (omega arith)
  items_told {c = c} (n.no_item {ps = ps} o) depth (suc turns) found lt = told_end (list_on c (front ps)) found ps _ (list_over c ps o)
  items_told {c = c} {rest = rest} (n.item {n = m} {ps = ps} {behind = behind} {x = x} {xs = xs} h i) depth (suc turns) found lt =
      let less = node_less h in
      told_item (list_on c (Some (dash m c))) found (dash m c ∷ ps) behind rest (node depth m (c + 1) ps) (λ y. row (list_on c) (λ _. item (node depth)) turns (found ++ y.0 ∷ []) y.1) x xs
      (here_is c (dash m c) (Ok true) refl) (node_told h depth) (items_told i depth turns (found ++ x ∷ []) (omega (arith, less, lt)))

  value_told : {c line : ℕ} {ps rest : List Piece} {x : Node} → n.IsValue c line ps x rest → (depth : ℕ) → Told (node depth line (value_floor c (front ps)) ps) x rest
  value_told {c = c} {line = line} {rest = rest} {x = x} (n.own_list {m = m} {ps = ps} h) depth =
      subst (λ (d : ℕ). Told (node depth line d (dash m c ∷ ps)) x rest) (sym (own_floor m c ps)) (node_told h depth)
  value_told {c = c} {line = line} {rest = rest} {x = x} (n.deeper {ps = ps} d h) depth = subst (λ (d : ℕ). Told (node depth line d ps) x rest) (sym (deeper_floor c ps d)) (node_told h depth)

  pairs_told : {c : ℕ} {ps rest : List Piece} {xs : List Pair} → n.IsPairs c ps xs rest → (depth turns : ℕ) (found : List Pair) → length ps < turns → Told (row (map_on c) (pair (node depth)) turns found ps) (found ++ xs) rest
  pairs_told h depth zero found lt = absurd (omega arith)
  pairs_told {c = c} (n.no_pair {ps = ps} o) depth (suc turns) found lt = told_end (map_on c (front ps)) found ps _ (map_over c ps o)
  pairs_told {c = c} {rest = rest} (n.pair {n = m} {k = k} {ps = ps} {behind = behind} {x = x} {xs = xs} h i) depth (suc turns) found lt =
      let less = value_less h in
      told_item (map_on c (Some (key m c k))) found (key m c k ∷ ps) behind rest _ (λ y. row (map_on c) (pair (node depth)) turns (found ++ y.0 ∷ []) y.1) (k, m, x) xs
      (here_is c (key m c k) (Ok true) refl)
      (told_key (has_key found k) m _ (k, m, x) behind (told_pair k m (node depth m (value_floor c (front ps)) ps) x behind (value_told h depth)))
      (pairs_told i depth turns (found ++ (k, m, x) ∷ []) (omega (arith, less, lt)))

pub document_told : (ps : List Piece) (root : Node) → n.IsNotation ps root → Told (document ps) root []
unfolding document
document_told ps root h = by (node 64 1 0 ps) (node_told h 64)
  where
    by : (r : Answer Node) → Told r root [] → Told (r >>= λ x. ended x.0 (front x.1) x.1) root []
    by r (inl e) = inl (rw e refl)
    by r (inr f) = inr (f.0, rw f.1 refl, f.2)
