-- Where the tree of pieces is refused for a repeated key or the depth of a node, they are in the notation up to the end of that line.
use Rattle.std.proofs.Common.{◌≡◌, ◌≢◌, ℕ, zero, suc, ◌+◌, ◌≤◌, ◌<◌, Bool, true, false, cond, ◌||◌, inl, inr, List, [], ◌∷◌, ◌++◌, length, Some, Result, Ok, Err, refl, sym, ap, subst, ◌∙◌, append_assoc, arith}
use Rattle.std.specs.Prelude.{◌==◌, ◌&&◌, nat_lt}
use Rattle.std.specs.Str.{bytes_eq}
use Rattle.std.proofs.lemmas.Bool.{ltb-true, ltb-false, eqb-true, eq-eqb}
use Rattle.std.proofs.lemmas.List.{append-nil}
use Rattle.std.proofs.lemmas.Slice.Eq.{bytes_eq-Decides}
use Rattle.yaml_scan.specs.declared.fault.Fault.{Fault}
use Rattle.yaml_scan.specs.declared.fault.Code.{Code}
use Rattle.yaml_scan.specs.declared.fault.Code.TheVariants.{Structure, LeftOut, RepeatedKey, Limit}
use Rattle.yaml_scan.specs.Codes.{number_of}
use Rattle.yaml_tree.specs.declared.node.Node.{Node}
use Rattle.yaml_tree.specs.declared.piece.Piece.{Piece}
use Rattle.yaml_tree.specs.declared.piece.What.{What}
use Rattle.yaml_tree.specs.declared.piece.What.TheVariants.{Dash, Key, Leaf}
use Rattle.yaml_tree.specs.Nodes.{Pair, null, listed, mapped, has_key}
use Rattle.yaml_tree.specs.Pieces.{dash, key, leaf as leaf_piece}
use Rattle.yaml_tree.specs.Layout.{◌>>=◌, Answer, Nodes, stop, front, is_dash, value_floor, dash_on, key_on, list_on, map_on, row_by, row, rows, item, pair, key_pair, list, map, made, begins_with, head, leaf_of, node_by, node_at, node, ended, document}
use Rattle.yaml_tree.proofs.Found.{is_left, is_right, is_there, place_of}
use Rattle.yaml_laws.specs.Indents as i
use Rattle.yaml_laws.proofs.Orders.{tested}
use Rattle.yaml_signs.proofs.LeafSigns.{IsRule}
use Rattle.yaml_rules.specs.Notation as n
use Rattle.yaml_rules.proofs.Chains.{Chained, IsSized, AllSized, IsFrom, piece_is, from_next, linked_next, no_dash_next, none_next, chain_node}

-- C4 or C12
abbrev pub IsTreeCode : Code → Type 0
IsTreeCode c = (number_of c == 4 || number_of c == 12) ≡ true

-- ---- what a code shows in a node in which so many more may stand in one another

abbrev pub ShowsBy : ℕ → Bool → ℕ → Node → Type 0
ShowsBy at true depth x = n.Has (n.Repeats at) x
ShowsBy at false depth x = n.IsWithin at depth x

abbrev pub Shows : ℕ → Code → ℕ → Node → Type 0
Shows at c depth x = ShowsBy at (number_of c == 4) depth x

in_list : (at m depth : ℕ) (b : Bool) (xs ys : List Node) (x : Node) → ShowsBy at b depth x → ShowsBy at b (suc depth) (listed m (xs ++ x ∷ ys))
in_list at m depth true xs ys x h = n.in_list xs ys h
in_list at m depth false xs ys x h = n.in_list xs ys h

in_map : (at m depth : ℕ) (b : Bool) (xs ys : List Pair) (k : List ℕ) (o : ℕ) (x : Node) → ShowsBy at b depth x → ShowsBy at b (suc depth) (mapped m (xs ++ (k, o, x) ∷ ys))
in_map at m depth true xs ys k o x h = n.in_map xs ys k o h
in_map at m depth false xs ys k o x h = n.in_map xs ys k o h

-- ---- keys that stand already

abbrev pub Earlier : List ℕ → List Pair → Type 0
Earlier k found = (ps qs : List Pair) × (first : ℕ) × (x : Node) × (found ≡ ps ++ (k, first, x) ∷ qs)

earlier_by : (p : Pair) (ps : List Pair) (k : List ℕ) (a b : Bool) → bytes_eq p.0 k ≡ a → (b ≡ true → Earlier k ps) → (a || b) ≡ true → Earlier k (p ∷ ps)
earlier_by p ps k true b h more e = let same : p.0 ≡ k = (bytes_eq-Decides p.0 k).0 h in ([], ps, p.1, p.2, ap (λ (l : List ℕ). (l, p.1, p.2) ∷ ps) same)
earlier_by p ps k false b h more e = let r = more e in (p ∷ r.0, r.1, r.2, r.3, ap (λ (qs : List Pair). p ∷ qs) r.4)

pub earlier : (k : List ℕ) (found : List Pair) → has_key found k ≡ true → Earlier k found
earlier k [] e = absurd cc
earlier k (p ∷ ps) e = earlier_by p ps k (bytes_eq p.0 k) (has_key ps k) refl (earlier k ps) e

again : (at m : ℕ) (found : List Pair) (k : List ℕ) (x : Node) → Earlier k found → n.Has (n.Repeats at) (mapped m (found ++ (k, at, x) ∷ []))
again at m found k x e = subst (λ (ps : List Pair). n.Has (n.Repeats at) (mapped m (ps ++ (k, at, x) ∷ []))) (sym e.4) (n.itself (n.again e.0 e.1 [] k e.2 e.3 x))

module _ (at : ℕ) where
  -- pieces whose flow is as high as it says, and of which those on the line stand in one another
  abbrev pub Fit : List Piece → Type 0
  Fit [] = Unit {0}
  Fit (p ∷ ps) = (p.line ≡ at → Chained p ps) × IsSized p.line p.what × Fit ps

  pub fit_sized : (ps : List Piece) → Fit ps → AllSized ps
  fit_sized [] f = tt
  fit_sized (p ∷ ps) f = (f.1, fit_sized ps f.2)

  -- what the fault of a node shows, where it stands on the line
  abbrev Fails : (Node → Type 0) → ℕ → Fault → Type 0
  Fails P depth f = f.line ≡ at → IsRule f.code → (x : Node) × P x × Shows at f.code depth x

  abbrev Gives : ℕ → ℕ → ℕ → List Piece → Answer Node → Type 0
  Gives depth line floor ps (Ok x) = n.IsNode line floor ps x.0 x.1 × Fit x.1
  Gives depth line floor ps (Err f) = Fails (λ x. n.IsNode line floor ps x []) depth f

  abbrev GivesRow : {A : Type 0} → (List Piece → List A → List Piece → Type 0) → (List A → Node) → ℕ → List A → List Piece → Answer (List A) → Type 0
  GivesRow {A} Are make depth found ps (Ok x) = (xs : List A) × (x.0 ≡ found ++ xs) × Are ps xs x.1 × Fit x.1
  GivesRow {A} Are make depth found ps (Err f) = f.line ≡ at → IsRule f.code → (xs : List A) × Are ps xs [] × Shows at f.code depth (make (found ++ xs))

  -- where the holder stands on the line, so does what stands in it
  abbrev Held : ℕ → ℕ → List Piece → Type 0
  Held line floor ps = line ≡ at → IsFrom floor ps

  unfoldable pub Reads : ℕ → Nodes → Type 0
  Reads depth inner = (line floor : ℕ) (ps : List Piece) → Held line floor ps → Fit ps → Gives depth line floor ps (inner line floor ps)

  row_end : {A : Type 0} (Are : List Piece → List A → List Piece → Type 0) (make : List A → Node) (depth : ℕ) (found : List A) (ps : List Piece) → Are ps [] ps → Fit ps → GivesRow Are make depth found ps (Ok (found, ps))
  row_end Are make depth found ps are fit = ([], sym (append-nil found), are, fit)

  -- one more item, and those behind it
  row_more : {A : Type 0} (Are : List Piece → List A → List Piece → Type 0) (make : List A → Node) (depth : ℕ) (found : List A) (x : A) (ps behind : List Piece)
      → ((xs : List A) (rest : List Piece) → Are behind xs rest → Are ps (x ∷ xs) rest) → (r : Answer (List A)) → GivesRow Are make depth (found ++ x ∷ []) behind r → GivesRow Are make depth found ps r
  row_more Are make depth found x ps behind wraps (Ok y) g = (x ∷ g.0, g.1 ∙ append_assoc found (x ∷ []) g.0, wraps g.0 y.1 g.2, g.3)
  row_more Are make depth found x ps behind wraps (Err f) g = λ e c.
      (let h = g e c in
      (x ∷ h.0, wraps h.0 [] h.1, subst (λ (xs : _). Shows at f.code depth (make xs)) (append_assoc found (x ∷ []) h.0) h.2))

  module _ (depth : ℕ) (inner : Nodes) (reads : Reads depth inner) where
    inner_reads : (line floor : ℕ) (ps : List Piece) → Held line floor ps → Fit ps → Gives depth line floor ps (inner line floor ps)
    unfolding Reads
    inner_reads line floor ps h f = reads line floor ps h f

    -- ---- lists

    data ListTurn (column : ℕ) (p : Piece) (ps : List Piece) (t : Result Bool Fault) : Type 0 where
      goes : t ≡ Ok true → p ≡ dash p.line column → ListTurn column p ps t
      over : t ≡ Ok false → i.IsOver column (p ∷ ps) → ListTurn column p ps t
      wrong : {f : Fault} → t ≡ Err f → (IsRule f.code → ⊥) → ListTurn column p ps t

    list_there : (column : ℕ) (p : Piece) (ps : List Piece) → p.column ≡ column → (w : What) → p.what ≡ w → ListTurn column p ps (dash_on w)
    list_there column p ps e Dash is = goes refl (piece_is p column Dash e is)
    list_there column p ps e (Key k) is = over refl (i.other e (λ same. let q : Key k ≡ Dash = sym is ∙ same in cc))
    list_there column p ps e (Leaf x height out) is = over refl (i.other e (λ same. let q : Leaf x height out ≡ Dash = sym is ∙ same in cc))

    list_turn : (column : ℕ) (p : Piece) (ps : List Piece) → ListTurn column p ps (list_on column (Some p))
    list_turn column p ps =
        elim (place_of column p (dash_on p.what)) [
          | is_left lt e ↦ over e (i.lower lt)
          | is_right lt e ↦ wrong e (λ c. omega (arith, c))
          | is_there eq e ↦ subst (ListTurn column p ps) (sym e) (list_there column p ps eq p.what refl)
        ]

    module _ (m column : ℕ) where
      abbrev Items : List Node → List Piece → Answer (List Node) → Type 0
      Items found ps r = GivesRow (λ (qs : List Piece) (xs : List Node) (rest : List Piece). n.IsItems column qs xs rest) (listed m) (suc depth) found ps r

      list_item : (found : List Node) (line : ℕ) (ps : List Piece) (go : Node × List Piece → Answer (List Node)) → (r : Answer Node) → Gives depth line (column + 1) ps r
          → ((x : Node) (behind : List Piece) → Fit behind → Items (found ++ x ∷ []) behind (go (x, behind))) → Items found (dash line column ∷ ps) (r >>= go)
      list_item found line ps go (Ok x) g more =
          row_more (λ (qs : List Piece) (xs : List Node) (rest : List Piece). n.IsItems column qs xs rest) (listed m) (suc depth) found x.0 (dash line column ∷ ps) x.1 (λ xs rest are. n.item g.0 are) (go x) (more x.0 x.1 g.1)
      list_item found line ps go (Err f) g more = λ e c. (let h = g e c in (h.0 ∷ [], n.item h.1 (n.no_item i.nothing), in_list at m depth (number_of f.code == 4) found [] h.0 h.2))

      list_rows : (k : ℕ) (found : List Node) (ps : List Piece) → Fit ps → Items found ps (row (list_on column) (λ _. item inner) k found ps)
      unfolding row item
      list_rows zero found ps fit = λ e c. absurd (omega (arith, c))
      list_rows (suc k) found [] fit = row_end (λ (qs : List Piece) (xs : List Node) (rest : List Piece). n.IsItems column qs xs rest) (listed m) (suc depth) found [] (n.no_item i.nothing) fit
      list_rows (suc k) found (p ∷ ps) fit =
          let go : Node × List Piece → Answer (List Node) = λ x. row (list_on column) (λ _. item inner) k (found ++ x.0 ∷ []) x.1 in
          elim (list_turn column p ps) [
            | goes e is ↦
                let c : p.column ≡ column = ap (λ (q : Piece). q.column) is in
                let g : Gives depth p.line (column + 1) ps (inner p.line (p.column + 1) ps) =
                subst (λ (d : ℕ). Gives depth p.line (d + 1) ps (inner p.line (p.column + 1) ps)) c (inner_reads p.line (p.column + 1) ps (λ same. from_next p ps (fit.0 same)) fit.2) in
                subst (λ (t : Result Bool Fault). Items found (p ∷ ps) (row_by t found (p ∷ ps) (inner p.line (p.column + 1) ps >>= go))) (sym e)
                (subst (λ (q : Piece). Items found (q ∷ ps) (inner p.line (p.column + 1) ps >>= go)) (sym is)
                (list_item found p.line ps go (inner p.line (p.column + 1) ps) g (λ x behind f. list_rows k (found ++ x ∷ []) behind f)))
            | over e o ↦
                subst (λ (t : Result Bool Fault). Items found (p ∷ ps) (row_by t found (p ∷ ps) (inner p.line (p.column + 1) ps >>= go))) (sym e)
                (row_end (λ (qs : List Piece) (xs : List Node) (rest : List Piece). n.IsItems column qs xs rest) (listed m) (suc depth) found (p ∷ ps) (n.no_item o) fit)
            | wrong e c ↦
                subst (λ (t : Result Bool Fault). Items found (p ∷ ps) (row_by t found (p ∷ ps) (inner p.line (p.column + 1) ps >>= go))) (sym e) (λ same code. absurd (c code))
          ]

    -- ---- maps

    data MapTurn (column : ℕ) (p : Piece) (ps : List Piece) (t : Result Bool Fault) : Type 0 where
      goes : (k : List ℕ) → t ≡ Ok true → p.column ≡ column → p.what ≡ Key k → MapTurn column p ps t
      over : t ≡ Ok false → i.IsLeft column (p ∷ ps) → MapTurn column p ps t
      wrong : {f : Fault} → t ≡ Err f → (IsRule f.code → ⊥) → MapTurn column p ps t

    no_tree_code : (b : Bool) → IsRule (cond b LeftOut Structure) → ⊥
    no_tree_code true c = omega (arith, c)
    no_tree_code false c = omega (arith, c)

    map_there : (column : ℕ) (p : Piece) (ps : List Piece) → p.column ≡ column → (w : What) → p.what ≡ w → MapTurn column p ps (key_on p.line w)
    map_there column p ps e Dash is = wrong refl (λ c. omega (arith, c))
    map_there column p ps e (Key k) is = goes k refl e is
    map_there column p ps e (Leaf x height out) is = wrong refl (no_tree_code out)

    map_turn : (column : ℕ) (p : Piece) (ps : List Piece) → MapTurn column p ps (map_on column (Some p))
    map_turn column p ps =
        elim (place_of column p (key_on p.line p.what)) [
          | is_left lt e ↦ over e (i.lower lt)
          | is_right lt e ↦ wrong e (λ c. omega (arith, c))
          | is_there eq e ↦ subst (MapTurn column p ps) (sym e) (map_there column p ps eq p.what refl)
        ]

    -- the value of a key, as it is read
    a_dash : (w : What) → is_dash w ≡ true → w ≡ Dash
    a_dash Dash e = refl
    a_dash (Key k) e = absurd cc
    a_dash (Leaf x height out) e = absurd cc

    not_dash : (w : What) → is_dash w ≡ false → w ≢ Dash
    not_dash w e same = let q : true ≡ false = sym (ap is_dash same) ∙ e in cc

    not_at : (a b : ℕ) → (a == b) ≡ false → a ≢ b
    not_at a b e same = let q : true ≡ false = sym (eq-eqb a b same) ∙ e in cc

    value_is : (c line : ℕ) (ps : List Piece) (x : Node) (rest : List Piece) → n.IsNode line (value_floor c (front ps)) ps x rest → n.IsValue c line ps x rest
    value_is c line [] x rest h = n.deeper i.nothing h
    value_is c line (p ∷ ps) x rest h =
        elim (tested (is_dash p.what)) [
          | inr e ↦ n.deeper (i.other (not_dash p.what e)) (rw e at h)
          | inl e ↦ elim (tested (p.column == c)) [
            | inr d ↦ n.deeper (i.elsewhere (not_at p.column c d)) (rw (e, d) at h)
            | inl d ↦
                let is : p ≡ dash p.line c = piece_is p c Dash (eqb-true p.column c d) (a_dash p.what e) in
                let h' : n.IsNode line c (p ∷ ps) x rest = rw (e, d) at h in
                subst (λ (q : Piece). n.IsValue c line (q ∷ ps) x rest) (sym is) (n.own_list (subst (λ (q : Piece). n.IsNode line c (q ∷ ps) x rest) is h'))
          ]
        ]

    -- what stands behind the key on its line is its value
    held_value : (p : Piece) (ps : List Piece) → Chained p ps → IsFrom (value_floor p.column (front ps)) ps
    held_value p [] c = tt
    held_value p (q ∷ qs) c = by (is_dash q.what && q.column == p.column) (let lt = c.0.1 in omega (arith, lt))
      where
        by : (b : Bool) → p.column < q.column → cond b p.column (p.column + 1) ≤ q.column
        by true lt = omega (arith, lt)
        by false lt = omega (arith, lt)

    abbrev as_pair : List ℕ → ℕ → Node × List Piece → Answer Pair
    as_pair k line v = Ok ((k, line, v.0), v.1)

    module _ (m column : ℕ) where
      abbrev Keys : List Pair → List Piece → Answer (List Pair) → Type 0
      Keys found ps r = GivesRow (λ (qs : List Piece) (xs : List Pair) (rest : List Piece). n.IsPairs column qs xs rest) (mapped m) (suc depth) found ps r

      one_pair : (line : ℕ) (k : List ℕ) (ps behind rest : List Piece) (x : Node) (xs : List Pair) → n.IsNode line (value_floor column (front ps)) ps x behind → n.IsPairs column behind xs rest → n.IsPairs column (key line column k ∷ ps) ((k, line, x) ∷ xs) rest
      one_pair line k ps behind rest x xs h more = n.pair (value_is column line ps x behind h) more

      map_item : (found : List Pair) (line : ℕ) (k : List ℕ) (ps : List Piece) (go : Pair × List Piece → Answer (List Pair)) → (r : Answer Node) → Gives depth line (value_floor column (front ps)) ps r
          → ((x : Pair) (behind : List Piece) → Fit behind → Keys (found ++ x ∷ []) behind (go (x, behind)))
          → Keys found (key line column k ∷ ps) ((r >>= as_pair k line) >>= go)
      map_item found line k ps go (Ok x) g more =
          row_more (λ (qs : List Piece) (xs : List Pair) (rest : List Piece). n.IsPairs column qs xs rest) (mapped m) (suc depth) found (k, line, x.0) (key line column k ∷ ps) x.1
          (λ xs rest are. one_pair line k ps x.1 rest x.0 xs g.0 are) (go ((k, line, x.0), x.1)) (more (k, line, x.0) x.1 g.1)
      map_item found line k ps go (Err f) g more = λ e c.
          (let h = g e c in
          ((k, line, h.0) ∷ [], one_pair line k ps [] [] h.0 [] h.1 (n.no_pair i.no_piece), in_map at m depth (number_of f.code == 4) found [] k line h.0 h.2))

      -- a key that stands already
      map_again : (found : List Pair) (p : Piece) (k : List ℕ) (ps : List Piece) (go : Pair × List Piece → Answer (List Pair)) → p.column ≡ column → p.what ≡ Key k → has_key found k ≡ true → Fit (p ∷ ps)
          → Keys found (p ∷ ps) (stop {A = Pair × List Piece} p.line RepeatedKey >>= go)
      map_again found p k ps go e is old fit = λ same code.
          (let chain = fit.0 same in
          let v = chain_node ps p.line (p.column + 1) (from_next p ps chain) (linked_next p ps chain) (fit_sized ps fit.2) in
          let whole : n.IsPairs p.column (key p.line p.column k ∷ ps) ((k, p.line, v.0) ∷ []) [] = n.pair (n.deeper (no_dash_next p ps chain) v.1) (n.no_pair i.no_piece) in
          let whole' : n.IsPairs column (p ∷ ps) ((k, p.line, v.0) ∷ []) [] =
          subst (λ (c : ℕ). n.IsPairs c (p ∷ ps) ((k, p.line, v.0) ∷ []) []) e (subst (λ (q : Piece). n.IsPairs p.column (q ∷ ps) ((k, p.line, v.0) ∷ []) []) (sym (piece_is p p.column (Key k) refl is)) whole) in
          ((k, p.line, v.0) ∷ [], whole', subst (λ (l : ℕ). n.Has (n.Repeats at) (mapped m (found ++ (k, l, v.0) ∷ []))) (sym same) (again at m found k v.0 (earlier k found old))))

      map_rows : (k : ℕ) (found : List Pair) (ps : List Piece) → Fit ps → Keys found ps (row (map_on column) (pair inner) k found ps)
      unfolding row pair
      map_rows zero found ps fit = λ e c. absurd (omega (arith, c))
      map_rows (suc k) found [] fit = row_end (λ (qs : List Piece) (xs : List Pair) (rest : List Piece). n.IsPairs column qs xs rest) (mapped m) (suc depth) found [] (n.no_pair i.no_piece) fit
      map_rows (suc k) found (p ∷ ps) fit =
          let go : Pair × List Piece → Answer (List Pair) = λ x. row (map_on column) (pair inner) k (found ++ x.0 ∷ []) x.1 in
          elim (map_turn column p ps) [
            | goes l e c is ↦
                subst (λ (t : Result Bool Fault). Keys found (p ∷ ps) (row_by t found (p ∷ ps) (key_pair inner found p p.what ps >>= go))) (sym e)
                (subst (λ (w : What). Keys found (p ∷ ps) (key_pair inner found p w ps >>= go)) (sym is) (keyed l c is go (λ x behind f. map_rows k (found ++ x ∷ []) behind f)))
            | over e o ↦
                subst (λ (t : Result Bool Fault). Keys found (p ∷ ps) (row_by t found (p ∷ ps) (key_pair inner found p p.what ps >>= go))) (sym e)
                (row_end (λ (qs : List Piece) (xs : List Pair) (rest : List Piece). n.IsPairs column qs xs rest) (mapped m) (suc depth) found (p ∷ ps) (n.no_pair o) fit)
            | wrong e c ↦ subst (λ (t : Result Bool Fault). Keys found (p ∷ ps) (row_by t found (p ∷ ps) (key_pair inner found p p.what ps >>= go))) (sym e) (λ same code. absurd (c code))
          ]
        where
          keyed : (l : List ℕ) → p.column ≡ column → p.what ≡ Key l → (go : Pair × List Piece → Answer (List Pair)) → ((x : Pair) (behind : List Piece) → Fit behind → Keys (found ++ x ∷ []) behind (go (x, behind)))
              → Keys found (p ∷ ps) (key_pair inner found p (Key l) ps >>= go)
          keyed l c is go more =
              elim (tested (has_key found l)) [
                | inl h ↦ rw h (map_again found p l ps go c is h fit)
                | inr h ↦
                    let r : Answer Node = inner p.line (value_floor p.column (front ps)) ps in
                    let g : Gives depth p.line (value_floor column (front ps)) ps r =
                    subst (λ (d : ℕ). Gives depth p.line (value_floor d (front ps)) ps r) c (inner_reads p.line (value_floor p.column (front ps)) ps (λ same. held_value p ps (fit.0 same)) fit.2) in
                    rw h (subst (λ (q : Piece). Keys found (q ∷ ps) ((r >>= as_pair l p.line) >>= go)) (sym (piece_is p column (Key l) c is)) (map_item found p.line l ps go r g more))
              ]

    -- ---- nodes

    made_list : (line floor : ℕ) (p : Piece) (ps : List Piece) → floor ≤ p.column → p.what ≡ Dash → (r : Answer (List Node)) → Items p.line p.column [] (p ∷ ps) r → Gives (suc depth) line floor (p ∷ ps) (made (listed p.line) r)
    made_list line floor p ps le is (Ok x) g =
        let e : p ≡ dash p.line p.column = piece_is p p.column Dash refl is in (
          subst (λ (xs : List Node). n.IsNode line floor (p ∷ ps) (listed p.line xs) x.1) (sym g.1) (subst (λ (q : Piece). n.IsNode line floor (q ∷ ps) (listed p.line g.0) x.1) (sym e) (n.list le (subst (λ (q : Piece). n.IsItems p.column (q ∷ ps) g.0 x.1) e g.2))),
          g.3,
        )
    made_list line floor p ps le is (Err f) g = λ same code.
        (let e : p ≡ dash p.line p.column = piece_is p p.column Dash refl is in
        let h = g same code in
        (listed p.line h.0, subst (λ (q : Piece). n.IsNode line floor (q ∷ ps) (listed p.line h.0) []) (sym e) (n.list le (subst (λ (q : Piece). n.IsItems p.column (q ∷ ps) h.0 []) e h.1)), h.2))

    made_map : (line floor : ℕ) (p : Piece) (k : List ℕ) (ps : List Piece) → floor ≤ p.column → p.what ≡ Key k → (r : Answer (List Pair)) → Keys p.line p.column [] (p ∷ ps) r → Gives (suc depth) line floor (p ∷ ps) (made (mapped p.line) r)
    made_map line floor p k ps le is (Ok x) g =
        let e : p ≡ key p.line p.column k = piece_is p p.column (Key k) refl is in (
          subst (λ (xs : List Pair). n.IsNode line floor (p ∷ ps) (mapped p.line xs) x.1) (sym g.1) (subst (λ (q : Piece). n.IsNode line floor (q ∷ ps) (mapped p.line g.0) x.1) (sym e) (n.map le (subst (λ (q : Piece). n.IsPairs p.column (q ∷ ps) g.0 x.1) e g.2))),
          g.3,
        )
    made_map line floor p k ps le is (Err f) g = λ same code.
        (let e : p ≡ key p.line p.column k = piece_is p p.column (Key k) refl is in
        let h = g same code in
        (mapped p.line h.0, subst (λ (q : Piece). n.IsNode line floor (q ∷ ps) (mapped p.line h.0) []) (sym e) (n.map le (subst (λ (q : Piece). n.IsPairs p.column (q ∷ ps) h.0 []) e h.1)), h.2))

    node_here : (line floor : ℕ) (p : Piece) (ps : List Piece) → floor ≤ p.column → Fit (p ∷ ps) → (w : What) → p.what ≡ w → Gives (suc depth) line floor (p ∷ ps) (node_by (suc depth) inner p.line (begins_with p.column w) (p ∷ ps))
    unfolding list map rows
    node_here line floor p ps le fit Dash is = made_list line floor p ps le is (list inner p.column (p ∷ ps)) (list_rows p.line p.column (suc (length (p ∷ ps))) [] (p ∷ ps) fit)
    node_here line floor p ps le fit (Key k) is = made_map line floor p k ps le is (map inner p.column (p ∷ ps)) (map_rows p.line p.column (suc (length (p ∷ ps))) [] (p ∷ ps) fit)
    node_here line floor p ps le fit (Leaf x height out) is =
        let s : IsSized p.line (Leaf x height out) = subst (IsSized p.line) is fit.1 in
        let e : p ≡ leaf_piece p.line p.column x height out = piece_is p p.column (Leaf x height out) refl is in
        let whole : n.IsNode line floor (p ∷ ps) x ps = subst (λ (q : Piece). n.IsNode line floor (q ∷ ps) x ps) (sym e) (n.one_leaf le) in
        subst (λ (w : What). Gives (suc depth) line floor (p ∷ ps) (leaf_of (suc depth) p.line w ps)) (sym is)
        (elim (tested (nat_lt (suc depth) height)) [
          | inl h ↦ rw h (λ same code.
              (let none : ps ≡ [] = none_next p ps x height out is (fit.0 same) in
              (x, subst (λ (rest : List Piece). n.IsNode line floor (p ∷ ps) x rest) none whole, subst (λ (l : ℕ). n.IsWithin l (suc depth) x) same (s.1 (suc depth) (ltb-true (suc depth) height h)))))
          | inr h ↦ rw h (whole, fit.2)
        ])

    node_gives : (line floor : ℕ) (ps : List Piece) → Fit ps → Gives (suc depth) line floor ps (node_at (suc depth) inner (head line floor (front ps)) ps)
    node_gives line floor [] fit = (n.absent i.no_piece, tt)
    node_gives line floor (p ∷ ps) fit =
        elim (tested (nat_lt p.column floor)) [
          | inl h ↦ rw h (n.absent (i.lower (ltb-true p.column floor h)), fit)
          | inr h ↦ rw h (node_here line floor p ps (ltb-false p.column floor h) fit p.what refl)
        ]

  -- where no node may stand any more
  none_left : (line floor : ℕ) (ps : List Piece) → Held line floor ps → Fit ps → Gives zero line floor ps (stop {A = Node × List Piece} (head line floor (front ps)).line Limit)
  none_left line floor [] held fit = λ same code. (null line, n.absent i.no_piece, subst (λ (l : ℕ). n.IsWithin l 0 (null line)) same n.here)
  none_left line floor (p ∷ ps) held fit =
      elim (tested (nat_lt p.column floor)) [
        | inl h ↦ rw h (λ same code. absurd (let lt = ltb-true p.column floor h in let le = held same in omega (arith, lt, le)))
        | inr h ↦ rw h (λ same code.
            (let c = fit.0 same in
            let w = chain_node (p ∷ ps) line floor (ltb-false p.column floor h) c (fit_sized (p ∷ ps) fit) in
            (w.0, w.1, subst (λ (l : ℕ). n.IsWithin l 0 w.0) same w.2)))
      ]

  node_reads : (depth : ℕ) → Reads depth (node depth)
  unfolding node Reads
  node_reads zero line floor ps held fit = none_left line floor ps held fit
  node_reads (suc depth) line floor ps held fit = node_gives depth (node depth) (node_reads depth) line floor ps fit

  node_is : (depth line floor : ℕ) (ps : List Piece) → Held line floor ps → Fit ps → Gives depth line floor ps (node depth line floor ps)
  unfolding Reads
  node_is depth = node_reads depth

  ended_code : (root : Node) (ps : List Piece) (f : Fault) → ended root (front ps) ps ≡ Err f → IsRule f.code → ⊥
  ended_code root [] f e c = cc
  ended_code root (p ∷ ps) f e c =
      let q : record { line = p.line; code = Structure } ≡ f = cc in
      let c' : IsRule Structure = subst (λ (z : Fault). IsRule z.code) (sym q) c in
      omega (arith, c')

  -- a repeated key or the depth of a node on this line is the fault of the whole
  pub document_shows : (ps : List Piece) (f : Fault) → Fit ps → document ps ≡ Err f → f.line ≡ at → IsRule f.code → (root : Node) × n.IsNotation ps root × Shows at f.code 64 root
  unfolding document
  document_shows ps f fit e same code = by (node 64 1 0 ps) (node_is 64 1 0 ps (λ _. from_first ps) fit) e
    where
      from_first : (qs : List Piece) → IsFrom 0 qs
      from_first [] = tt
      from_first (p ∷ qs) = omega arith

      by : (r : Answer Node) → Gives 64 1 0 ps r → (r >>= λ root. ended root.0 (front root.1) root.1) ≡ Err f → (root : Node) × n.IsNotation ps root × Shows at f.code 64 root
      by (Ok x) g e = absurd (ended_code x.0 x.1 f e code)
      by (Err d) g e =
          let q : d ≡ f = cc in
          let g' : Fails (λ x. n.IsNode 1 0 ps x []) 64 f = subst (λ (z : Fault). Fails (λ x. n.IsNode 1 0 ps x []) 64 z) q g in
          g' same code

  -- where it has no fault, or such a one on this line, it is in the notation
  pub document_has : (ps : List Piece) → Fit ps → ((f : Fault) → document ps ≡ Err f → (f.line ≡ at) × IsRule f.code) → (root : Node) × n.IsNotation ps root
  unfolding document
  document_has ps fit only = by (node 64 1 0 ps) (node_is 64 1 0 ps (λ _. from_first ps) fit) only
    where
      from_first : (qs : List Piece) → IsFrom 0 qs
      from_first [] = tt
      from_first (p ∷ qs) = omega arith

      at_end : (x : Node) (rest : List Piece) → n.IsNode 1 0 ps x rest → ((f : Fault) → ended x (front rest) rest ≡ Err f → (f.line ≡ at) × IsRule f.code) → (root : Node) × n.IsNotation ps root
      at_end x [] h only = (x, h)
      at_end x (p ∷ rest) h only = absurd (let c = (only (record { line = p.line; code = Structure }) refl).1 in omega (arith, c))

      by : (r : Answer Node) → Gives 64 1 0 ps r → ((f : Fault) → (r >>= λ root. ended root.0 (front root.1) root.1) ≡ Err f → (f.line ≡ at) × IsRule f.code) → (root : Node) × n.IsNotation ps root
      by (Ok x) g only = at_end x.0 x.1 g.0 only
      by (Err d) g only = let c = only d refl in let h = g c.0 c.1 in (h.0, h.1)
