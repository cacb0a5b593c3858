-- What is read is in the grammar of blocks.
use Rattle.std.proofs.Common.{◌≡◌, ℕ, zero, suc, ◌+◌, ◌≤◌, ◌<◌, Bool, true, false, ◌⊎◌, inl, inr, List, [], ◌∷◌, ◌++◌, length, Option, Result, Ok, Err, refl, sym, ap, subst, ◌∙◌, arith}
use Rattle.std.specs.Prelude.{nat_lt}
use Rattle.std.proofs.lemmas.Bool.{ltb-true, ltb-false}
use Rattle.yaml_scan.specs.declared.fault.Fault.{Fault}
use Rattle.yaml_tree.specs.declared.node.Node.{Node}
use Rattle.yaml_tree.specs.declared.piece.Piece.{Piece}
use Rattle.yaml_tree.specs.declared.piece.What.{What}
use Rattle.yaml_tree.specs.declared.piece.What.TheVariants.{Dash, Key, Leaf}
use Rattle.yaml_tree.specs.Layout.{◌>>=◌, Answer, Rule, Nodes, front, is_dash, value_floor, at_column, dash_on, key_on, list_on, map_on, row_by, row, rows, item, pair, key_pair, list, map, made, begins_with, head, leaf_of, node_by, node_at, node, ended, document}
use Rattle.yaml_tree.specs.Nodes.{Pair, null, listed, mapped, has_key}
use Rattle.yaml_scan.specs.declared.fault.Code.TheVariants.{Structure}
use Rattle.yaml_tree.specs.Grammar.{IsLeft, none, before as left_of, ListEnds, left, other, IsRows, ends, more, IsItem, item as item_is, IsPair, pair as pair_is, IsNodeOver, absent, leaf as leaf_is, list as list_is, map as map_is, IsNode, IsTree}
use Rattle.yaml_tree.specs.Grammar as grammar

pub bind_ok : {A B : Type 0} (r : Answer A) (f : A × List Piece → Answer B) (y : B × List Piece) → (r >>= f) ≡ Ok y → (x : A × List Piece) × (r ≡ Ok x) × (f x ≡ Ok y)
bind_ok (Ok x) f y e = (x, refl, e)
bind_ok (Err d) f y e = absurd cc

turn_ok : {A : Type 0} (t : Result Bool Fault) (found : List A) (ps : List Piece) (go : Answer (List A)) (y : List A × List Piece) → row_by t found ps go ≡ Ok y → ((t ≡ Ok true) × (go ≡ Ok y)) ⊎ ((t ≡ Ok false) × (found ≡ y.0) × (ps ≡ y.1))
turn_ok (Ok true) found ps go y e = inl (refl, e)
turn_ok (Ok false) found ps go y e = let p : (found, ps) ≡ y = cc in inr (refl, ap (λ (z : _). z.0) p, ap (λ (z : _). z.1) p)
turn_ok (Err f) found ps go y e = absurd cc

module _ {A : Type 0} (on : Option Piece → Result Bool Fault) (item : List A → Rule A) (Ends : List Piece → Type 0) (Item : List A → List Piece → A → List Piece → Type 0)
    (ends_so : (ps : List Piece) → on (front ps) ≡ Ok false → Ends ps)
    (item_so : (found : List A) (ps : List Piece) (x : A) (rest : List Piece) → on (front ps) ≡ Ok true → item found ps ≡ Ok (x, rest) → Item found ps x rest) where
  pub row_found : (n : ℕ) (found : List A) (ps : List Piece) (all : List A) (rest : List Piece) → row on item n found ps ≡ Ok (all, rest) → IsRows Ends Item found ps all rest
  unfolding row
  row_found zero found ps all rest e = absurd cc
  row_found (suc n) found ps all rest e =
      elim (turn_ok (on (front ps)) found ps (item found ps >>= λ x. row on item n (found ++ x.0 ∷ []) x.1) (all, rest) e) [
        | inl h ↦
            let b = bind_ok (item found ps) (λ x. row on item n (found ++ x.0 ∷ []) x.1) (all, rest) h.1 in
            more (item_so found ps b.0.0 b.0.1 h.0 b.1) (row_found n (found ++ b.0.0 ∷ []) b.0.1 all rest b.2)
        | inr h ↦ subst (λ (xs : List A). IsRows Ends Item found ps xs rest) h.1 (subst (λ (qs : List Piece). IsRows Ends Item found ps found qs) h.2 (ends (ends_so ps h.0)))
      ]

  pub rows_found : (ps : List Piece) (all : List A) (rest : List Piece) → rows on item ps ≡ Ok (all, rest) → IsRows Ends Item [] ps all rest
  unfolding rows
  rows_found ps all rest e = row_found (suc (length ps)) [] ps all rest e

-- ---- when a block ends

tested : (b : Bool) → (b ≡ true) ⊎ (b ≡ false)
tested true = inl refl
tested false = inr refl

lt_is : (a b : ℕ) → nat_lt a b ≡ true → a < b
lt_is a b e = ltb-true a b e

lt_not : (a b : ℕ) → nat_lt a b ≡ false → b ≤ a
lt_not a b e = ltb-false a b e

-- the three places of a piece
pub data Place (column : ℕ) (p : Piece) (same answer : Result Bool Fault) : Type 0 where
  is_left : p.column < column → answer ≡ Ok false → Place column p same answer
  is_right : column < p.column → answer ≡ Err (record { line = p.line; code = Structure }) → Place column p same answer
  is_there : p.column ≡ column → answer ≡ same → Place column p same answer

pub place_of : (column : ℕ) (p : Piece) (same : Result Bool Fault) → Place column p same (at_column column p same)
place_of column p same =
    elim (tested (nat_lt p.column column)) [
      | inl h ↦ is_left (lt_is p.column column h) (rw h refl)
      | inr h ↦ elim (tested (nat_lt column p.column)) [
        | inl k ↦ is_right (lt_is column p.column k) (rw (h, k) refl)
        | inr k ↦ let a = lt_not p.column column h in let b = lt_not column p.column k in is_there (omega arith) (rw (h, k) refl)
      ]
    ]

dash_off : (w : What) → dash_on w ≡ Ok false → is_dash w ≡ false
dash_off Dash e = absurd cc
dash_off (Key k) e = refl
dash_off (Leaf x h o) e = refl

dash_here : (w : What) → dash_on w ≡ Ok true → w ≡ Dash
dash_here Dash e = refl
dash_here (Key k) e = absurd cc
dash_here (Leaf x h o) e = absurd cc

key_here : (line : ℕ) (w : What) → key_on line w ≡ Ok true → (k : List ℕ) × (w ≡ Key k)
key_here line Dash e = absurd cc
key_here line (Key k) e = (k, refl)
key_here line (Leaf x h o) e = absurd cc

key_off : (line : ℕ) (w : What) → key_on line w ≡ Ok false → ⊥
key_off line Dash e = absurd cc
key_off line (Key k) e = absurd cc
key_off line (Leaf x h o) e = absurd cc

list_ends : (column : ℕ) (ps : List Piece) → list_on column (front ps) ≡ Ok false → ListEnds column ps
list_ends column [] e = left none
list_ends column (p ∷ ps) e =
    elim (place_of column p (dash_on p.what)) [
      | is_left lt s ↦ left (left_of lt)
      | is_right lt s ↦ absurd (let q = sym s ∙ e in cc)
      | is_there eq s ↦ other eq (dash_off p.what (sym s ∙ e))
    ]

map_ends : (column : ℕ) (ps : List Piece) → map_on column (front ps) ≡ Ok false → IsLeft column ps
map_ends column [] e = none
map_ends column (p ∷ ps) e =
    elim (place_of column p (key_on p.line p.what)) [
      | is_left lt s ↦ left_of lt
      | is_right lt s ↦ absurd (let q = sym s ∙ e in cc)
      | is_there eq s ↦ absurd (key_off p.line p.what (sym s ∙ e))
    ]

unfoldable pub Sound : Nodes → grammar.Nodes → Type 0
Sound node Node' = (line floor : ℕ) (ps : List Piece) (x : Node) (rest : List Piece) → node line floor ps ≡ Ok (x, rest) → Node' line floor ps x rest

module _ (node : Nodes) (Node' : grammar.Nodes) (sound : Sound node Node') where
  item_found : (column : ℕ) (found : List Node) (ps : List Piece) (x : Node) (rest : List Piece) → list_on column (front ps) ≡ Ok true → item node ps ≡ Ok (x, rest) → IsItem Node' column found ps x rest
  unfolding item Sound
  item_found column found [] x rest on e = absurd cc
  item_found column found (p ∷ ps) x rest on e =
      elim (place_of column p (dash_on p.what)) [
        | is_left lt s ↦ absurd (let q = sym s ∙ on in cc)
        | is_right lt s ↦ absurd (let q = sym s ∙ on in cc)
        | is_there eq s ↦ item_is eq (dash_here p.what (sym s ∙ on)) (sound p.line (p.column + 1) ps x rest e)
      ]

  pair_found : (column : ℕ) (found : List Pair) (ps : List Piece) (x : Pair) (rest : List Piece) → map_on column (front ps) ≡ Ok true → pair node found ps ≡ Ok (x, rest) → IsPair Node' column found ps x rest
  unfolding pair Sound
  pair_found column found [] x rest on e = absurd cc
  pair_found column found (p ∷ ps) x rest on e =
      elim (place_of column p (key_on p.line p.what)) [
        | is_left lt s ↦ absurd (let q = sym s ∙ on in cc)
        | is_right lt s ↦ absurd (let q = sym s ∙ on in cc)
        | is_there eq s ↦
            let k = key_here p.line p.what (sym s ∙ on) in
            let e' : key_pair node found p (Key k.0) ps ≡ Ok (x, rest) = ap (λ (w : What). key_pair node found p w ps) (sym k.1) ∙ e in
            elim (tested (has_key found k.0)) [
              | inl h ↦ absurd (let q = sym (rw h at e') in cc)
              | inr h ↦
                  let b = bind_ok (node p.line (value_floor p.column (front ps)) ps) (λ v. Ok ((k.0, p.line, v.0), v.1)) (x, rest) (rw h at e') in
                  let q : ((k.0, p.line, b.0.0), b.0.1) ≡ (x, rest) = cc in
                  subst (λ (y : Pair × List Piece). IsPair Node' column found (p ∷ ps) y.0 y.1) q (pair_is eq k.1 h (sound p.line (value_floor p.column (front ps)) ps b.0.0 b.0.1 b.1))
            ]
      ]

  pub list_found : (column : ℕ) (ps : List Piece) (all : List Node) (rest : List Piece) → list node column ps ≡ Ok (all, rest) → IsRows (ListEnds column) (IsItem Node' column) [] ps all rest
  unfolding list
  list_found column = rows_found (list_on column) (λ _. item node) (ListEnds column) (IsItem Node' column) (list_ends column) (item_found column)

  pub map_found : (column : ℕ) (ps : List Piece) (all : List Pair) (rest : List Piece) → map node column ps ≡ Ok (all, rest) → IsRows (IsLeft column) (IsPair Node' column) [] ps all rest
  unfolding map
  map_found column = rows_found (map_on column) (pair node) (IsLeft column) (IsPair Node' column) (map_ends column) (pair_found column)

  made_ok : {A : Type 0} (f : A → Node) (r : Answer A) (x : Node) (rest : List Piece) → made f r ≡ Ok (x, rest) → (a : A) × (r ≡ Ok (a, rest)) × (f a ≡ x)
  made_ok f (Ok r) x rest e =
      let p : (f r.0, r.1) ≡ (x, rest) = cc in
      let q : r.1 ≡ rest = ap (λ (z : Node × List Piece). z.1) p in
      (r.0, ap (λ (z : List Piece). Ok (r.0, z)) q, ap (λ (z : Node × List Piece). z.0) p)
  made_ok f (Err d) x rest e = absurd cc

  -- a node that stands at this piece
  here : (depth line floor : ℕ) (p : Piece) (ps : List Piece) (x : Node) (rest : List Piece) (w : What) → p.what ≡ w → floor ≤ p.column
      → node_by depth node p.line (begins_with p.column w) (p ∷ ps) ≡ Ok (x, rest) → IsNodeOver depth Node' line floor (p ∷ ps) x rest
  here depth line floor p ps x rest Dash is le e =
      let m = made_ok (listed p.line) (list node p.column (p ∷ ps)) x rest e in
      subst (λ (y : Node). IsNodeOver depth Node' line floor (p ∷ ps) y rest) m.2 (list_is le is (list_found p.column (p ∷ ps) m.0 rest m.1))
  here depth line floor p ps x rest (Key k) is le e =
      let m = made_ok (mapped p.line) (map node p.column (p ∷ ps)) x rest e in
      subst (λ (y : Node). IsNodeOver depth Node' line floor (p ∷ ps) y rest) m.2 (map_is le is (map_found p.column (p ∷ ps) m.0 rest m.1))
  here depth line floor p ps x rest (Leaf n height out) is le e =
      let e' : leaf_of depth p.line (Leaf n height out) ps ≡ Ok (x, rest) = ap (λ (w : What). leaf_of depth p.line w ps) (sym is) ∙ e in
      elim (tested (nat_lt depth height)) [
        | inl h ↦ absurd (let q = sym (rw h at e') in cc)
        | inr h ↦
            let q : Ok (n, ps) ≡ Ok (x, rest) = rw h at e' in
            let r : (n, ps) ≡ (x, rest) = cc in
            subst (λ (y : Node × List Piece). IsNodeOver depth Node' line floor (p ∷ ps) y.0 y.1) r (leaf_is le is (lt_not depth height h))
      ]

  over_found : (depth line floor : ℕ) (ps : List Piece) (x : Node) (rest : List Piece) → node_at depth node (head line floor (front ps)) ps ≡ Ok (x, rest) → IsNodeOver depth Node' line floor ps x rest
  over_found depth line floor [] x rest e =
      let r : (null line, []) ≡ (x, rest) = cc in
      subst (λ (y : Node × List Piece). IsNodeOver depth Node' line floor [] y.0 y.1) r (absent none)
  over_found depth line floor (p ∷ ps) x rest e =
      elim (tested (nat_lt p.column floor)) [
        | inl h ↦
            let q : Ok (null line, p ∷ ps) ≡ Ok (x, rest) = rw h at e in
            let r : (null line, p ∷ ps) ≡ (x, rest) = cc in
            subst (λ (y : Node × List Piece). IsNodeOver depth Node' line floor (p ∷ ps) y.0 y.1) r (absent (left_of (lt_is p.column floor h)))
        | inr h ↦ here depth line floor p ps x rest p.what refl (lt_not p.column floor h) (rw h at e)
      ]

pub node_found : (depth : ℕ) → Sound (node depth) (IsNode depth)
unfolding node IsNode Sound
node_found zero line floor ps x rest e = absurd cc
node_found (suc depth) line floor ps x rest e = over_found (node depth) (IsNode depth) (node_found depth) (suc depth) line floor ps x rest e

whole : (ps : List Piece) (x : Node) (rest : List Piece) (r : Node) (qs : List Piece) → IsNode 64 1 0 ps r qs → ended r (front qs) qs ≡ Ok (x, rest) → IsTree ps x
whole ps x rest r [] g h =
    let q : (r, []) ≡ (x, rest) = cc in
    let same : r ≡ x = ap (λ (z : Node × List Piece). z.0) q in
    subst (λ (y : Node). IsTree ps y) same g
whole ps x rest r (p ∷ qs) g h = absurd cc

node_sound : (depth line floor : ℕ) (ps : List Piece) (x : Node) (rest : List Piece) → node depth line floor ps ≡ Ok (x, rest) → IsNode depth line floor ps x rest
unfolding Sound
node_sound depth = node_found depth

pub document_found : (ps : List Piece) (x : Node) (rest : List Piece) → document ps ≡ Ok (x, rest) → IsTree ps x
unfolding document
document_found ps x rest e =
    let b = bind_ok (node 64 1 0 ps) (λ root. ended root.0 (front root.1) root.1) (x, rest) e in
    whole ps x rest b.0.0 b.0.1 (node_sound 64 1 0 ps b.0.0 b.0.1 b.1) b.2
