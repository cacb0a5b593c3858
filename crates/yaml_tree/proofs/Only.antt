-- What is in the grammar of blocks is read.
use Rattle.std.proofs.Common.{◌≡◌, ℕ, zero, suc, ◌+◌, ◌≤◌, ◌<◌, Bool, true, false, List, [], ◌∷◌, ◌++◌, length, Option, Some, Result, Ok, refl, ap, ◌∙◌, arith}
use Rattle.std.proofs.lemmas.Bool.{lt-ltb, le-ltb}
use Rattle.yaml_scan.specs.declared.fault.Fault.{Fault}
use Rattle.yaml_tree.specs.declared.node.Node.{Node}
use Rattle.yaml_tree.specs.declared.layout.Begins.TheVariants as begins
use Rattle.yaml_tree.specs.declared.layout.Head.{Head}
use Rattle.yaml_tree.specs.declared.piece.Piece.{Piece}
use Rattle.yaml_tree.specs.declared.piece.What.{What}
use Rattle.yaml_tree.specs.declared.piece.What.TheVariants.{Dash, Key, Leaf}
use Rattle.yaml_tree.specs.Layout.{◌>>=◌, Answer, Rule, Nodes, front, is_dash, value_floor, at_column, dash_on, key_on, list_on, map_on, row, rows, item, pair, key_pair, list, map, made, begins_with, head, leaf_of, node_at, node, ended, document}
use Rattle.yaml_tree.specs.Nodes.{Pair, listed, mapped}
use Rattle.yaml_tree.specs.Grammar.{IsLeft, none, before as left_of, ListEnds, left, other, IsRows, ends, more, IsItem, item as item_is, IsPair, pair as pair_is, IsNodeOver, absent, leaf as leaf_is, list as list_is, map as map_is, IsNode, IsTree}
use Rattle.yaml_tree.specs.Grammar as grammar

module _ {A : Type 0} (on : Option Piece → Result Bool Fault) (item : List A → Rule A) (Ends : List Piece → Type 0) (Item : List A → List Piece → A → List Piece → Type 0)
    (ends_no : (ps : List Piece) → Ends ps → on (front ps) ≡ Ok false)
    (item_yes : (found : List A) (ps : List Piece) (x : A) (rest : List Piece) → Item found ps x rest → (on (front ps) ≡ Ok true) × (item found ps ≡ Ok (x, rest)) × (length rest < length ps)) where
  pub row_read : (n : ℕ) (found : List A) (ps : List Piece) (all : List A) (rest : List Piece) → length ps < n → IsRows Ends Item found ps all rest → row on item n found ps ≡ Ok (all, rest)
  unfolding row
  row_read zero found ps all rest lt r = absurd (omega arith)
  row_read (suc n) found ps all rest lt (ends e) = rw (ends_no ps e) refl
  row_read (suc n) found ps all rest lt (more {x = x} {behind = behind} i r) =
      let y = item_yes found ps x behind i in
      rw (y.0, y.1) (row_read n (found ++ x ∷ []) behind all rest (omega (arith, y.2)) r)

  pub rows_read : (ps : List Piece) (all : List A) (rest : List Piece) → IsRows Ends Item [] ps all rest → rows on item ps ≡ Ok (all, rest)
  unfolding rows
  rows_read ps all rest r = row_read (suc (length ps)) [] ps all rest (omega arith) r

  pub rows_no_longer : (found : List A) (ps : List Piece) (all : List A) (rest : List Piece) → IsRows Ends Item found ps all rest → length rest ≤ length ps
  rows_no_longer found ps all rest (ends e) = omega arith
  rows_no_longer found ps all rest (more {x = x} {behind = behind} i r) =
      let y = item_yes found ps x behind i in
      let z = rows_no_longer (found ++ x ∷ []) behind all rest r in
      omega (arith, y.2, z)

same_column : (column : ℕ) (p : Piece) (same : Result Bool Fault) → p.column ≡ column → at_column column p same ≡ same
same_column column p same e = let a = le-ltb p.column column (omega arith) in let b = le-ltb column p.column (omega arith) in rw (a, b) refl

left_column : (column : ℕ) (p : Piece) (same : Result Bool Fault) → p.column < column → at_column column p same ≡ Ok false
left_column column p same lt = rw (lt-ltb p.column column lt) refl

dash_none : (w : What) → is_dash w ≡ false → dash_on w ≡ Ok false
dash_none Dash e = absurd cc
dash_none (Key k) e = refl
dash_none (Leaf x h o) e = refl

list_ends : (column : ℕ) (ps : List Piece) → ListEnds column ps → list_on column (front ps) ≡ Ok false
list_ends column ps (left none) = refl
list_ends column ps (left (left_of {p = p} lt)) = left_column column p (dash_on p.what) lt
list_ends column ps (other {p = p} e no_dash) = same_column column p (dash_on p.what) e ∙ dash_none p.what no_dash

map_ends : (column : ℕ) (ps : List Piece) → IsLeft column ps → map_on column (front ps) ≡ Ok false
map_ends column ps none = refl
map_ends column ps (left_of {p = p} lt) = left_column column p (key_on p.line p.what) lt

head_left : (line floor : ℕ) (p : Piece) → p.column < floor → head line floor (Some p) ≡ record { line = line; begins = begins.Null }
head_left line floor p lt = rw (lt-ltb p.column floor lt) refl

head_here : (line floor : ℕ) (p : Piece) (w : What) → floor ≤ p.column → p.what ≡ w → head line floor (Some p) ≡ record { line = p.line; begins = begins_with p.column w }
head_here line floor p w le is = rw (le-ltb p.column floor le) (ap (λ (v : What). record { line = p.line; begins = begins_with p.column v }) is)

unfoldable pub Complete : Nodes → grammar.Nodes → Type 0
Complete node Node' = (line floor : ℕ) (ps : List Piece) (x : Node) (rest : List Piece) → Node' line floor ps x rest → (node line floor ps ≡ Ok (x, rest)) × (length rest ≤ length ps)

module _ (node : Nodes) (Node' : grammar.Nodes) (complete : Complete node Node') where
  item_read : (column : ℕ) (found : List Node) (ps : List Piece) (x : Node) (rest : List Piece) → IsItem Node' column found ps x rest → (list_on column (front ps) ≡ Ok true) × (item node ps ≡ Ok (x, rest)) × (length rest < length ps)
  unfolding item Complete
  item_read column found ps x rest (item_is {p = p} {ps = qs} at is n) =
      let c = complete p.line (p.column + 1) qs x rest n in
      (same_column column p (dash_on p.what) at ∙ ap dash_on is, c.0, omega (arith, c.1))

  pair_read : (column : ℕ) (found : List Pair) (ps : List Piece) (x : Pair) (rest : List Piece) → IsPair Node' column found ps x rest
      → (map_on column (front ps) ≡ Ok true) × (pair node found ps ≡ Ok (x, rest)) × (length rest < length ps)
  unfolding pair Complete
  pair_read column found ps y rest (pair_is {p = p} {k = k} {ps = qs} {x = x} at is new n) =
      let c = complete p.line (value_floor p.column (front qs)) qs x rest n in
      (same_column column p (key_on p.line p.what) at ∙ ap (key_on p.line) is, ap (λ (w : What). key_pair node found p w qs) is ∙ rw (new, c.0) refl, omega (arith, c.1))

  over_read : (depth line floor : ℕ) (ps : List Piece) (x : Node) (rest : List Piece) → IsNodeOver depth Node' line floor ps x rest → (node_at depth node (head line floor (front ps)) ps ≡ Ok (x, rest)) × (length rest ≤ length ps)
  unfolding list map
  over_read depth line floor ps x rest (absent none) = (refl, omega arith)
  over_read depth line floor ps x rest (absent (left_of {p = p} {ps = qs} lt)) = (ap (λ (h : Head). node_at depth node h (p ∷ qs)) (head_left line floor p lt), omega arith)
  over_read depth line floor ps x rest (leaf_is {p = p} {ps = qs} {x = y} {height = height} {out = out} le is h) =
      (ap (λ (h : Head). node_at depth node h (p ∷ qs)) (head_here line floor p (Leaf y height out) le is) ∙ ap (λ (w : What). leaf_of depth p.line w qs) is ∙ rw (le-ltb depth height h) refl, omega arith)
  over_read depth line floor ps x rest (list_is {p = p} {ps = qs} {items = items} le is r) = (
    ap (λ (h : Head). node_at depth node h (p ∷ qs)) (head_here line floor p Dash le is)
        ∙ ap (made (listed p.line)) (rows_read (list_on p.column) (λ _. item node) (ListEnds p.column) (IsItem Node' p.column) (list_ends p.column) (item_read p.column) (p ∷ qs) items rest r),
    rows_no_longer (list_on p.column) (λ _. item node) (ListEnds p.column) (IsItem Node' p.column) (list_ends p.column) (item_read p.column) [] (p ∷ qs) items rest r,
  )
  over_read depth line floor ps x rest (map_is {p = p} {k = k} {ps = qs} {pairs = pairs} le is r) = (
    ap (λ (h : Head). node_at depth node h (p ∷ qs)) (head_here line floor p (Key k) le is)
        ∙ ap (made (mapped p.line)) (rows_read (map_on p.column) (pair node) (IsLeft p.column) (IsPair Node' p.column) (map_ends p.column) (pair_read p.column) (p ∷ qs) pairs rest r),
    rows_no_longer (map_on p.column) (pair node) (IsLeft p.column) (IsPair Node' p.column) (map_ends p.column) (pair_read p.column) [] (p ∷ qs) pairs rest r,
  )

node_read : (depth : ℕ) → Complete (node depth) (IsNode depth)
unfolding node IsNode Complete
node_read zero line floor ps x rest n = absurd n
node_read (suc depth) line floor ps x rest n = over_read (node depth) (IsNode depth) (node_read depth) (suc depth) line floor ps x rest n

node_complete : (depth line floor : ℕ) (ps : List Piece) (x : Node) (rest : List Piece) → IsNode depth line floor ps x rest → node depth line floor ps ≡ Ok (x, rest)
unfolding Complete
node_complete depth line floor ps x rest n = (node_read depth line floor ps x rest n).0

pub document_read : (ps : List Piece) (x : Node) → IsTree ps x → document ps ≡ Ok (x, [])
unfolding document
document_read ps x t = ap (λ (r : Answer Node). r >>= λ root. ended root.0 (front root.1) root.1) (node_complete 64 1 0 ps x [] t)
