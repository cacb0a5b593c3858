-- The tree of pieces whose lines are of a kind: what is left are such pieces, and a fault stands on such a line.
use Rattle.std.proofs.Common.{◌≡◌, ℕ, zero, suc, ◌+◌, ◌≤◌, ◌<◌, Bool, true, false, cond, List, [], ◌∷◌, ◌++◌, length, Option, Some, None, Result, Ok, Err, refl, sym, subst, arith}
use Rattle.std.specs.Prelude.{nat_lt}
use Rattle.yaml_scan.specs.declared.fault.Fault.{Fault}
use Rattle.yaml_scan.specs.declared.fault.Code.TheVariants.{Structure}
use Rattle.yaml_tree.specs.declared.layout.Begins.TheVariants as begins
use Rattle.yaml_tree.specs.declared.node.Node.{Node}
use Rattle.yaml_tree.specs.declared.piece.Piece.{Piece}
use Rattle.yaml_tree.specs.declared.piece.What.{What}
use Rattle.yaml_tree.specs.declared.piece.What.TheVariants.{Dash, Key, Leaf}
use Rattle.yaml_tree.specs.declared.layout.Head.{Head}
use Rattle.yaml_tree.specs.Nodes.{Pair, listed, mapped, has_key}
use Rattle.yaml_tree.specs.Layout.{◌>>=◌, Answer, Rule, Nodes, front, value_floor, at_column, dash_on, key_on, list_on, map_on, row_by, row, rows, item, pair, key_pair, list, map, made, begins_with, head, leaf_of, node_by, node_at, node, ended, document}

abbrev pub AllOn : (ℕ → Type 0) → List Piece → Type 0
AllOn P [] = Unit {0}
AllOn P (p ∷ ps) = P p.line × AllOn P ps

-- so many pieces of such lines at most are left, or the fault stands on such a line
pub data Lies {A : Type 0} (P : ℕ → Type 0) (n : ℕ) : Answer A → Type 0 where
  leaves : {x : A × List Piece} → AllOn P x.1 → length x.1 ≤ n → Lies P n (Ok x)
  stops : {f : Fault} → P f.line → Lies P n (Err f)

pub lies_more : {A : Type 0} {P : ℕ → Type 0} {m n : ℕ} {r : Answer A} → m ≤ n → Lies P m r → Lies P n r
lies_more le (leaves a l) = leaves a (omega arith)
lies_more le (stops p) = stops p

pub lies_bind : {A B : Type 0} (P : ℕ → Type 0) (m n : ℕ) (r : Answer A) (f : A × List Piece → Answer B) → Lies P m r
    → ((x : A) (rest : List Piece) → AllOn P rest → length rest ≤ m → Lies P n (f (x, rest))) → Lies P n (r >>= f)
lies_bind P m n (Ok x) f (leaves a l) h = h x.0 x.1 a l
lies_bind P m n (Err e) f (stops p) h = stops p

pub lies_made : {A B : Type 0} {P : ℕ → Type 0} {n : ℕ} (m : A → B) (r : Answer A) → Lies P n r → Lies P n (made m r)
lies_made m (Ok x) (leaves a l) = leaves a l
lies_made m (Err e) (stops p) = stops p

pub lies_either : {A : Type 0} {P : ℕ → Type 0} {n : ℕ} (b : Bool) (r s : Answer A) → Lies P n r → Lies P n s → Lies P n (cond b r s)
lies_either true r s p q = p
lies_either false r s p q = q

-- a test at a piece fails on its line
abbrev pub OnLine : (ℕ → Type 0) → Result Bool Fault → Type 0
OnLine P (Ok b) = Unit {0}
OnLine P (Err f) = P f.line

module _ {A : Type 0} (P : ℕ → Type 0) (on : Option Piece → Result Bool Fault) (item : List A → Rule A)
    (none_ends : on None ≡ Ok false)
    (on_lies : (p : Piece) → P p.line → OnLine P (on (Some p)))
    (item_lies : (found : List A) (p : Piece) (ps : List Piece) → P p.line → AllOn P ps → Lies P (length ps) (item found (p ∷ ps))) where
  pub row_lies : (n : ℕ) (found : List A) (ps : List Piece) → length ps < n → AllOn P ps → Lies P (length ps) (row on item n found ps)
  unfolding row
  row_lies zero found ps lt a = absurd (omega arith)
  row_lies (suc n) found [] lt a = rw none_ends (leaves {x = (found, [])} tt (omega arith))
  row_lies (suc n) found (p ∷ ps) lt a =
      turned n found p ps lt a (λ x rest on_rest le. row_lies n (found ++ x ∷ []) rest (omega (arith, le, lt)) on_rest) (on (Some p)) (on_lies p a.0)
    where
      turned : (n : ℕ) (found : List A) (p : Piece) (ps : List Piece) → length (p ∷ ps) < suc n → AllOn P (p ∷ ps)
          → ((x : A) (rest : List Piece) → AllOn P rest → length rest ≤ length ps → Lies P (length rest) (row on item n (found ++ x ∷ []) rest))
          → (t : Result Bool Fault) → OnLine P t → Lies P (suc (length ps)) (row_by t found (p ∷ ps) (item found (p ∷ ps) >>= λ x. row on item n (found ++ x.0 ∷ []) x.1))
      turned n found p ps lt a go (Ok true) e = lies_bind P (length ps) (suc (length ps)) (item found (p ∷ ps)) (λ x. row on item n (found ++ x.0 ∷ []) x.1) (item_lies found p ps a.0 a.1) (λ x rest on_rest le. lies_more (omega (arith, le)) (go x rest on_rest le))
      turned n found p ps lt a go (Ok false) e = leaves a (omega arith)
      turned n found p ps lt a go (Err f) e = stops e

  pub rows_lie : (ps : List Piece) → AllOn P ps → Lies P (length ps) (rows on item ps)
  unfolding rows
  rows_lie ps a = row_lies (suc (length ps)) [] ps (omega arith) a

-- ---- nodes

-- where no node may stand any more, the holder's line is of the kind
abbrev pub Holds : (ℕ → Type 0) → ℕ → ℕ → Type 0
Holds P zero line = P line
Holds P (suc depth) line = Unit {0}

pub always_holds : (P : ℕ → Type 0) (depth line : ℕ) → P line → Holds P depth line
always_holds P zero line h = h
always_holds P (suc depth) line h = tt

unfoldable pub Lie : (ℕ → Type 0) → ℕ → Nodes → Type 0
Lie P depth node = (line floor : ℕ) (ps : List Piece) → Holds P depth line → AllOn P ps → Lies P (length ps) (node line floor ps)

at_lies : (P : ℕ → Type 0) (column : ℕ) (p : Piece) (same : Result Bool Fault) → P p.line → OnLine P same → OnLine P (at_column column p same)
at_lies P column p same h s = by (nat_lt p.column column) (nat_lt column p.column) p.line same h s
  where
    by : (a b : Bool) (line : ℕ) (same : Result Bool Fault) → P line → OnLine P same → OnLine P (cond a (Ok false) (cond b (Err (record { line = line; code = Structure })) same))
    by true b line same h s = tt
    by false true line same h s = h
    by false false line same h s = s

dash_lies : (P : ℕ → Type 0) (w : What) → OnLine P (dash_on w)
dash_lies P Dash = tt
dash_lies P (Key k) = tt
dash_lies P (Leaf x height out) = tt

key_lies : (P : ℕ → Type 0) (line : ℕ) (w : What) → P line → OnLine P (key_on line w)
key_lies P line Dash h = h
key_lies P line (Key k) h = tt
key_lies P line (Leaf x height out) h = h

pub list_on_lies : (P : ℕ → Type 0) (column : ℕ) (p : Piece) → P p.line → OnLine P (list_on column (Some p))
list_on_lies P column p h = at_lies P column p (dash_on p.what) h (dash_lies P p.what)

pub map_on_lies : (P : ℕ → Type 0) (column : ℕ) (p : Piece) → P p.line → OnLine P (map_on column (Some p))
map_on_lies P column p h = at_lies P column p (key_on p.line p.what) h (key_lies P p.line p.what h)

module _ (P : ℕ → Type 0) (depth : ℕ) (node : Nodes) (lie : Lie P depth node) where
  pub item_lies : (found : List Node) (p : Piece) (ps : List Piece) → P p.line → AllOn P ps → Lies P (length ps) (item node (p ∷ ps))
  unfolding item Lie
  item_lies found p ps h a = lie p.line (p.column + 1) ps (always_holds P depth p.line h) a

  pub pair_lies : (found : List Pair) (p : Piece) (ps : List Piece) → P p.line → AllOn P ps → Lies P (length ps) (pair node found (p ∷ ps))
  unfolding pair Lie
  pair_lies found p ps h a = by p.what
    where
      by : (w : What) → Lies P (length ps) (key_pair node found p w ps)
      by Dash = stops h
      by (Key k) = lies_either (has_key found k) _ _ (stops h) (lies_bind P (length ps) (length ps) (node p.line (value_floor p.column (front ps)) ps) (λ v. Ok ((k, p.line, v.0), v.1)) (lie p.line (value_floor p.column (front ps)) ps (always_holds P depth p.line h) a) (λ x rest on_rest le. leaves on_rest le))
      by (Leaf x height out) = stops h

  pub list_lies : (column : ℕ) (ps : List Piece) → AllOn P ps → Lies P (length ps) (list node column ps)
  unfolding list
  list_lies column = rows_lie P (list_on column) (λ _. item node) refl (list_on_lies P column) item_lies

  pub map_lies : (column : ℕ) (ps : List Piece) → AllOn P ps → Lies P (length ps) (map node column ps)
  unfolding map
  map_lies column = rows_lie P (map_on column) (pair node) refl (map_on_lies P column) pair_lies

  here_lies : (n : ℕ) (p : Piece) (ps : List Piece) → P p.line → AllOn P ps → (w : What) → p.what ≡ w → Lies P (suc (length ps)) (node_by n node p.line (begins_with p.column w) (p ∷ ps))
  here_lies n p ps h a Dash is = lies_made (listed p.line) (list node p.column (p ∷ ps)) (list_lies p.column (p ∷ ps) (h, a))
  here_lies n p ps h a (Key k) is = lies_made (mapped p.line) (map node p.column (p ∷ ps)) (map_lies p.column (p ∷ ps) (h, a))
  here_lies n p ps h a (Leaf x height out) is =
      subst (λ (w : What). Lies P (suc (length ps)) (leaf_of n p.line w ps)) (sym is) (lies_either (nat_lt n height) _ _ (stops h) (leaves a (omega arith)))

  head_lies : (n : ℕ) (b : Bool) (line : ℕ) (p : Piece) (ps : List Piece) → P p.line → AllOn P ps
      → Lies P (suc (length ps)) (node_at n node (cond b (record { line = line; begins = begins.Null }) (record { line = p.line; begins = begins_with p.column p.what })) (p ∷ ps))
  head_lies n true line p ps h a = leaves (h, a) (omega arith)
  head_lies n false line p ps h a = here_lies n p ps h a p.what refl

  pub node_at_lies : (n line floor : ℕ) (ps : List Piece) → AllOn P ps → Lies P (length ps) (node_at n node (head line floor (front ps)) ps)
  node_at_lies n line floor [] a = leaves tt (omega arith)
  node_at_lies n line floor (p ∷ ps) a = head_lies n (nat_lt p.column floor) line p ps a.0 a.1

zero_lies : (P : ℕ → Type 0) (line floor : ℕ) (ps : List Piece) → P line → AllOn P ps → P (head line floor (front ps)).line
zero_lies P line floor [] h a = h
zero_lies P line floor (p ∷ ps) h a = by (nat_lt p.column floor)
  where
    by : (b : Bool) → P (cond {A = Head} b (record { line = line; begins = begins.Null }) (record { line = p.line; begins = begins_with p.column p.what })).line
    by true = h
    by false = a.0

pub node_lies : (P : ℕ → Type 0) (depth : ℕ) → Lie P depth (node depth)
unfolding node Lie
node_lies P zero line floor ps h a = stops (zero_lies P line floor ps h a)
node_lies P (suc depth) line floor ps h a = node_at_lies P depth (node depth) (node_lies P depth) (suc depth) line floor ps a

pub node_lies_at : (P : ℕ → Type 0) (depth line floor : ℕ) (ps : List Piece) → Holds P depth line → AllOn P ps → Lies P (length ps) (node depth line floor ps)
unfolding Lie
node_lies_at P depth = node_lies P depth

pub ended_lies : (P : ℕ → Type 0) (root : Node) (ps : List Piece) → AllOn P ps → Lies P (length ps) (ended root (front ps) ps)
ended_lies P root [] a = leaves tt (omega arith)
ended_lies P root (p ∷ ps) a = stops a.0

pub document_lies : (P : ℕ → Type 0) (ps : List Piece) → AllOn P ps → Lies P (length ps) (document ps)
unfolding document
document_lies P ps a = lies_bind P (length ps) (length ps) (node 64 1 0 ps) (λ root. ended root.0 (front root.1) root.1) (node_lies_at P 64 1 0 ps tt a) (λ root rest on_rest le. lies_more le (ended_lies P root rest on_rest))
