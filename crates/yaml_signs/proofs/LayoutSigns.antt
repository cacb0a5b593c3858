-- The tree of pieces is refused with C3 only at a piece that is marked as left out.
use Rattle.std.proofs.Common.{◌≡◌, ℕ, zero, suc, ◌+◌, Bool, true, false, cond, List, [], ◌∷◌, ◌++◌, length, Option, Some, Result, Ok, Err, refl, subst}
use Rattle.std.specs.Prelude.{nat_lt}
use Rattle.yaml_scan.specs.declared.fault.Fault.{Fault}
use Rattle.yaml_scan.specs.declared.fault.Code.TheVariants.{Structure, LeftOut, RepeatedKey, Limit}
use Rattle.yaml_tree.specs.declared.node.Node.{Node}
use Rattle.yaml_tree.specs.declared.piece.Piece.{Piece}
use Rattle.yaml_tree.specs.declared.piece.What.{What}
use Rattle.yaml_tree.specs.declared.piece.What.TheVariants.{Dash, Key, Leaf}
use Rattle.yaml_tree.specs.declared.layout.Begins.TheVariants as begins
use Rattle.yaml_tree.specs.Nodes.{Pair, listed, mapped, has_key}
use Rattle.yaml_tree.specs.Tree.{fault_of}
use Rattle.yaml_tree.specs.Layout.{◌>>=◌, Answer, Rule, Nodes, front, value_floor, at_column, dash_on, key_on, list_on, map_on, row_by, row, rows, item, pair, key_pair, list, map, made, begins_with, head, leaf_of, node_by, node_at, node, ended, document}
use Rattle.yaml_signs.proofs.PieceSigns.{IfOut, AllOut}

module _ (P : ℕ → Type 0) where
  -- with C3 it is refused on such a line
  abbrev pub Stands : Fault → Type 0
  Stands f = f.code ≡ LeftOut → P f.line

  abbrev pub Turn : Result Bool Fault → Type 0
  Turn (Ok b) = Unit {0}
  Turn (Err f) = Stands f

  -- what is left is marked on such lines alone
  abbrev pub Fine : {A : Type 0} → Answer A → Type 0
  Fine (Ok x) = AllOut P x.1
  Fine (Err f) = Stands f

  structure : (n : ℕ) → Structure ≡ LeftOut → P n
  structure n e = absurd cc

  repeated : (n : ℕ) → RepeatedKey ≡ LeftOut → P n
  repeated n e = absurd cc

  limit : (n : ℕ) → Limit ≡ LeftOut → P n
  limit n e = absurd cc

  fine_either : {A : Type 0} (b : Bool) (r s : Answer A) → Fine r → Fine s → Fine (cond b r s)
  fine_either true r s p q = p
  fine_either false r s p q = q

  turn_either : (b : Bool) (r s : Result Bool Fault) → Turn r → Turn s → Turn (cond b r s)
  turn_either true r s p q = p
  turn_either false r s p q = q

  fine_bind : {A B : Type 0} (r : Answer A) (f : A × List Piece → Answer B) → Fine r → ((x : A × List Piece) → AllOut P x.1 → Fine (f x)) → Fine (r >>= f)
  fine_bind (Ok x) f h go = go x h
  fine_bind (Err e) f h go = h

  fine_made : {A B : Type 0} (m : A → B) (r : Answer A) → Fine r → Fine (made m r)
  fine_made m (Ok x) h = h
  fine_made m (Err e) h = h

  turn_at : (column : ℕ) (p : Piece) (same : Result Bool Fault) → Turn same → Turn (at_column column p same)
  turn_at column p same h = turn_either (nat_lt p.column column) _ _ tt (turn_either (nat_lt column p.column) _ _ (structure p.line) h)

  turn_dash : (w : What) → Turn (dash_on w)
  turn_dash Dash = tt
  turn_dash (Key k) = tt
  turn_dash (Leaf x height out) = tt

  turn_key : (n : ℕ) (w : What) → IfOut P n w → Turn (key_on n w)
  turn_key n Dash h = structure n
  turn_key n (Key k) h = tt
  turn_key n (Leaf x height true) h = λ e. h refl
  turn_key n (Leaf x height false) h = structure n

  turn_list : (column : ℕ) (ps : List Piece) → AllOut P ps → Turn (list_on column (front ps))
  turn_list column [] h = tt
  turn_list column (p ∷ ps) h = turn_at column p (dash_on p.what) (turn_dash p.what)

  turn_map : (column : ℕ) (ps : List Piece) → AllOut P ps → Turn (map_on column (front ps))
  turn_map column [] h = tt
  turn_map column (p ∷ ps) h = turn_at column p (key_on p.line p.what) (turn_key p.line p.what h.0)

  fine_row_by : {A : Type 0} (t : Result Bool Fault) (found : List A) (ps : List Piece) (more : Answer (List A)) → Turn t → AllOut P ps → Fine more → Fine (row_by t found ps more)
  fine_row_by (Ok true) found ps more t h go = go
  fine_row_by (Ok false) found ps more t h go = h
  fine_row_by (Err f) found ps more t h go = t

  module _ {A : Type 0} (on : Option Piece → Result Bool Fault) (each : List A → Rule A) (fine_on : (ps : List Piece) → AllOut P ps → Turn (on (front ps))) (fine_each : (found : List A) (ps : List Piece) → AllOut P ps → Fine (each found ps)) where
    fine_row : (n : ℕ) (found : List A) (ps : List Piece) → AllOut P ps → Fine (row on each n found ps)
    unfolding row
    fine_row zero found ps h = structure 0
    fine_row (suc n) found ps h =
        fine_row_by (on (front ps)) found ps (each found ps >>= λ x. row on each n (found ++ x.0 ∷ []) x.1) (fine_on ps h) h
        (fine_bind (each found ps) (λ x. row on each n (found ++ x.0 ∷ []) x.1) (fine_each found ps h) (λ x h'. fine_row n (found ++ x.0 ∷ []) x.1 h'))

    fine_rows : (ps : List Piece) → AllOut P ps → Fine (rows on each ps)
    unfolding rows
    fine_rows ps h = fine_row (suc (length ps)) [] ps h

  unfoldable FineNodes : Nodes → Type 0
  FineNodes node' = (line floor : ℕ) (ps : List Piece) → AllOut P ps → Fine (node' line floor ps)

  module _ (inner : Nodes) (fine : FineNodes inner) where
    fine_item : (found : List Node) (ps : List Piece) → AllOut P ps → Fine (item inner ps)
    unfolding item FineNodes
    fine_item found [] h = tt
    fine_item found (p ∷ ps) h = fine p.line (p.column + 1) ps h.1

    fine_key_pair : (found : List Pair) (p : Piece) (w : What) (ps : List Piece) → AllOut P ps → Fine (key_pair inner found p w ps)
    unfolding FineNodes
    fine_key_pair found p Dash ps h = structure p.line
    fine_key_pair found p (Key k) ps h =
        fine_either (has_key found k) _ _ (repeated p.line)
        (fine_bind (inner p.line (value_floor p.column (front ps)) ps) (λ v. Ok ((k, p.line, v.0), v.1)) (fine p.line (value_floor p.column (front ps)) ps h) (λ x h'. h'))
    fine_key_pair found p (Leaf x height out) ps h = structure p.line

    fine_pair : (found : List Pair) (ps : List Piece) → AllOut P ps → Fine (pair inner found ps)
    unfolding pair
    fine_pair found [] h = structure 0
    fine_pair found (p ∷ ps) h = fine_key_pair found p p.what ps h.1

    fine_list : (column : ℕ) (ps : List Piece) → AllOut P ps → Fine (list inner column ps)
    unfolding list
    fine_list column = fine_rows (list_on column) (λ _. item inner) (turn_list column) fine_item

    fine_map : (column : ℕ) (ps : List Piece) → AllOut P ps → Fine (map inner column ps)
    unfolding map
    fine_map column = fine_rows (map_on column) (pair inner) (turn_map column) fine_pair

    fine_leaf_of : (depth line : ℕ) (w : What) (ps : List Piece) → AllOut P ps → Fine (leaf_of depth line w ps)
    fine_leaf_of depth line Dash ps h = structure line
    fine_leaf_of depth line (Key k) ps h = structure line
    fine_leaf_of depth line (Leaf x height out) ps h = fine_either (nat_lt depth height) _ _ (limit line) h

    fine_here : (n : ℕ) (p : Piece) (ps : List Piece) (w : What) → AllOut P (p ∷ ps) → Fine (node_by n inner p.line (begins_with p.column w) (p ∷ ps))
    fine_here n p ps Dash h = fine_made (listed p.line) (list inner p.column (p ∷ ps)) (fine_list p.column (p ∷ ps) h)
    fine_here n p ps (Key k) h = fine_made (mapped p.line) (map inner p.column (p ∷ ps)) (fine_map p.column (p ∷ ps) h)
    fine_here n p ps (Leaf x height out) h = fine_leaf_of n p.line p.what ps h.1

    fine_head : (n : ℕ) (b : Bool) (line : ℕ) (p : Piece) (ps : List Piece) → AllOut P (p ∷ ps)
        → Fine (node_at n inner (cond b (record { line = line; begins = begins.Null }) (record { line = p.line; begins = begins_with p.column p.what })) (p ∷ ps))
    fine_head n true line p ps h = h
    fine_head n false line p ps h = fine_here n p ps p.what h

    fine_node_at : (n line floor : ℕ) (ps : List Piece) → AllOut P ps → Fine (node_at n inner (head line floor (front ps)) ps)
    fine_node_at n line floor [] h = tt
    fine_node_at n line floor (p ∷ ps) h = fine_head n (nat_lt p.column floor) line p ps h

  fine_node : (depth : ℕ) → FineNodes (node depth)
  unfolding node FineNodes
  fine_node zero line floor ps h = limit (head line floor (front ps)).line
  fine_node (suc depth) line floor ps h = fine_node_at (node depth) (fine_node depth) (suc depth) line floor ps h

  fine_node_is : (depth line floor : ℕ) (ps : List Piece) → AllOut P ps → Fine (node depth line floor ps)
  unfolding FineNodes
  fine_node_is depth = fine_node depth

  fine_ended : (root : Node) (ps : List Piece) → AllOut P ps → Fine (ended root (front ps) ps)
  fine_ended root [] h = tt
  fine_ended root (p ∷ ps) h = structure p.line

  fine_document : (ps : List Piece) → AllOut P ps → Fine (document ps)
  unfolding document
  fine_document ps h = fine_bind (node 64 1 0 ps) (λ root. ended root.0 (front root.1) root.1) (fine_node_is 64 1 0 ps h) (λ root h'. fine_ended root.0 root.1 h')

  fault_fine : (r : Answer Node) (f : Fault) → Fine r → fault_of r ≡ Some f → f.code ≡ LeftOut → P f.line
  fault_fine (Ok x) f h e c = absurd cc
  fault_fine (Err g) f h e c = let same : g ≡ f = cc in subst Stands same h c

  pub document_marked : (ps : List Piece) (f : Fault) → AllOut P ps → fault_of (document ps) ≡ Some f → f.code ≡ LeftOut → P f.line
  document_marked ps f h e c = fault_fine (document ps) f (fine_document ps h) e c
