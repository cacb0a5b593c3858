-- A code of a line alone is told at such a line, and where there is such a line the text is refused no later.
use Rattle.std.proofs.Common.{◌≡◌, ℕ, zero, suc, ◌+◌, ◌≤◌, Bool, true, false, cond, ◌||◌, ◌&&◌, ◌⊎◌, inl, inr, List, [], ◌∷◌, ◌++◌, length, Option, Some, None, Result, Ok, Err, refl, sym, ap, subst, ◌∙◌, arith}
use Rattle.std.specs.Prelude.{not, nat_lt}
use Rattle.std.specs.Str.{is_utf8}
use Rattle.yaml_scan.specs.declared.line.RawLine.{RawLine}
use Rattle.yaml_scan.specs.declared.fault.Fault.{Fault}
use Rattle.yaml_scan.specs.declared.fault.Code.{Code}
use Rattle.yaml_scan.specs.declared.fault.Code.TheVariants.{Tab, Structure, LeftOut, NotUtf8}
use Rattle.yaml_scan.specs.Codes.{number_of}
use Rattle.yaml_scan.specs.Words.{sees}
use Rattle.yaml_scan.specs.Lines.{lines, line_fault, least, tab_fault, mark_fault, utf8_fault, one_fault, or_else, fault_from, is_blank_line, is_directive, is_mark}
use Rattle.yaml_tree.specs.declared.node.Node.{Node}
use Rattle.yaml_tree.specs.declared.piece.Piece.{Piece}
use Rattle.yaml_tree.specs.declared.piece.What.{What}
use Rattle.yaml_tree.specs.declared.piece.What.TheVariants.{Dash, Key, Leaf}
use Rattle.yaml_tree.specs.declared.layout.Begins.TheVariants as begins
use Rattle.yaml_tree.specs.Tree.{tree, fault_of}
use Rattle.yaml_tree.specs.Nodes.{Pair, listed, mapped, has_key}
use Rattle.yaml_tree.specs.Layout.{◌>>=◌, Answer, Rule, Nodes, front, value_floor, at_column, dash_on, key_on, list_on, map_on, row_by, row, rows, item, pair, key_pair, list, map, made, begins_with, head, leaf_of, node_by, node_at, node, ended, document}
use Rattle.yaml_laws.specs.Refused.{NoLater, IsOneOf, IsLineOf, IsBad}
use Rattle.yaml_laws.proofs.Walked.{it}
use Rattle.yaml_laws.proofs.Codes.{IsFew, Few, few_either, FewFault, few_pieces}
use Rattle.yaml_laws.proofs.Whole.{read_lines, in_tree, told, err_told, told_err}
use Rattle.yaml_laws.proofs.Numbers.{Numbered, lines_numbered, numbered_from}
use Rattle.yaml_laws.proofs.FollowedScalars.{From}
use Rattle.yaml_laws.proofs.FollowedLines.{one_on}
use Rattle.yaml_laws.proofs.WalkedPieces.{OnFault}
use Rattle.yaml_laws.proofs.Orders.{no_later_than, least_in, least_left, least_right, least_some}
use Rattle.yaml_laws.proofs.Cuts.{one_of, some_of, no_later_each}

-- ---- the tree of pieces

few_bind : {A B : Type 0} (r : Answer A) (f : A × List Piece → Answer B) → Few it r → ((x : A × List Piece) → Few it (f x)) → Few it (r >>= f)
few_bind (Ok x) f h go = go x
few_bind (Err e) f h go = h

few_made : {A B : Type 0} (m : A → B) (r : Answer A) → Few it r → Few it (made m r)
few_made m (Ok x) h = tt
few_made m (Err e) h = h

few_at : (column : ℕ) (p : Piece) (same : Result Bool Fault) → Few it same → Few it (at_column column p same)
few_at column p same h = few_either it (nat_lt p.column column) _ _ tt (few_either it (nat_lt column p.column) _ _ refl h)

few_dash : (w : What) → Few it (dash_on w)
few_dash Dash = tt
few_dash (Key k) = tt
few_dash (Leaf x height out) = tt

few_code : (b : Bool) → IsFew (cond b LeftOut Structure)
few_code true = refl
few_code false = refl

few_key : (line : ℕ) (w : What) → Few it (key_on line w)
few_key line Dash = refl
few_key line (Key k) = tt
few_key line (Leaf x height out) = few_code out

few_list_on : (column : ℕ) (o : Option Piece) → Few it (list_on column o)
few_list_on column None = tt
few_list_on column (Some p) = few_at column p (dash_on p.what) (few_dash p.what)

few_map_on : (column : ℕ) (o : Option Piece) → Few it (map_on column o)
few_map_on column None = tt
few_map_on column (Some p) = few_at column p (key_on p.line p.what) (few_key p.line p.what)

few_row_by : {A : Type 0} (t : Result Bool Fault) (found : List A) (ps : List Piece) (more : Answer (List A)) → Few it t → Few it more → Few it (row_by t found ps more)
few_row_by (Ok true) found ps more h go = go
few_row_by (Ok false) found ps more h go = tt
few_row_by (Err f) found ps more h go = h

module _ {A : Type 0} (on : Option Piece → Result Bool Fault) (each : List A → Rule A) (few_on : (o : Option Piece) → Few it (on o)) (few_each : (found : List A) (ps : List Piece) → Few it (each found ps)) where
  few_row : (n : ℕ) (found : List A) (ps : List Piece) → Few it (row on each n found ps)
  unfolding row
  few_row zero found ps = refl
  few_row (suc n) found ps =
      few_row_by (on (front ps)) found ps (each found ps >>= λ x. row on each n (found ++ x.0 ∷ []) x.1) (few_on (front ps))
      (few_bind (each found ps) (λ x. row on each n (found ++ x.0 ∷ []) x.1) (few_each found ps) (λ x. few_row n (found ++ x.0 ∷ []) x.1))

  few_rows : (ps : List Piece) → Few it (rows on each ps)
  unfolding rows
  few_rows ps = few_row (suc (length ps)) [] ps

unfoldable FewNodes : Nodes → Type 0
FewNodes node' = (line floor : ℕ) (ps : List Piece) → Few it (node' line floor ps)

module _ (inner : Nodes) (few : FewNodes inner) where
  few_item : (found : List Node) (ps : List Piece) → Few it (item inner ps)
  unfolding item FewNodes
  few_item found [] = tt
  few_item found (p ∷ ps) = few p.line (p.column + 1) ps

  few_key_pair : (found : List Pair) (p : Piece) (w : What) (ps : List Piece) → Few it (key_pair inner found p w ps)
  unfolding FewNodes
  few_key_pair found p Dash ps = refl
  few_key_pair found p (Key k) ps =
      few_either it (has_key found k) _ _ refl (few_bind (inner p.line (value_floor p.column (front ps)) ps) (λ v. Ok ((k, p.line, v.0), v.1)) (few p.line (value_floor p.column (front ps)) ps) (λ x. tt))
  few_key_pair found p (Leaf x height out) ps = refl

  few_pair : (found : List Pair) (ps : List Piece) → Few it (pair inner found ps)
  unfolding pair
  few_pair found [] = refl
  few_pair found (p ∷ ps) = few_key_pair found p p.what ps

  few_list : (column : ℕ) (ps : List Piece) → Few it (list inner column ps)
  unfolding list
  few_list column = few_rows (list_on column) (λ _. item inner) (few_list_on column) few_item

  few_map : (column : ℕ) (ps : List Piece) → Few it (map inner column ps)
  unfolding map
  few_map column = few_rows (map_on column) (pair inner) (few_map_on column) few_pair

  few_leaf_of : (depth line : ℕ) (w : What) (ps : List Piece) → Few it (leaf_of depth line w ps)
  few_leaf_of depth line Dash ps = refl
  few_leaf_of depth line (Key k) ps = refl
  few_leaf_of depth line (Leaf x height out) ps = few_either it (nat_lt depth height) _ _ refl tt

  few_here : (n : ℕ) (p : Piece) (ps : List Piece) (w : What) → Few it (node_by n inner p.line (begins_with p.column w) (p ∷ ps))
  few_here n p ps Dash = few_made (listed p.line) (list inner p.column (p ∷ ps)) (few_list p.column (p ∷ ps))
  few_here n p ps (Key k) = few_made (mapped p.line) (map inner p.column (p ∷ ps)) (few_map p.column (p ∷ ps))
  few_here n p ps (Leaf x height out) = few_leaf_of n p.line p.what ps

  few_head : (n : ℕ) (b : Bool) (line : ℕ) (p : Piece) (ps : List Piece) → Few it (node_at n inner (cond b (record { line = line; begins = begins.Null }) (record { line = p.line; begins = begins_with p.column p.what })) (p ∷ ps))
  few_head n true line p ps = tt
  few_head n false line p ps = few_here n p ps p.what

  few_node_at : (n line floor : ℕ) (ps : List Piece) → Few it (node_at n inner (head line floor (front ps)) ps)
  few_node_at n line floor [] = tt
  few_node_at n line floor (p ∷ ps) = few_head n (nat_lt p.column floor) line p ps

few_node : (depth : ℕ) → FewNodes (node depth)
unfolding node FewNodes
few_node zero line floor ps = refl
few_node (suc depth) line floor ps = few_node_at (node depth) (few_node depth) (suc depth) line floor ps

few_node_is : (depth line floor : ℕ) (ps : List Piece) → Few it (node depth line floor ps)
unfolding FewNodes
few_node_is depth = few_node depth

few_ended : (root : Node) (ps : List Piece) → Few it (ended root (front ps) ps)
few_ended root [] = tt
few_ended root (p ∷ ps) = refl

few_document : (ps : List Piece) → Few it (document ps)
unfolding document
few_document ps = few_bind (node 64 1 0 ps) (λ root. ended root.0 (front root.1) root.1) (few_node_is 64 1 0 ps) (λ root. few_ended root.0 root.1)

few_fault_of : (r : Answer Node) → Few it r → FewFault (fault_of r)
few_fault_of (Ok x) h = tt
few_fault_of (Err f) h = h

some_is : (f g : Fault) → Some f ≡ Some g → f ≡ g
some_is f g e = cc

few_is : (o : Option Fault) (f : Fault) → FewFault o → o ≡ Some f → IsFew f.code
few_is None f h e = absurd cc
few_is (Some g) f h e = subst (λ (z : Fault). IsFew z.code) (some_is g f e) h

-- another code is that of a line alone
alone : (ls : List RawLine) (f : Fault) → told ls ≡ Some f → (IsFew f.code → ⊥) → line_fault ls ≡ Some f
alone ls f e other =
    elim (one_of ls f e) [
      | inl h ↦ h
      | inr r ↦ elim r [
        | inl h ↦ absurd (other (few_is (read_lines ls).fault f (few_pieces _ [] _) h))
        | inr h ↦ absurd (other (few_is (in_tree ls) f (few_fault_of (document (read_lines ls).pieces) (few_document (read_lines ls).pieces)) h))
      ]
    ]

-- ---- a line with such a fault

if_some : (b : Bool) (g f : Fault) → cond b (Some g) None ≡ Some f → (b ≡ true) × (g ≡ f)
if_some true g f e = (refl, some_is g f e)
if_some false g f e = absurd cc

if_none : (b : Bool) (g f : Fault) → cond b None (Some g) ≡ Some f → (b ≡ false) × (g ≡ f)
if_none true g f e = absurd cc
if_none false g f e = (refl, some_is g f e)

-- a fault of a line alone, but for its marks
one_is : (begun : Bool) (l : RawLine) (f : Fault) → one_fault begun l ≡ Some f → (f.code ≡ LeftOut) ⊎ ((l.line ≡ f.line) × IsBad f.code l)
one_is begun l f e =
    elim (least_in (tab_fault l) (least (mark_fault begun l) (utf8_fault l)) f e) [
      | inl h ↦
          let q = if_some (sees 9 l.content) _ f h in
          inr (ap (λ (z : Fault). z.line) q.1, inl (sym (ap (λ (z : Fault). z.code) q.1), q.0))
      | inr r ↦ elim (least_in (mark_fault begun l) (utf8_fault l) f r) [
        | inl h ↦ let q = if_some (is_directive l || (begun && is_mark l)) _ f h in inl (sym (ap (λ (z : Fault). z.code) q.1))
        | inr h ↦
            let q = if_none (is_utf8 l.content) _ f h in
            inr (ap (λ (z : Fault). z.line) q.1, inr (sym (ap (λ (z : Fault). z.code) q.1), q.0))
      ]
    ]

or_is : (o more : Option Fault) (f : Fault) → or_else o more ≡ Some f → (o ≡ Some f) ⊎ (more ≡ Some f)
or_is None more f e = inr e
or_is (Some g) more f e = inl e

line_is : (ls : List RawLine) (begun : Bool) (f : Fault) → fault_from begun ls ≡ Some f → (f.code ≡ LeftOut → ⊥) → (l : RawLine) × IsOneOf ls l × (l.line ≡ f.line) × IsBad f.code l
unfolding fault_from
line_is [] begun f e other = absurd cc
line_is (x ∷ ls) begun f e other =
    elim (or_is (one_fault begun x) (fault_from (begun || not (is_blank_line x)) ls) f e) [
      | inl h ↦ elim (one_is begun x f h) [
        | inl c ↦ absurd (other c)
        | inr q ↦ (x, inl refl, q.0, q.1)
      ]
      | inr h ↦ let r = line_is ls (begun || not (is_blank_line x)) f h other in (r.0, inr r.1, r.2, r.3)
    ]

no_few : (c : Code) → (c ≡ Tab) ⊎ (c ≡ NotUtf8) → (IsFew c → ⊥) × (c ≡ LeftOut → ⊥)
no_few c (inl e) =
    ((λ few. let q : false ≡ true = subst IsFew e few in cc), (λ left. let q : 1 ≡ 3 = sym (ap number_of e) ∙ ap number_of left in omega (arith, q)))
no_few c (inr e) =
    ((λ few. let q : false ≡ true = subst IsFew e few in cc), (λ left. let q : 13 ≡ 3 = sym (ap number_of e) ∙ ap number_of left in omega (arith, q)))

pub told_at : (text : List ℕ) (f : Fault) → tree text ≡ Err f → (f.code ≡ Tab) ⊎ (f.code ≡ NotUtf8) → (l : RawLine) × IsLineOf text l × (l.line ≡ f.line) × IsBad f.code l
told_at text f e c = let n = no_few f.code c in line_is (lines text) false f (alone (lines text) f (err_told (lines text) f e) n.0) n.1

-- ---- and the other way

in_from : (m : ℕ) (ls : List RawLine) (l : RawLine) → From m ls → IsOneOf ls l → m ≤ l.line
in_from m [] l h i = absurd i
in_from m (x ∷ ls) l h (inl e) = subst (λ (z : RawLine). m ≤ z.line) e h.0
in_from m (x ∷ ls) l h (inr i) = in_from m ls l h.1 i

-- a line that is bad has a fault no later than that
one_bad : (begun : Bool) (l : RawLine) (code : Code) → IsBad code l → (g : Fault) × (one_fault begun l ≡ Some g) × NoLater g (record { line = l.line; code = code })
one_bad begun l code (inl b) =
    let h : Fault = record { line = l.line; code = code } in
    let e : tab_fault l ≡ Some h = rw (b.1, b.0) refl in
    let g = least_some (tab_fault l) (least (mark_fault begun l) (utf8_fault l)) h (inl e) in
    (g.0, g.1, least_left (tab_fault l) (least (mark_fault begun l) (utf8_fault l)) g.0 h g.1 e)
one_bad begun l code (inr b) =
    let h : Fault = record { line = l.line; code = code } in
    let e : utf8_fault l ≡ Some h = rw (b.1, b.0) refl in
    let m = least_some (mark_fault begun l) (utf8_fault l) h (inr e) in
    let g = least_some (tab_fault l) (least (mark_fault begun l) (utf8_fault l)) m.0 (inr m.1) in
    (g.0, g.1, no_later_than g.0 m.0 h (least_right (tab_fault l) (least (mark_fault begun l) (utf8_fault l)) g.0 m.0 g.1 m.1) (least_right (mark_fault begun l) (utf8_fault l) m.0 h m.1 e))

line_of_fault : (begun : Bool) (l : RawLine) (g : Fault) → one_fault begun l ≡ Some g → g.line ≤ l.line
line_of_fault begun l g e = by (one_fault begun l) (one_on (λ m. m ≤ l.line) begun l (omega arith)) e
  where
    by : (o : Option Fault) → OnFault (λ m. m ≤ l.line) o → o ≡ Some g → g.line ≤ l.line
    by None h e = absurd cc
    by (Some f) h e = subst (λ (z : Fault). z.line ≤ l.line) (some_is f g e) h

bad_line : (ls : List RawLine) (n : ℕ) (begun : Bool) (l : RawLine) (code : Code) → Numbered n ls → IsOneOf ls l → IsBad code l
    → (g : Fault) × (fault_from begun ls ≡ Some g) × NoLater g (record { line = l.line; code = code })
unfolding fault_from
bad_line [] n begun l code h i b = absurd i
bad_line (x ∷ ls) n begun l code h (inl e) b =
    let g = one_bad begun x code (subst (λ (z : RawLine). IsBad code z) (sym e) b) in
    (g.0, ap (λ (o : Option Fault). or_else o (fault_from (begun || not (is_blank_line x)) ls)) g.1, subst (λ (z : RawLine). NoLater g.0 (record { line = z.line; code = code })) e g.2)
bad_line (x ∷ ls) n begun l code h (inr i) b = by (one_fault begun x) refl (bad_line ls (n + 1) (begun || not (is_blank_line x)) l code h.1 i b)
  where
    by : (o : Option Fault) → one_fault begun x ≡ o → ((g : Fault) × (fault_from (begun || not (is_blank_line x)) ls ≡ Some g) × NoLater g (record { line = l.line; code = code }))
        → (g : Fault) × (or_else o (fault_from (begun || not (is_blank_line x)) ls) ≡ Some g) × NoLater g (record { line = l.line; code = code })
    by None e more = more
    by (Some g) e more =
        let at = line_of_fault begun x g e in
        let is = h.0 in
        let behind = in_from (n + 1) ls l (numbered_from (n + 1) (n + 1) ls (omega arith) h.1) i in
        (g, refl, inl (omega (arith, at, is, behind)))

pub refused_by : (text : List ℕ) (l : RawLine) (code : Code) → IsLineOf text l → IsBad code l → (f : Fault) × (tree text ≡ Err f) × NoLater f (record { line = l.line; code = code })
refused_by text l code i b =
    let g = bad_line (lines text) 1 false l code (lines_numbered text) i b in
    let f = some_of (lines text) g.0 (inl g.1) in
    (f.0, told_err (lines text) f.0 f.1, no_later_than f.0 g.0 (record { line = l.line; code = code }) (no_later_each (lines text) f.0 g.0 f.1 (inl g.1)) g.2)
