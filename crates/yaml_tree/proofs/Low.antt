-- In a tree no more than 64 nodes stand in one another, those of its leaves too.
use Rattle.std.proofs.Common.{ℕ, zero, suc, ◌+◌, ◌≤◌, Bool, true, false, cond, List, [], ◌∷◌, ◌++◌, length, take, drop, ◌-◌, Option, Some, None, Ok, Err, sym, subst, arith}
use Rattle.std.specs.Prelude.{◌==◌, ◌&&◌, not}
use Rattle.yaml_scan.specs.declared.fault.Fault.{Fault}
use Rattle.yaml_scan.specs.declared.line.RawLine.{RawLine}
use Rattle.yaml_scan.specs.Words.{sees, is_blank, is_empty, is_some, breaks, nothing_left, colon_at, trimmed, without_blanks}
use Rattle.yaml_scan.specs.Quoted.{State, opened, run}
use Rattle.yaml_tree.specs.declared.node.Node.{Node}
use Rattle.yaml_tree.specs.declared.piece.Piece.{Piece}
use Rattle.yaml_tree.specs.declared.piece.What.{What}
use Rattle.yaml_tree.specs.declared.piece.What.TheVariants.{Dash, Key, Leaf}
use Rattle.yaml_tree.specs.declared.starts.Start.{Start}
use Rattle.yaml_tree.specs.declared.starts.Start.TheVariants as starts
use Rattle.yaml_tree.specs.Nodes.{Pair}
use Rattle.yaml_tree.specs.Starts.{start, is_merge}
use Rattle.yaml_tree.specs.Leaves.{Leafs, leaf_by, colon_behind}
use Rattle.yaml_tree.specs.Pieces.{Found, floor, dash, key, leaf_found, leaf_at, value_at, keyed, plain_key, quoted_key, node_by, heads, is_spaced, line_heads, is_over, go_on, pieces}
use Rattle.yaml_tree.specs.Grammar.{Nodes, IsRows, ends, more, IsItem, item, IsPair, pair, IsNodeOver, absent, leaf, list, map, IsNode, IsTree}
use Rattle.yaml_tree.specs.Spelling.{IsPieces, none as no_line, line as a_line}

abbrev is_low : What → Type 0
is_low Dash = Unit {0}
is_low (Key k) = Unit {0}
is_low (Leaf x height out) = height ≤ 64

-- no leaf has more than 64 nodes in one another
abbrev pub Low : List Piece → Type 0
Low [] = Unit {0}
Low (p ∷ ps) = is_low p.what × Low ps

pub low_parts : (ps qs : List Piece) → Low (ps ++ qs) → Low ps × Low qs
low_parts [] qs l = (tt, l)
low_parts (p ∷ ps) qs l = let r = low_parts ps qs l.1 in ((l.0, r.0), r.1)

-- ---- a tree

low_rows : {A : Type 0} {Ends : List Piece → Type 0} {Item : List A → List Piece → A → List Piece → Type 0} {found all : List A} {ps rest : List Piece} → ((found : List A) (ps : List Piece) (x : A) (rest : List Piece) → Item found ps x rest → Low rest → Low ps)
    → IsRows Ends Item found ps all rest → Low rest → Low ps
low_rows each (ends e) l = l
low_rows each (more {found = found} {x = x} {ps = ps} {behind = behind} i r) l = each found ps x behind i (low_rows each r l)

unfoldable IsLowIn : Nodes → Type 0
IsLowIn Node' = (line floor : ℕ) (ps : List Piece) (x : Node) (rest : List Piece) → Node' line floor ps x rest → Low rest → Low ps

low_item : (Node' : Nodes) → IsLowIn Node' → (column : ℕ) (found : List Node) (ps : List Piece) (x : Node) (rest : List Piece) → IsItem Node' column found ps x rest → Low rest → Low ps
unfolding IsLowIn
low_item Node' low column found ps x rest (item {p = p} {ps = qs} at is i) l = (subst is_low (sym is) tt, low p.line (p.column + 1) qs x rest i l)

low_pair : (Node' : Nodes) → IsLowIn Node' → (column : ℕ) (found : List Pair) (ps : List Piece) (x : Pair) (rest : List Piece) → IsPair Node' column found ps x rest → Low rest → Low ps
unfolding IsLowIn
low_pair Node' low column found ps y rest (pair {p = p} {ps = qs} {x = x} at is new i) l = (subst is_low (sym is) tt, low p.line _ qs x rest i l)

low_over : (depth : ℕ) (Node' : Nodes) → depth ≤ 64 → IsLowIn Node' → (line floor : ℕ) (ps : List Piece) (x : Node) (rest : List Piece) → IsNodeOver depth Node' line floor ps x rest → Low rest → Low ps
low_over depth Node' lt low line floor ps x rest (absent a) l = l
low_over depth Node' lt low line floor ps x rest (leaf {p = p} le is h) l = let h64 : _ ≤ 64 = omega arith in (subst is_low (sym is) h64, l)
low_over depth Node' lt low line floor ps x rest (list {p = p} le is r) l = low_rows (low_item Node' low p.column) r l
low_over depth Node' lt low line floor ps x rest (map {p = p} le is r) l = low_rows (low_pair Node' low p.column) r l

low_node : (depth : ℕ) → depth ≤ 64 → IsLowIn (IsNode depth)
unfolding IsNode IsLowIn
low_node zero lt line floor ps x rest i l = absurd i
low_node (suc depth) lt line floor ps x rest i l = low_over (suc depth) (IsNode depth) lt (low_node depth (omega arith)) line floor ps x rest i l

pub low_tree : (ps : List Piece) (root : Node) → IsTree ps root → Low ps
unfolding IsLowIn
low_tree ps root i = low_node 64 (omega arith) 1 0 ps root [] i tt

-- ---- pieces, and those before them

record KeepsLow (ps : List Piece) (f : Found) : Type 0 where
  keeps : Low f.pieces → Low ps

either : {ps : List Piece} (b : Bool) (f g : Found) → KeepsLow ps f → KeepsLow ps g → KeepsLow ps (cond b f g)
either true f g p q = p
either false f g p q = q

as_they_were : (ps : List Piece) (o : Option Fault) (ls : List RawLine) → KeepsLow ps (record { pieces = ps; fault = o; rest = ls })
as_they_were ps o ls = record { keeps = λ l. l }

one_more : (ps : List Piece) (p : Piece) (o : Option Fault) (ls : List RawLine) → KeepsLow ps (record { pieces = ps ++ p ∷ []; fault = o; rest = ls })
one_more ps p o ls = record { keeps = λ l. (low_parts ps (p ∷ []) l).0 }

before_one : (ps : List Piece) (p : Piece) (f : Found) → KeepsLow (ps ++ p ∷ []) f → KeepsLow ps f
before_one ps p f h = record { keeps = λ l. (low_parts ps (p ∷ []) (h.keeps l)).0 }

low_leaf : (r : Leafs) (ps : List Piece) (n column : ℕ) (ls : List RawLine) → KeepsLow ps (leaf_found ps n column r ls)
low_leaf (Ok x) ps n column ls = one_more ps _ _ _
low_leaf (Err w) ps n column ls = one_more ps _ _ _

low_leaf_at : (ps : List Piece) (n : ℕ) (fresh : Bool) (column : ℕ) (bytes : List ℕ) (ls : List RawLine) → KeepsLow ps (leaf_at ps n fresh column bytes ls)
low_leaf_at ps n fresh column [] ls = as_they_were ps _ _
low_leaf_at ps n fresh column (b ∷ rest) ls = low_leaf (leaf_by (start b rest) (floor ps) fresh n b rest ls) ps n column ls

low_value : (ps : List Piece) (n column : ℕ) (bytes : List ℕ) (ls : List RawLine) → KeepsLow ps (value_at ps n column bytes ls)
low_value ps n column bytes ls = either (nothing_left false bytes) _ _ (as_they_were ps _ _) (low_leaf_at ps n false _ (without_blanks bytes) ls)

low_keyed : (ps : List Piece) (n column : ℕ) (text : List ℕ) (behind : ℕ) (bytes : List ℕ) (ls : List RawLine) → KeepsLow ps (keyed ps n column text behind bytes ls)
low_keyed ps n column text behind bytes ls = either (is_empty text) _ _ (one_more ps _ _ _) (before_one ps (key n column text) _ (low_value (ps ++ key n column text ∷ []) n behind bytes ls))

low_plain_key : (ps : List Piece) (n column : ℕ) (bytes : List ℕ) (c : Option ℕ) (ls : List RawLine) → KeepsLow ps (plain_key ps n column bytes c ls)
low_plain_key ps n column bytes None ls = low_leaf_at ps n true column bytes ls
low_plain_key ps n column bytes (Some at) ls =
    either (is_merge (trimmed (take at bytes))) _ _ (one_more ps _ _ _) (low_keyed ps n column (trimmed (take at bytes)) (column + at + 1) (drop (at + 1) bytes) ls)

low_quoted_key : (ps : List Piece) (n column : ℕ) (bytes : List ℕ) (s : State) (end : Option (List ℕ)) (ls : List RawLine) → KeepsLow ps (quoted_key ps n column bytes s end ls)
low_quoted_key ps n column bytes s None ls = low_leaf_at ps n true column bytes ls
low_quoted_key ps n column bytes s (Some rest) ls =
    either (not (colon_behind rest)) _ _ (low_leaf_at ps n true column bytes ls) (either (is_some s.bad) _ _ (one_more ps _ _ _) (low_keyed ps n column s.text (column + (length bytes - length rest) + 1) (drop 1 rest) ls))

low_start : (s : Start) (ps : List Piece) (n column b : ℕ) (rest : List ℕ) (ls : List RawLine) → KeepsLow ps (node_by s ps n column b rest ls)
low_start starts.InQuotes ps n column b rest ls = low_quoted_key ps n column (b ∷ rest) (run (opened b n) rest).0 (run (opened b n) rest).1 ls
low_start starts.Plain ps n column b rest ls = low_plain_key ps n column (b ∷ rest) (colon_at false 0 (b ∷ rest)) ls
low_start starts.InBrackets ps n column b rest ls = low_leaf_at ps n true column (b ∷ rest) ls
low_start starts.InLines ps n column b rest ls = low_leaf_at ps n true column (b ∷ rest) ls
low_start starts.LeftOut ps n column b rest ls = low_leaf_at ps n true column (b ∷ rest) ls
low_start starts.Refused ps n column b rest ls = low_leaf_at ps n true column (b ∷ rest) ls

low_heads : (bytes : List ℕ) (ps : List Piece) (n : ℕ) (spaced : Bool) (column : ℕ) (ls : List RawLine) → KeepsLow ps (heads ps n spaced column bytes ls)
unfolding heads
low_heads [] ps n spaced column ls = as_they_were ps _ _
low_heads (b ∷ rest) ps n spaced column ls =
    either (is_blank b) _ _ (low_heads rest ps n (b == 32) (column + 1) ls)
    (either (b == 35 && spaced) _ _ (as_they_were ps _ _)
    (either (b == 45 && breaks rest) _ _ (before_one ps (dash n column) _ (low_heads rest (ps ++ dash n column ∷ []) n false (column + 1) ls)) (low_start (start b rest) ps n column b rest ls)))

low_line : (l : RawLine) (ps : List Piece) (ls : List RawLine) → KeepsLow ps (line_heads ps l ls)
unfolding line_heads
low_line l ps ls = either (sees 9 l.content) _ _ (low_heads (without_blanks l.content) ps l.line (is_spaced true l.content) l.indent ls) (low_heads l.content ps l.line true l.indent ls)

gone_on : (ps : List Piece) (f : Found) (o : Option Fault) (go : List Piece → List RawLine → Found) → KeepsLow ps f → KeepsLow f.pieces (go f.pieces f.rest) → KeepsLow ps (go_on f o go)
gone_on ps f (Some fault) go h later = h
gone_on ps f None go h later = record { keeps = λ l. h.keeps (later.keeps l) }

low_pieces : (k : ℕ) (ps : List Piece) (ls : List RawLine) → KeepsLow ps (pieces k ps ls)
unfolding pieces
low_pieces zero ps ls = as_they_were ps _ _
low_pieces (suc k) ps [] = as_they_were ps _ _
low_pieces (suc k) ps (x ∷ ls) =
    let f : Found = line_heads ps x ls in
    either (is_over ps x) _ _ (as_they_were ps _ _) (gone_on ps f f.fault (pieces k) (low_line x ps ls) (low_pieces k f.pieces f.rest))

pub low_before : (k : ℕ) (ps : List Piece) (ls : List RawLine) → Low (pieces k ps ls).pieces → Low ps
low_before k ps ls l = (low_pieces k ps ls).keeps l

-- pieces in the grammar
pub low_all : {found all : List Piece} {ls : List RawLine} → IsPieces found ls all → Low all → Low found
low_all no_line l = l
low_all (a_line {found = found} {ps = ps} i r) l = (low_parts found ps (low_all r l)).0
