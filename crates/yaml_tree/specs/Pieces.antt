-- The pieces of lines: dashes, keys, and scalars or flow, up to the first one that cannot be read.
use Rattle.std.specs.Prelude.{◌≡◌, ℕ, zero, suc, ◌+◌, Bool, true, false, not, ◌||◌, ◌&&◌, ◌==◌, ◌-◌, if◌then◌else◌}
use Rattle.std.specs.Prelude.{List, [], ◌∷◌, ◌++◌, length, take, drop, Option, Some, None, Result, Ok, Err}
use Rattle.yaml_scan.specs.declared.fault.Fault.{Fault}
use Rattle.yaml_scan.specs.declared.fault.Code.{Code}
use Rattle.yaml_scan.specs.declared.fault.Code.TheVariants.{Structure, LeftOut}
use Rattle.yaml_scan.specs.declared.line.RawLine.{RawLine}
use Rattle.yaml_scan.specs.Lines.{is_mark, is_directive}
use Rattle.yaml_scan.specs.Words.{sees, is_blank, is_empty, is_some, breaks, nothing_left, colon_at, trimmed, without_blanks}
use Rattle.yaml_scan.specs.Quoted.{State, opened, run}
use Rattle.yaml_tree.specs.declared.node.Node.{Node}
use Rattle.yaml_tree.specs.declared.piece.Piece.{Piece}
use Rattle.yaml_tree.specs.declared.piece.What.TheVariants.{Dash, Key, Leaf}
use Rattle.yaml_tree.specs.declared.leaf.Wrong.{Wrong}
use Rattle.yaml_tree.specs.declared.starts.Start.{Start}
use Rattle.yaml_tree.specs.declared.starts.Start.TheVariants as starts
use Rattle.yaml_tree.specs.Nodes.{null}
use Rattle.yaml_tree.specs.Starts.{start, is_merge}
use Rattle.yaml_tree.specs.Leaves.{Leafs, leaf_by, colon_behind}

-- the pieces so far, the fault that ends them if there is one, and the lines that are left
pub record Found : Type 0 where
  pub pieces : List Piece
  pub fault : Option Fault
  pub rest : List RawLine

-- What a method found and left, unless memory ran out. Behind a fault it does not matter what is left.
abbrev pub IsFound : {E : Type 0} → Found → Result (Option Fault) E → List Piece → List RawLine → Type 0
IsFound f (Ok None) pieces ls = f ≡ record { pieces = pieces; fault = None; rest = ls }
IsFound f (Ok (Some fault)) pieces ls = (f.pieces ≡ pieces) × (f.fault ≡ Some fault)
IsFound f (Err e) pieces ls = Unit {0}

abbrev pub found : List Piece → List RawLine → Found
found pieces ls = record { pieces = pieces; fault = None; rest = ls }

abbrev pub dash : ℕ → ℕ → Piece
dash n column = record { line = n; column = column; what = Dash }

abbrev pub key : ℕ → ℕ → List ℕ → Piece
key n column text = record { line = n; column = column; what = Key text }

abbrev pub leaf : ℕ → ℕ → Node → ℕ → Bool → Piece
leaf n column node height out = record { line = n; column = column; what = Leaf node height out }

-- what cannot be read stands as a null, so that its place is still judged
abbrev pub spoiled : List Piece → ℕ → ℕ → Wrong → List RawLine → Found
spoiled pieces n column w ls = record { pieces = pieces ++ leaf n column (null n) 1 w.left_out ∷ []; fault = Some w.fault; rest = ls }

-- the column right of the last piece: a scalar's further lines stand there or right of it
unfoldable pub floor : List Piece → ℕ
floor [] = 0
floor (p ∷ []) = p.column + 1
floor (p ∷ q ∷ ps) = floor (q ∷ ps)

-- ---- scalars and flow

abbrev pub leaf_found : List Piece → ℕ → ℕ → Leafs → List RawLine → Found
leaf_found pieces n column (Ok x) ls = found (pieces ++ leaf n column x.0.0 x.0.1 false ∷ []) x.1
leaf_found pieces n column (Err w) ls = spoiled pieces n column w ls

-- the scalar or flow at this column; where it is fresh a key might stand there too
abbrev pub leaf_at : List Piece → ℕ → Bool → ℕ → List ℕ → List RawLine → Found
leaf_at pieces n fresh column [] ls = found pieces ls
leaf_at pieces n fresh column (b ∷ rest) ls = leaf_found pieces n column (leaf_by (start b rest) (floor pieces) fresh n b rest ls) ls

-- ---- keys

-- behind a key's colon: nothing, or a scalar or flow
abbrev pub value_at : List Piece → ℕ → ℕ → List ℕ → List RawLine → Found
value_at pieces n column bytes ls =
    if nothing_left false bytes then found pieces ls else
    leaf_at pieces n false (column + (length bytes - length (without_blanks bytes))) (without_blanks bytes) ls

abbrev pub spoiled_key : List Piece → ℕ → ℕ → Code → Bool → List RawLine → Found
spoiled_key pieces n column code out ls = spoiled pieces n column (record { fault = record { line = n; code = code }; left_out = out }) ls

-- a key with its column, its text, and the bytes from this column on that are behind its colon
abbrev pub keyed : List Piece → ℕ → ℕ → List ℕ → ℕ → List ℕ → List RawLine → Found
keyed pieces n column text behind bytes ls =
    if is_empty text then spoiled_key pieces n column Structure false ls else
    value_at (pieces ++ key n column text ∷ []) n behind bytes ls

abbrev pub plain_key : List Piece → ℕ → ℕ → List ℕ → Option ℕ → List RawLine → Found
plain_key pieces n column bytes None ls = leaf_at pieces n true column bytes ls
plain_key pieces n column bytes (Some at) ls =
    if is_merge (trimmed (take at bytes)) then spoiled_key pieces n column LeftOut true ls else
    keyed pieces n column (trimmed (take at bytes)) (column + at + 1) (drop (at + 1) bytes) ls

-- these bytes begin with a quote; what was read behind it, and what is behind the closing one if it stands on the line
abbrev pub quoted_key : List Piece → ℕ → ℕ → List ℕ → State → Option (List ℕ) → List RawLine → Found
quoted_key pieces n column bytes s None ls = leaf_at pieces n true column bytes ls
quoted_key pieces n column bytes s (Some rest) ls =
    if not (colon_behind rest) then leaf_at pieces n true column bytes ls else
    (if is_some s.bad then spoiled_key pieces n column Structure false ls else
    keyed pieces n column s.text (column + (length bytes - length rest) + 1) (drop 1 rest) ls)

abbrev pub quoted_at : List Piece → ℕ → ℕ → List ℕ → List RawLine → Found
quoted_at pieces n column [] ls = found pieces ls
quoted_at pieces n column (b ∷ rest) ls =
    let r : State × Option (List ℕ) = run (opened b n) rest in quoted_key pieces n column (b ∷ rest) r.0 r.1 ls

abbrev pub node_by : Start → List Piece → ℕ → ℕ → ℕ → List ℕ → List RawLine → Found
node_by starts.InQuotes pieces n column b rest ls = quoted_at pieces n column (b ∷ rest) ls
node_by starts.Plain pieces n column b rest ls = plain_key pieces n column (b ∷ rest) (colon_at false 0 (b ∷ rest)) ls
node_by s pieces n column b rest ls = leaf_at pieces n true column (b ∷ rest) ls

abbrev pub node_of : List Piece → ℕ → ℕ → List ℕ → List RawLine → Found
node_of pieces n column [] ls = found pieces ls
node_of pieces n column (b ∷ rest) ls = node_by (start b rest) pieces n column b rest ls

-- ---- lines

-- what is left of the line n, from this column on; whether a space was read last
unfoldable pub heads : List Piece → ℕ → Bool → ℕ → List ℕ → List RawLine → Found
heads pieces n spaced column [] ls = found pieces ls
heads pieces n spaced column (b ∷ rest) ls =
    if is_blank b then heads pieces n (b == 32) (column + 1) rest ls else
    (if b == 35 && spaced then found pieces ls else
    (if b == 45 && breaks rest then heads (pieces ++ dash n column ∷ []) n false (column + 1) rest ls else
    node_by (start b rest) pieces n column b rest ls))

-- whether a space stands last among the blanks at the front, or before them where there are none
unfoldable pub is_spaced : Bool → List ℕ → Bool
is_spaced spaced [] = spaced
is_spaced spaced (b ∷ rest) = if is_blank b then is_spaced (b == 32) rest else spaced

-- what a line holds, from its indent on: behind a tab, which is a fault of its own, the indent is still the number of leading spaces
unfoldable pub line_heads : List Piece → RawLine → List RawLine → Found
line_heads ps l ls =
    if sees 9 l.content then heads ps l.line (is_spaced true l.content) l.indent (without_blanks l.content) ls else
    heads ps l.line true l.indent l.content ls

abbrev pub is_begun : List Piece → Bool
is_begun [] = false
is_begun (p ∷ ps) = true

-- behind the first piece a mark or directive ends them: it is a fault of its line
abbrev pub is_over : List Piece → RawLine → Bool
is_over ps l = is_begun ps && (is_mark l || is_directive l)

abbrev pub go_on : Found → Option Fault → (List Piece → List RawLine → Found) → Found
go_on f None more = more f.pieces f.rest
go_on f (Some fault) more = f

-- The pieces of all lines up to a mark or directive, in so many turns as are never needed
unfoldable pub pieces : ℕ → List Piece → List RawLine → Found
pieces zero ps ls = found ps ls
pieces (suc k) ps [] = found ps []
pieces (suc k) ps (l ∷ ls) =
    if is_over ps l then found ps (l ∷ ls) else
    let f : Found = line_heads ps l ls in
    go_on f f.fault (pieces k)

abbrev pub all_pieces : List RawLine → Found
all_pieces ls = pieces (suc (length ls)) [] ls

-- the pieces and the fault that all lines give, unless memory ran out
abbrev pub AllFound : {E : Type 0} → Found → Result (Option Fault) E → List Piece → Type 0
AllFound f (Ok fault) pieces = (f.pieces ≡ pieces) × (f.fault ≡ fault)
AllFound f (Err e) pieces = Unit {0}
