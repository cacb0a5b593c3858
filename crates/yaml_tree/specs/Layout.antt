-- The tree of a text's pieces, by their columns, with the first fault that is met.
use Rattle.std.specs.Prelude.{◌≡◌, ℕ, zero, suc, ◌+◌, Bool, true, false, ◌&&◌, ◌==◌, nat_lt, if◌then◌else◌}
use Rattle.std.specs.Prelude.{List, [], ◌∷◌, ◌++◌, length, drop, Option, Some, None, Result, Ok, Err}
use Rattle.yaml_scan.specs.declared.fault.Fault.{Fault}
use Rattle.yaml_scan.specs.declared.fault.Code.{Code}
use Rattle.yaml_scan.specs.declared.fault.Code.TheVariants.{Structure, LeftOut, RepeatedKey, Limit}
use Rattle.yaml_scan.specs.declared.fault.YamlFault.{YamlFault}
use Rattle.yaml_scan.specs.declared.fault.YamlFault.TheVariants as faults
use Rattle.yaml_tree.specs.declared.node.Node.{Node}
use Rattle.yaml_tree.specs.Nodes.{Pair, null, listed, mapped, has_key}
use Rattle.yaml_tree.specs.declared.piece.Piece.{Piece}
use Rattle.yaml_tree.specs.declared.piece.What.{What}
use Rattle.yaml_tree.specs.declared.layout.Begins.{Begins}
use Rattle.yaml_tree.specs.declared.layout.Begins.TheVariants as begins
use Rattle.yaml_tree.specs.declared.layout.Head.{Head}
use Rattle.yaml_tree.specs.declared.piece.What.TheVariants.{Dash, Key, Leaf}

-- what was read and the pieces after it, or the first fault
abbrev pub Answer : Type 0 → Type 0
Answer A = Result (A × List Piece) Fault

abbrev pub Rule : Type 0 → Type 0
Rule A = List Piece → Answer A

infixl 10 ◌>>=◌
abbrev pub ◌>>=◌ : {A B : Type 0} → Answer A → (A × List Piece → Answer B) → Answer B
(Ok x) >>= f = f x
(Err e) >>= f = Err e

abbrev pub stop : {A : Type 0} → ℕ → Code → Result A Fault
stop line code = Err (record { line = line; code = code })

-- What a method returned and left is what reading gives, unless memory ran out.
abbrev pub Gives : {A : Type 0} → Answer A → Result A YamlFault → List Piece → Type 0
Gives answer (Ok x) new = answer ≡ Ok (x, new)
Gives answer (Err faults.Memory) new = Unit {0}
Gives answer (Err (faults.Bad line code)) new = answer ≡ stop line code

abbrev pub front : List Piece → Option Piece
front [] = None
front (p ∷ ps) = Some p

abbrev pub is_dash : What → Bool
is_dash Dash = true
is_dash (Key k) = false
is_dash (Leaf node height left_out) = false

-- whether a block goes on
abbrev pub IsTurn : Result Bool Fault → Result Bool YamlFault → Type 0
IsTurn turn (Ok b) = turn ≡ Ok b
IsTurn turn (Err faults.Memory) = Unit {0}
IsTurn turn (Err (faults.Bad line code)) = turn ≡ stop line code

-- ---- does the block at this column go on?

abbrev pub dash_on : What → Result Bool Fault
dash_on Dash = Ok true
dash_on (Key k) = Ok false
dash_on (Leaf node height left_out) = Ok false

-- What begins as a thing that is left out is code 3 where only a key may stand.
abbrev pub key_on : ℕ → What → Result Bool Fault
key_on line (Key k) = Ok true
key_on line Dash = stop line Structure
key_on line (Leaf node height left_out) = stop line (if left_out then LeftOut else Structure)

abbrev pub at_column : ℕ → Piece → Result Bool Fault → Result Bool Fault
at_column column p same = if nat_lt p.column column then Ok false else (if nat_lt column p.column then stop p.line Structure else same)

abbrev pub list_on : ℕ → Option Piece → Result Bool Fault
list_on column None = Ok false
list_on column (Some p) = at_column column p (dash_on p.what)

abbrev pub map_on : ℕ → Option Piece → Result Bool Fault
map_on column None = Ok false
map_on column (Some p) = at_column column p (key_on p.line p.what)

-- ---- items, as long as the block goes on; the number bounds the turns, and is never reached

abbrev pub row_by : {A : Type 0} → Result Bool Fault → List A → List Piece → Answer (List A) → Answer (List A)
row_by (Ok true) found ps more = more
row_by (Ok false) found ps more = Ok (found, ps)
row_by (Err f) found ps more = Err f

unfoldable pub row : {A : Type 0} → (Option Piece → Result Bool Fault) → (List A → Rule A) → ℕ → List A → Rule (List A)
row on item zero found ps = stop 0 Structure
row on item (suc n) found ps = row_by (on (front ps)) found ps (item found ps >>= λ x. row on item n (found ++ x.0 ∷ []) x.1)

unfoldable pub rows : {A : Type 0} → (Option Piece → Result Bool Fault) → (List A → Rule A) → Rule (List A)
rows on item ps = row on item (suc (length ps)) [] ps

-- ---- nodes

-- the least column of a key's value: a list may stand at the key's own
abbrev pub value_floor : ℕ → Option Piece → ℕ
value_floor column None = column + 1
value_floor column (Some p) = if is_dash p.what && p.column == column then column else column + 1

-- a node whose holder's line is given, which stands at this column or right of it; else it is null
abbrev pub Nodes : Type 0
Nodes = ℕ → ℕ → Rule Node

abbrev pub item_by : Nodes → Option Piece → Rule Node
item_by node None ps = Ok (null 0, ps)
item_by node (Some p) ps = node p.line (p.column + 1) (drop 1 ps)

abbrev pub pair_of : Nodes → Piece → List ℕ → Rule Pair
pair_of node p key ps = node p.line (value_floor p.column (front ps)) ps >>= λ v. Ok ((key, p.line, v.0), v.1)

abbrev pub key_pair : Nodes → List Pair → Piece → What → Rule Pair
key_pair node found p Dash ps = stop p.line Structure
key_pair node found p (Key k) ps = if has_key found k then stop p.line RepeatedKey else pair_of node p k ps
key_pair node found p (Leaf n height left_out) ps = stop p.line Structure

abbrev pub pair_by : Nodes → List Pair → Option Piece → Rule Pair
pair_by node found None ps = stop 0 Structure
pair_by node found (Some p) ps = key_pair node found p p.what (drop 1 ps)

unfoldable pub item : Nodes → Rule Node
item node ps = item_by node (front ps) ps

unfoldable pub pair : Nodes → List Pair → Rule Pair
pair node found ps = pair_by node found (front ps) ps

unfoldable pub list : Nodes → ℕ → Rule (List Node)
list node column = rows (list_on column) (λ found. item node)

unfoldable pub map : Nodes → ℕ → Rule (List Pair)
map node column = rows (map_on column) (pair node)

abbrev pub made : {A B : Type 0} → (A → B) → Answer A → Answer B
made f answer = answer >>= λ x. Ok (f x.0, x.1)

-- how the node begins that stands here: at the next piece, where that is right of its holder; else it is null, at its holder's line
abbrev pub begins_with : ℕ → What → Begins
begins_with column Dash = begins.List column
begins_with column (Key k) = begins.Map column
begins_with column (Leaf node height left_out) = begins.Leaf

abbrev pub head : ℕ → ℕ → Option Piece → Head
head line floor None = record { line = line; begins = begins.Null }
head line floor (Some p) =
    if nat_lt p.column floor
    then record { line = line; begins = begins.Null } else record { line = p.line; begins = begins_with p.column p.what }

abbrev pub leaf_of : ℕ → ℕ → What → Rule Node
leaf_of depth line Dash ps = stop line Structure
leaf_of depth line (Key k) ps = stop line Structure
leaf_of depth line (Leaf leaf height left_out) ps = if nat_lt depth height then stop line Limit else Ok (leaf, ps)

abbrev pub leaf_by : ℕ → Option Piece → Rule Node
leaf_by depth None ps = stop 0 Structure
leaf_by depth (Some p) ps = leaf_of depth p.line p.what (drop 1 ps)

abbrev pub leaf : ℕ → Rule Node
leaf depth ps = leaf_by depth (front ps) ps

abbrev pub node_by : ℕ → Nodes → ℕ → Begins → Rule Node
node_by depth inner line begins.Null ps = Ok (null line, ps)
node_by depth inner line (begins.List column) ps = made (listed line) (list inner column ps)
node_by depth inner line (begins.Map column) ps = made (mapped line) (map inner column ps)
node_by depth inner line begins.Leaf ps = leaf depth ps

abbrev pub node_at : ℕ → Nodes → Head → Rule Node
node_at depth inner h ps = node_by depth inner h.line h.begins ps

-- at most so many nodes in one another
unfoldable pub node : ℕ → Nodes
node zero line floor ps = stop (head line floor (front ps)).line Limit
node (suc depth) line floor ps = node_at (suc depth) (node depth) (head line floor (front ps)) ps

abbrev pub ended : Node → Option Piece → List Piece → Answer Node
ended root None ps = Ok (root, ps)
ended root (Some p) ps = stop p.line Structure

unfoldable pub document : Rule Node
document ps = node 64 1 0 ps >>= λ root. ended root.0 (front root.1) root.1
