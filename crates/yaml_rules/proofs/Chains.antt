-- Pieces of one line, each of which stands in the one before it, are a node in the notation.
use Rattle.std.proofs.Common.{◌≡◌, ℕ, ◌+◌, ◌≤◌, ◌<◌, List, [], ◌∷◌, refl, sym, subst, arith}
use Rattle.yaml_tree.specs.declared.node.Node.{Node}
use Rattle.yaml_tree.specs.declared.piece.Piece.{Piece}
use Rattle.yaml_tree.specs.declared.piece.What.{What}
use Rattle.yaml_tree.specs.declared.piece.What.TheVariants.{Dash, Key, Leaf}
use Rattle.yaml_tree.specs.Nodes.{null, listed, mapped}
use Rattle.yaml_tree.specs.Pieces.{dash, key, leaf}
use Rattle.yaml_laws.specs.Indents as i
use Rattle.yaml_rules.specs.Notation.{IsNode, absent, one_leaf, list, map, no_item, item, deeper, no_pair, pair, IsWithin, here}

-- a dash or a key, behind which a node may stand on its line
abbrev pub IsOpener : What → Type 0
IsOpener Dash = Unit {0}
IsOpener (Key k) = Unit {0}
IsOpener (Leaf x height out) = ⊥

-- the second stands in the first
abbrev pub Opens : Piece → Piece → Type 0
Opens p q = IsOpener p.what × (p.column < q.column)

-- each of these stands in the one before it
abbrev pub Chained : Piece → List Piece → Type 0
Chained p [] = Unit {0}
Chained p (q ∷ qs) = Opens p q × Chained q qs

abbrev pub Linked : List Piece → Type 0
Linked [] = Unit {0}
Linked (p ∷ ps) = Chained p ps

-- the flow of a leaf has as many nodes in one another as it says, all on its line
abbrev pub IsSized : ℕ → What → Type 0
IsSized n Dash = Unit {0}
IsSized n (Key k) = Unit {0}
IsSized n (Leaf x height out) = IsWithin n 0 x × ((depth : ℕ) → depth < height → IsWithin n depth x)

abbrev pub AllSized : List Piece → Type 0
AllSized [] = Unit {0}
AllSized (p ∷ ps) = IsSized p.line p.what × AllSized ps

-- the first piece stands at this column or right of it
abbrev pub IsFrom : ℕ → List Piece → Type 0
IsFrom floor [] = Unit {0}
IsFrom floor (p ∷ ps) = floor ≤ p.column

-- the node stands on the line of the first piece
abbrev pub IsOnFirst : List Piece → Node → Type 0
IsOnFirst [] x = Unit {0}
IsOnFirst (p ∷ ps) x = IsWithin p.line 0 x

pub piece_is : (p : Piece) (c : ℕ) (w : What) → p.column ≡ c → p.what ≡ w → p ≡ record { line = p.line; column = c; what = w }
piece_is p c w e e' = rw (sym e, sym e') refl

pub from_next : (p : Piece) (ps : List Piece) → Chained p ps → IsFrom (p.column + 1) ps
from_next p [] c = tt
from_next p (q ∷ qs) c = let lt = c.0.1 in omega (arith, lt)

pub linked_next : (p : Piece) (ps : List Piece) → Chained p ps → Linked ps
linked_next p [] c = tt
linked_next p (q ∷ qs) c = c.1

-- a piece right of it is no dash at its column
pub no_dash_next : (p : Piece) (ps : List Piece) → Chained p ps → i.IsNoDash p.column ps
no_dash_next p [] c = i.nothing
no_dash_next p (q ∷ qs) c = i.elsewhere (λ same. let lt = c.0.1 in omega (arith, lt, same))

-- nothing stands in a leaf
pub none_next : (p : Piece) (ps : List Piece) (x : Node) (height : ℕ) (out : _) → p.what ≡ Leaf x height out → Chained p ps → ps ≡ []
none_next p [] x height out e c = refl
none_next p (q ∷ qs) x height out e c = absurd (subst IsOpener e c.0.0)

abbrev pub Whole : ℕ → ℕ → List Piece → Type 0
Whole line floor ps = (x : Node) × IsNode line floor ps x [] × IsOnFirst ps x

chain_piece : (line floor : ℕ) (p : Piece) (ps : List Piece) → floor ≤ p.column → Chained p ps → IsSized p.line p.what → Whole p.line (p.column + 1) ps → (w : What) → p.what ≡ w → Whole line floor (p ∷ ps)
chain_piece line floor p ps le c sized inner Dash is =
    let e : p ≡ dash p.line p.column = piece_is p p.column Dash refl is in
    (listed p.line (inner.0 ∷ []), subst (λ (q : Piece). IsNode line floor (q ∷ ps) (listed p.line (inner.0 ∷ [])) []) (sym e) (list le (item inner.1 (no_item i.nothing))), here)
chain_piece line floor p ps le c sized inner (Key k) is =
    let e : p ≡ key p.line p.column k = piece_is p p.column (Key k) refl is in (
      mapped p.line ((k, p.line, inner.0) ∷ []),
      subst (λ (q : Piece). IsNode line floor (q ∷ ps) (mapped p.line ((k, p.line, inner.0) ∷ [])) []) (sym e) (map le (pair (deeper (no_dash_next p ps c) inner.1) (no_pair i.no_piece))),
      here,
    )
chain_piece line floor p ps le c sized inner (Leaf x height out) is =
    let e : p ≡ leaf p.line p.column x height out = piece_is p p.column (Leaf x height out) refl is in
    let s : IsSized p.line (Leaf x height out) = subst (IsSized p.line) is sized in
    let none : ps ≡ [] = none_next p ps x height out is c in
    (x, subst (λ (qs : List Piece). IsNode line floor (p ∷ qs) x []) (sym none) (subst (λ (q : Piece). IsNode line floor (q ∷ []) x []) (sym e) (one_leaf le)), s.0)

pub chain_node : (ps : List Piece) (line floor : ℕ) → IsFrom floor ps → Linked ps → AllSized ps → Whole line floor ps
chain_node [] line floor from linked sized = (null line, absent i.no_piece, tt)
chain_node (p ∷ ps) line floor from linked sized =
    chain_piece line floor p ps from linked sized.0 (chain_node ps p.line (p.column + 1) (from_next p ps linked) (linked_next p ps linked) sized.1) p.what refl
