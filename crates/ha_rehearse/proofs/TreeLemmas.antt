-- What the pieces of a simple text give: maps, lists and scalars, step by step.
use Rattle.std.proofs.Common.{◌≡◌, ◌∙◌, ◌+◌, ℕ, suc, List, [], ◌∷◌, ◌++◌, Bool, true, false, refl, ap, length, map, nat_lt}
use Rattle.std.specs.Prelude.{◌&&◌, Ok}
use Rattle.std.specs.Str.{is_utf8}
use Rattle.std.proofs.lemmas.Bool.{and_parts}
use Rattle.yaml_tree.specs.declared.node.Node.{Node}
use Rattle.yaml_tree.specs.declared.piece.Piece.{Piece}
use Rattle.yaml_tree.specs.declared.node.NodeKind.TheVariants as kinds
use Rattle.yaml_tree.specs.Nodes.{Pair, has_key, listed, mapped, worded}
use Rattle.yaml_tree.specs.Pieces.{dash, key, leaf}
use Rattle.yaml_tree.specs.Layout as layout
use Rattle.yaml_tree.specs.Layout.{Answer, front, item, list, list_on, map_on, node, pair, row, rows, value_floor}
use Rattle.ha_rehearse.proofs.LineLemmas.{word_is}

abbrev pub Text : Type 0
Text = List ℕ

-- a map with these pairs
abbrev pub with_pairs : ℕ → List Pair → Node
with_pairs n pairs = record { line = n; kind = kinds.Map pairs }

-- their keys are UTF-8, and so kept as they are
abbrev pub are_utf8 : List Pair → Bool
are_utf8 [] = true
are_utf8 (p ∷ ps) = is_utf8 p.0 && are_utf8 ps

worded_is : (ps : List Pair) → are_utf8 ps ≡ true → map worded ps ≡ ps
worded_is [] h = refl
worded_is (p ∷ ps) h = let two = and_parts (is_utf8 p.0) (are_utf8 ps) h in λ i. (word_is p.0 two.0 i, p.1, p.2) ∷ worded_is ps two.1 i

pub leaf_node : (d line floor n col h : ℕ) (x : Node) (out : Bool) (ps : List Piece) → nat_lt col floor ≡ false → nat_lt (suc d) h ≡ false
    → node (suc d) line floor (leaf n col x h out ∷ ps) ≡ Ok (x, ps)
unfolding node
leaf_node d line floor n col h x out ps h1 h2 = rw (h1, h2) refl

module _ (d n col : ℕ) where
  abbrev pub pairs_from : ℕ → List Pair → List Piece → Answer (List Pair)
  pairs_from m found ps = row (map_on col) (pair (node d)) m found ps

  abbrev pub items_from : ℕ → List Node → List Piece → Answer (List Node)
  items_from m found ps = row (list_on col) (λ (f : List Node). item (node d)) m found ps

  mapped_node : (line floor : ℕ) (k : Text) (ps rest : List Piece) (pairs : List Pair) → nat_lt col floor ≡ false
      → pairs_from (suc (suc (length ps))) [] (key n col k ∷ ps) ≡ Ok (pairs, rest) → node (suc d) line floor (key n col k ∷ ps) ≡ Ok (mapped n pairs, rest)
  unfolding node layout.map rows
  mapped_node line floor k ps rest pairs h1 h2 = rw (h1, h2) refl

  pub map_node : (line floor : ℕ) (k : Text) (ps rest : List Piece) (pairs : List Pair) → nat_lt col floor ≡ false
      → pairs_from (suc (suc (length ps))) [] (key n col k ∷ ps) ≡ Ok (pairs, rest) → are_utf8 pairs ≡ true
      → node (suc d) line floor (key n col k ∷ ps) ≡ Ok (with_pairs n pairs, rest)
  map_node line floor k ps rest pairs h1 h2 h3 = mapped_node line floor k ps rest pairs h1 h2 ∙ ap (λ (qs : List Pair). Ok (with_pairs n qs, rest)) (worded_is pairs h3)

  pub list_node : (line floor : ℕ) (ps rest : List Piece) (items : List Node) → nat_lt col floor ≡ false
      → items_from (suc (suc (length ps))) [] (dash n col ∷ ps) ≡ Ok (items, rest) → node (suc d) line floor (dash n col ∷ ps) ≡ Ok (listed n items, rest)
  unfolding node list rows
  list_node line floor ps rest items h1 h2 = rw (h1, h2) refl

  pub next_pair : (m : ℕ) (found : List Pair) (k : Text) (ps rest : List Piece) (x : Node) → nat_lt col col ≡ false → has_key found k ≡ false
      → node d n (value_floor col (front ps)) ps ≡ Ok (x, rest) → pairs_from (suc m) found (key n col k ∷ ps) ≡ pairs_from m (found ++ (k, n, x) ∷ []) rest
  unfolding row pair
  next_pair m found k ps rest x h1 h2 h3 = rw (h1, h2, h3) refl

  pub next_item : (m : ℕ) (found : List Node) (ps rest : List Piece) (x : Node) → nat_lt col col ≡ false
      → node d n (col + 1) ps ≡ Ok (x, rest) → items_from (suc m) found (dash n col ∷ ps) ≡ items_from m (found ++ x ∷ []) rest
  unfolding row item
  next_item m found ps rest x h1 h2 = rw (h1, h2) refl

-- the block ends
pub no_pair : (d n col m : ℕ) (found : List Pair) (ps : List Piece) → map_on col (front ps) ≡ Ok false → pairs_from d n col (suc m) found ps ≡ Ok (found, ps)
unfolding row
no_pair d n col m found ps h = rw h refl

pub no_item : (d n col m : ℕ) (found : List Node) (ps : List Piece) → list_on col (front ps) ≡ Ok false → items_from d n col (suc m) found ps ≡ Ok (found, ps)
unfolding row
no_item d n col m found ps h = rw h refl
