-- The grammar of flow (`yaml_tree`'s `Brackets`) without its two rules: keys of a map may stand again, and nodes stand in one another
-- as deep as they like. Words, keys and blanks are as there. A height says how many nodes stand in one another.
use Rattle.std.specs.Prelude.{◌≡◌, ℕ, suc, max, true, false, List, [], ◌∷◌}
use Rattle.yaml_scan.specs.Words.{trimmed}
use Rattle.yaml_tree.specs.declared.node.Node.{Node}
use Rattle.yaml_tree.specs.declared.starts.Start.TheVariants as starts
use Rattle.yaml_tree.specs.Nodes.{Pair, null, scalar_node, listed, mapped}
use Rattle.yaml_tree.specs.Starts.{start}
use Rattle.yaml_tree.specs.Quotes.{IsInside}
use Rattle.yaml_tree.specs.Brackets.{IsAfter, IsWord, IsKey, ends_key}

mutual
  -- a plain scalar, a quoted one on this line, a list or a map
  pub data IsFlow (n : ℕ) : List ℕ → Node → ℕ → List ℕ → Type 0 where
    plain : {b : ℕ} {bytes w rest : List ℕ} → start b bytes ≡ starts.Plain
        → IsWord false (b ∷ bytes) w rest → IsFlow n (b ∷ bytes) (scalar_node n (trimmed w) true) 1 rest
    quoted : {b : ℕ} {bytes s rest : List ℕ} → start b bytes ≡ starts.InQuotes
        → IsInside b 0 bytes [] s rest [] → IsFlow n (b ∷ bytes) (scalar_node n s false) 1 rest
    list : {height : ℕ} {bytes rest : List ℕ} {xs : List Node}
        → IsItems n bytes xs height rest → IsFlow n (91 ∷ bytes) (listed n xs) (suc height) rest
    map : {height : ℕ} {bytes rest : List ℕ} {ps : List Pair}
        → IsPairs n bytes ps height rest → IsFlow n (123 ∷ bytes) (mapped n ps) (suc height) rest

  -- items with commas between them, perhaps one behind the last, up to the closing bracket
  pub data IsItems (n : ℕ) : List ℕ → List Node → ℕ → List ℕ → Type 0 where
    no_item : {bytes rest : List ℕ} → IsAfter bytes (93 ∷ rest) → IsItems n bytes [] 0 rest
    last_item : {height : ℕ} {bytes item behind rest : List ℕ} {x : Node} → IsAfter bytes item
        → IsFlow n item x height behind → IsAfter behind (93 ∷ rest) → IsItems n bytes (x ∷ []) height rest
    more_items : {height others : ℕ} {bytes item behind more rest : List ℕ} {x : Node} {xs : List Node}
        → IsAfter bytes item → IsFlow n item x height behind → IsAfter behind (44 ∷ more)
        → IsItems n more xs others rest → IsItems n bytes (x ∷ xs) (max height others) rest

  -- a key with a value, with a colon alone, or alone; the value is null where none stands
  pub data IsPair (n : ℕ) : List ℕ → Pair → ℕ → List ℕ → Type 0 where
    key_alone : {bytes k rest : List ℕ} → IsKey bytes k rest → IsPair n bytes (k, n, null n) 1 rest
    no_value : {bytes k rest : List ℕ} → IsKey bytes k (58 ∷ rest) → ends_key rest ≡ true → IsPair n bytes (k, n, null n) 1 rest
    key_value : {height : ℕ} {bytes k behind value rest : List ℕ} {x : Node} → IsKey bytes k (58 ∷ behind)
        → ends_key behind ≡ true → IsAfter behind value → IsFlow n value x height rest → IsPair n bytes (k, n, x) height rest

  -- pairs likewise, up to the closing brace
  pub data IsPairs (n : ℕ) : List ℕ → List Pair → ℕ → List ℕ → Type 0 where
    no_pair : {bytes rest : List ℕ} → IsAfter bytes (125 ∷ rest) → IsPairs n bytes [] 0 rest
    last_pair : {height : ℕ} {bytes pair behind rest : List ℕ} {p : Pair} → IsAfter bytes pair
        → IsPair n pair p height behind → IsAfter behind (125 ∷ rest) → IsPairs n bytes (p ∷ []) height rest
    more_pairs : {height others : ℕ} {bytes pair behind more rest : List ℕ} {p : Pair} {ps : List Pair}
        → IsAfter bytes pair → IsPair n pair p height behind → IsAfter behind (44 ∷ more)
        → IsPairs n more ps others rest → IsPairs n bytes (p ∷ ps) (max height others) rest
