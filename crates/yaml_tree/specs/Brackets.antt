-- The grammar of flow: what stands in brackets and braces on one line. In each rule the bytes are a spelling of something, and then
-- a rest follows. The number of the line is the nodes'. A height says how many nodes stand in one another.
use Rattle.std.specs.Prelude.{◌≡◌, ℕ, suc, max, Bool, true, false, ◌||◌, ◌&&◌, ◌==◌, if◌then◌else◌, List, [], ◌∷◌}
use Rattle.yaml_scan.specs.Words.{sees, is_blank, is_empty, trimmed}
use Rattle.yaml_tree.specs.declared.node.Node.{Node}
use Rattle.yaml_tree.specs.declared.starts.Start.TheVariants as starts
use Rattle.yaml_tree.specs.Nodes.{Pair, null, scalar_node, listed, mapped, has_key}
use Rattle.yaml_tree.specs.Starts.{start, is_merge}
use Rattle.yaml_tree.specs.Quotes.{IsInside}

-- blanks, and then something else
pub data IsAfter : List ℕ → List ℕ → Type 0 where
  here : {b : ℕ} {rest : List ℕ} → is_blank b ≡ false → IsAfter (b ∷ rest) (b ∷ rest)
  blank : {b : ℕ} {bytes rest : List ℕ} → is_blank b ≡ true → IsAfter bytes rest → IsAfter (b ∷ bytes) rest

-- ---- plain scalars and keys

-- a comma, a bracket or a brace
abbrev pub is_stop : ℕ → Bool
is_stop b = b == 44 || b == 91 || b == 93 || b == 123 || b == 125

-- where a plain scalar ends: before one of these, or before a comment, which begins behind a space
abbrev pub is_word_end : ℕ → Bool → Bool
is_word_end b spaced = is_stop b || (b == 35 && spaced)

-- Only blanks are left of a plain scalar. Whether a space was read last.
unfoldable pub is_over : Bool → List ℕ → Bool
is_over spaced [] = true
is_over spaced (b ∷ rest) = if is_blank b then is_over (b == 32) rest else is_word_end b spaced

-- a key's colon: a space follows it, or nothing more of the scalar
abbrev pub is_colon : ℕ → List ℕ → Bool
is_colon b rest = b == 58 && (sees 32 rest || is_over false rest)

-- the bytes of a plain scalar or key, up to its end, a key's colon or the end of the line; whether a space was read last
pub data IsWord : Bool → List ℕ → List ℕ → List ℕ → Type 0 where
  none : {spaced : Bool} → IsWord spaced [] [] []
  ends : {spaced : Bool} {b : ℕ} {rest : List ℕ} → is_word_end b spaced ≡ true → IsWord spaced (b ∷ rest) [] (b ∷ rest)
  colon : {spaced : Bool} {b : ℕ} {rest : List ℕ} → is_colon b rest ≡ true → IsWord spaced (b ∷ rest) [] (b ∷ rest)
  byte : {spaced : Bool} {b : ℕ} {bytes w rest : List ℕ} → is_word_end b spaced ≡ false
      → is_colon b bytes ≡ false → IsWord (b == 32) bytes w rest → IsWord spaced (b ∷ bytes) (b ∷ w) rest

-- what may stand behind a key's colon: a blank, a comma, a bracket or a brace
abbrev pub ends_key : List ℕ → Bool
ends_key [] = true
ends_key (b ∷ rest) = is_blank b || is_stop b

-- A key is plain and not `<<`, or in quotes that are closed on this line: no line is behind it. It is not empty.
pub data IsKey : List ℕ → List ℕ → List ℕ → Type 0 where
  plain_key : {b : ℕ} {bytes w rest : List ℕ}
      → start b bytes ≡ starts.Plain → IsWord false (b ∷ bytes) w rest
      → is_merge (trimmed w) ≡ false → is_empty (trimmed w) ≡ false → IsKey (b ∷ bytes) (trimmed w) rest
  quoted_key : {b : ℕ} {bytes s rest : List ℕ} → start b bytes ≡ starts.InQuotes
      → IsInside b 0 bytes [] s rest [] → is_empty s ≡ false → IsKey (b ∷ bytes) s rest

-- ---- flow

mutual
  -- a plain scalar, a quoted one on this line, a list or a map
  pub data IsFlow (n : ℕ) : List ℕ → Node → ℕ → List ℕ → Type 0 where
    plain : {b : ℕ} {bytes w rest : List ℕ} → start b bytes ≡ starts.Plain
        → IsWord false (b ∷ bytes) w rest → IsFlow n (b ∷ bytes) (scalar_node n (trimmed w) true) 1 rest
    quoted : {b : ℕ} {bytes s rest : List ℕ} → start b bytes ≡ starts.InQuotes
        → IsInside b 0 bytes [] s rest [] → IsFlow n (b ∷ bytes) (scalar_node n s false) 1 rest
    list : {height : ℕ} {bytes rest : List ℕ} {xs : List Node}
        → IsItems n bytes xs height rest → IsFlow n (91 ∷ bytes) (listed n xs) (suc height) rest
    map : {height : ℕ} {bytes rest : List ℕ} {ps : List Pair}
        → IsPairs n bytes ps height rest → IsFlow n (123 ∷ bytes) (mapped n ps) (suc height) rest

  -- items with commas between them, perhaps one behind the last, up to the closing bracket
  pub data IsItems (n : ℕ) : List ℕ → List Node → ℕ → List ℕ → Type 0 where
    no_item : {bytes rest : List ℕ} → IsAfter bytes (93 ∷ rest) → IsItems n bytes [] 0 rest
    last_item : {height : ℕ} {bytes item behind rest : List ℕ} {x : Node} → IsAfter bytes item
        → IsFlow n item x height behind → IsAfter behind (93 ∷ rest) → IsItems n bytes (x ∷ []) height rest
    more_items : {height others : ℕ} {bytes item behind more rest : List ℕ} {x : Node} {xs : List Node}
        → IsAfter bytes item → IsFlow n item x height behind → IsAfter behind (44 ∷ more)
        → IsItems n more xs others rest → IsItems n bytes (x ∷ xs) (max height others) rest

  -- a key with a value, with a colon alone, or alone; the value is null where none stands
  pub data IsPair (n : ℕ) : List ℕ → Pair → ℕ → List ℕ → Type 0 where
    key_alone : {bytes k rest : List ℕ} → IsKey bytes k rest → IsPair n bytes (k, n, null n) 1 rest
    no_value : {bytes k rest : List ℕ} → IsKey bytes k (58 ∷ rest) → ends_key rest ≡ true → IsPair n bytes (k, n, null n) 1 rest
    key_value : {height : ℕ} {bytes k behind value rest : List ℕ} {x : Node} → IsKey bytes k (58 ∷ behind)
        → ends_key behind ≡ true → IsAfter behind value → IsFlow n value x height rest → IsPair n bytes (k, n, x) height rest

  -- pairs likewise, up to the closing brace; no key comes twice
  pub data IsPairs (n : ℕ) : List ℕ → List Pair → ℕ → List ℕ → Type 0 where
    no_pair : {bytes rest : List ℕ} → IsAfter bytes (125 ∷ rest) → IsPairs n bytes [] 0 rest
    last_pair : {height : ℕ} {bytes pair behind rest : List ℕ} {p : Pair} → IsAfter bytes pair
        → IsPair n pair p height behind → IsAfter behind (125 ∷ rest) → IsPairs n bytes (p ∷ []) height rest
    more_pairs : {height others : ℕ} {bytes pair behind more rest : List ℕ} {p : Pair} {ps : List Pair}
        → IsAfter bytes pair → IsPair n pair p height behind → IsAfter behind (44 ∷ more)
        → IsPairs n more ps others rest → has_key ps p.0 ≡ false → IsPairs n bytes (p ∷ ps) (max height others) rest
