-- The grammar of keys, which stand on one line with a colon behind them.
use Rattle.std.specs.Prelude.{◌≡◌, ◌+◌, ◌-◌, ℕ, true, false, List, [], ◌∷◌, length}
use Rattle.yaml_scan.specs.Words.{is_blank, is_empty, nothing_left, breaks, without_blanks}
use Rattle.yaml_tree.specs.declared.starts.Start.TheVariants as starts
use Rattle.yaml_tree.specs.Starts.{start, is_merge}
use Rattle.yaml_tree.specs.Leaves.{colon_behind}
use Rattle.yaml_tree.specs.Quotes.{IsInside}

-- blanks, and then a colon with a space or nothing behind it: the column and the bytes behind the colon
pub data IsColon : ℕ → List ℕ → ℕ → List ℕ → Type 0 where
  here : {column : ℕ} {bytes : List ℕ} → breaks bytes ≡ true → IsColon column (58 ∷ bytes) (column + 1) bytes
  blank : {column behind b : ℕ} {bytes rest : List ℕ} → is_blank b ≡ true
      → IsColon (column + 1) bytes behind rest → IsColon column (b ∷ bytes) behind rest

-- The text up to the first such colon, without the blanks before it, and what is behind the colon. No comment stands before it.
pub data IsKeyText : ℕ → List ℕ → List ℕ → ℕ → List ℕ → Type 0 where
  ends : {column behind : ℕ} {bytes rest : List ℕ} → IsColon column bytes behind rest → IsKeyText column bytes [] behind rest
  byte : {column behind b : ℕ} {bytes s rest : List ℕ} → nothing_left false (b ∷ bytes) ≡ false
      → colon_behind (without_blanks (b ∷ bytes)) ≡ false
      → IsKeyText (column + 1) bytes s behind rest → IsKeyText column (b ∷ bytes) (b ∷ s) behind rest

-- A key that begins at this column: its text, which is not empty, and the column and bytes behind its colon. Quotes are closed
-- on the line, and the colon follows at once.
pub data IsKey (column : ℕ) : List ℕ → List ℕ → ℕ → List ℕ → Type 0 where
  plain : {b behind : ℕ} {bytes s rest : List ℕ} → start b bytes ≡ starts.Plain → IsKeyText column (b ∷ bytes) s behind rest
      → is_merge s ≡ false → is_empty s ≡ false → IsKey column (b ∷ bytes) s behind rest
  quoted : {b : ℕ} {bytes s rest : List ℕ} → start b bytes ≡ starts.InQuotes → IsInside b 0 bytes [] s (58 ∷ rest) []
      → breaks rest ≡ true → is_empty s ≡ false → IsKey column (b ∷ bytes) s (column + (length (b ∷ bytes) - length rest)) rest
