-- The grammar of quoted scalars, which may go on over lines.
use Rattle.std.specs.Prelude.{◌≡◌, ◌≤◌, ◌+◌, ◌*◌, ◌==◌, ◌&&◌, ℕ, suc, true, false, List, [], ◌∷◌, ◌++◌, Some, encode_utf8}
use Rattle.yaml_scan.specs.declared.line.RawLine.{RawLine}
use Rattle.yaml_scan.specs.Words.{sees, nothing_left, without_blanks, only_blanks}
use Rattle.yaml_scan.specs.Quoted.{escape, digits_behind, hex, is_character, break}

-- so many blank lines, and then a line at this column or right of it: its bytes behind the blanks at its front, and the lines behind it
pub data IsNext (floor : ℕ) : List RawLine → ℕ → List ℕ → List RawLine → Type 0 where
  blank : {l : RawLine} {ls rest : List RawLine} {k : ℕ} {bytes : List ℕ}
      → only_blanks l.content ≡ true → IsNext floor ls k bytes rest → IsNext floor (l ∷ ls) (k + 1) bytes rest
  here : {l : RawLine} {ls : List RawLine} → only_blanks l.content ≡ false
      → floor ≤ l.indent → IsNext floor (l ∷ ls) 0 (without_blanks l.content) ls

-- so many digits, and the number behind the one so far
pub data IsDigits : ℕ → ℕ → List ℕ → ℕ → List ℕ → Type 0 where
  none : {value : ℕ} {rest : List ℕ} → IsDigits 0 value rest value rest
  digit : {wanted value all b d : ℕ} {bytes rest : List ℕ} → hex b ≡ Some d
      → IsDigits wanted (16 * value + d) bytes all rest → IsDigits (suc wanted) value (b ∷ bytes) all rest

-- What stands in these quotes (39 or 34) from here on, what is behind the closing quote on its line, and the lines behind that.
-- Blanks before a break, and at the front of a line, are dropped; all others stay.
pub data IsInside (quote floor : ℕ) : List ℕ → List RawLine → List ℕ → List ℕ → List RawLine → Type 0 where
  close : {rest : List ℕ} {ls : List RawLine} → (quote == 39 && sees 39 rest) ≡ false → IsInside quote floor (quote ∷ rest) ls [] rest ls
  doubled : {bytes s rest : List ℕ} {ls ls' : List RawLine} → quote ≡ 39
      → IsInside quote floor bytes ls s rest ls' → IsInside quote floor (39 ∷ 39 ∷ bytes) ls (39 ∷ s) rest ls'
  byte : {b : ℕ} {bytes s rest : List ℕ} {ls ls' : List RawLine}
      → (b == quote) ≡ false → (b == 92 && quote == 34) ≡ false → only_blanks (b ∷ bytes) ≡ false
      → IsInside quote floor bytes ls s rest ls' → IsInside quote floor (b ∷ bytes) ls (b ∷ s) rest ls'
  escaped : {b c : ℕ} {bytes s rest : List ℕ} {ls ls' : List RawLine} → quote ≡ 34 → escape b ≡ Some c
      → IsInside quote floor bytes ls s rest ls' → IsInside quote floor (92 ∷ b ∷ bytes) ls (encode_utf8 c ++ s) rest ls'
  numbered : {b n value : ℕ} {bytes behind s rest : List ℕ} {ls ls' : List RawLine}
      → quote ≡ 34 → digits_behind b ≡ suc n → IsDigits (suc n) 0 bytes value behind → is_character value ≡ true
      → IsInside quote floor behind ls s rest ls' → IsInside quote floor (92 ∷ b ∷ bytes) ls (encode_utf8 value ++ s) rest ls'
  broken : {bytes next s rest : List ℕ} {ls ls' ls'' : List RawLine} {k : ℕ} → only_blanks bytes ≡ true → IsNext floor ls k next ls'
      → IsInside quote floor next ls' s rest ls'' → IsInside quote floor bytes ls (break false k ++ s) rest ls''
  joined : {next s rest : List ℕ} {ls ls' ls'' : List RawLine} {k : ℕ} → quote ≡ 34 → IsNext floor ls k next ls'
      → IsInside quote floor next ls' s rest ls'' → IsInside quote floor (92 ∷ []) ls (break true k ++ s) rest ls''

-- The scalar behind an opening quote, and the lines behind it: nothing but blanks and a comment follows the closing quote.
pub data IsQuoted (floor quote : ℕ) (bytes : List ℕ) (ls : List RawLine) (s : List ℕ) (ls' : List RawLine) : Type 0 where
  quoted : {rest : List ℕ} → IsInside quote floor bytes ls s rest ls' → nothing_left false rest ≡ true → IsQuoted floor quote bytes ls s ls'
