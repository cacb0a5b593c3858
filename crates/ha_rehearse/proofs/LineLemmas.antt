-- What the lines of a simple text give: dashes, a key, perhaps a scalar.
use Rattle.std.proofs.Common.{◌≡◌, ◌∙◌, ◌+◌, ℕ, suc, List, [], ◌∷◌, ◌++◌, Bool, true, false, refl, ap, take, drop, Some, nat_lt}
use Rattle.std.specs.Prelude.{◌&&◌, ◌==◌, if◌then◌else◌, Ok}
use Rattle.std.specs.Str.{is_utf8}
use Rattle.std.proofs.lemmas.Str.{IsUtf8-from_is_utf8, utf8_lossy-IsUtf8}
use Rattle.yaml_scan.specs.declared.line.RawLine.{RawLine}
use Rattle.yaml_scan.specs.declared.fault.Code.TheVariants.{Structure, LeftOut}
use Rattle.yaml_scan.specs.Words.{breaks, colon_at, is_blank, has_colon, has_comment, is_empty, sees, trimmed}
use Rattle.yaml_scan.specs.Quoted.{quoted}
use Rattle.yaml_scan.specs.Plain.{further, plain, text_of}
use Rattle.yaml_tree.specs.declared.node.Node.{Node}
use Rattle.yaml_tree.specs.declared.node.NodeKind.TheVariants.{Scalar}
use Rattle.yaml_tree.specs.declared.piece.Piece.{Piece}
use Rattle.yaml_tree.specs.declared.starts.Start.TheVariants as starts
use Rattle.yaml_tree.specs.Leaves.{leaf_by, scalar}
use Rattle.yaml_tree.specs.Nodes.{scalar_node, word}
use Rattle.yaml_tree.specs.Starts.{start, is_merge}
use Rattle.yaml_tree.specs.Pieces.{Found, dash, floor, found, heads, is_over, key, keyed, leaf, leaf_at, leaf_found, line_heads, pieces, plain_key, spoiled_key, value_at}

abbrev pub Text : Type 0
Text = List ℕ

-- a text that is UTF-8 is kept as it is
pub word_is : (t : Text) → is_utf8 t ≡ true → word t ≡ t
word_is t h = utf8_lossy-IsUtf8 t (IsUtf8-from_is_utf8 t h)

abbrev pub scalar_of : ℕ → Text → Bool → Node
scalar_of n text plain = record { line = n; kind = Scalar text plain }

abbrev leaf_with : List Piece → ℕ → ℕ → Bool → List RawLine → Text → Found
leaf_with ps n col plain ls text = found (ps ++ leaf n col (scalar_of n text plain) 1 false ∷ []) ls

module _ (ps : List Piece) (n col : ℕ) (ls : List RawLine) where
  abbrev keep_key : Text → Bool → Text → ℕ → Text → Found
  keep_key bytes m k at behind = if m then spoiled_key ps n col LeftOut true ls else keyed ps n col k (col + at + 1) behind ls

  abbrev keep_text : Bool → Text → ℕ → Text → Found
  keep_text m k at behind = if m then spoiled_key ps n col Structure false ls else value_at (ps ++ key n col k ∷ []) n (col + at + 1) behind ls

  pub key_line : (bytes : Text) (at : ℕ) (k behind : Text) → colon_at false 0 bytes ≡ Some at → trimmed (take at bytes) ≡ k → is_merge k ≡ false → is_empty k ≡ false
      → drop (at + 1) bytes ≡ behind → plain_key ps n col bytes (colon_at false 0 bytes) ls ≡ value_at (ps ++ key n col k ∷ []) n (col + at + 1) behind ls
  key_line bytes at k behind h1 h2 h3 h4 h5 =
      ap (λ o. plain_key ps n col bytes o ls) h1 ∙ ap (λ t. keep_key bytes (is_merge t) t at (drop (at + 1) bytes)) h2 ∙ ap (λ m. keep_key bytes m k at (drop (at + 1) bytes)) h3
      ∙ ap (λ m. keep_text m k at (drop (at + 1) bytes)) h4 ∙ ap (λ t. value_at (ps ++ key n col k ∷ []) n (col + at + 1) t ls) h5

-- a plain scalar that the next line does not go on with
pub plain_ends : (f n : ℕ) (bytes text : Text) (l : RawLine) (ls : List RawLine) → has_colon bytes ≡ false → has_comment bytes ≡ false → text_of bytes ≡ text → is_empty l.content ≡ false
    → nat_lt l.indent f ≡ true → sees 35 l.content ≡ false → plain f n bytes (l ∷ ls) ≡ Ok (text, l ∷ ls)
unfolding plain further
plain_ends f n bytes text l ls h1 h2 h3 h4 h5 h6 = rw (h1, h2, h3, h4, h6, h5) refl

pub leaf_plain : (ps : List Piece) (n col b : ℕ) (rest text : Text) (l : RawLine) (ls : List RawLine) → start b rest ≡ starts.Plain → has_colon (b ∷ rest) ≡ false → has_comment (b ∷ rest) ≡ false
    → text_of (b ∷ rest) ≡ text → is_empty l.content ≡ false → nat_lt l.indent (floor ps) ≡ true → sees 35 l.content ≡ false → is_utf8 text ≡ true
    → leaf_at ps n false col (b ∷ rest) (l ∷ ls) ≡ found (ps ++ leaf n col (scalar_of n text true) 1 false ∷ []) (l ∷ ls)
leaf_plain ps n col b rest text l ls h0 h1 h2 h3 h4 h5 h6 h7 =
    ap (λ s. leaf_found ps n col (leaf_by s (floor ps) false n b rest (l ∷ ls)) (l ∷ ls)) h0
    ∙ ap (λ r. leaf_found ps n col (scalar n true r) (l ∷ ls)) (plain_ends (floor ps) n (b ∷ rest) text l ls h1 h2 h3 h4 h5 h6)
    ∙ ap (leaf_with ps n col true (l ∷ ls)) (word_is text h7)

-- a line that is read, and those behind it
pub step : (k : ℕ) (ps qs : List Piece) (l : RawLine) (ls : List RawLine) → is_over ps l ≡ false → sees 9 l.content ≡ false → heads ps l.line true l.indent l.content ls ≡ found qs ls → pieces (suc k) ps (l ∷ ls) ≡ pieces k qs ls
unfolding pieces line_heads
step k ps qs l ls h tab e = rw (h, tab, e) refl

-- the same on the last line
pub last_plain : (ps : List Piece) (n col b : ℕ) (rest text : Text) → start b rest ≡ starts.Plain → has_colon (b ∷ rest) ≡ false → has_comment (b ∷ rest) ≡ false
    → text_of (b ∷ rest) ≡ text → is_utf8 text ≡ true → leaf_at ps n false col (b ∷ rest) [] ≡ found (ps ++ leaf n col (scalar_of n text true) 1 false ∷ []) []
unfolding plain further
last_plain ps n col b rest text h0 h1 h2 h3 h4 = last h0 h1 h2 h3 ∙ ap (leaf_with ps n col true []) (word_is text h4)
  where
    last : start b rest ≡ starts.Plain → has_colon (b ∷ rest) ≡ false → has_comment (b ∷ rest) ≡ false → text_of (b ∷ rest) ≡ text
        → leaf_at ps n false col (b ∷ rest) [] ≡ found (ps ++ leaf n col (scalar_node n text true) 1 false ∷ []) []
    last h0 h1 h2 h3 = rw (h0, h1, h2, h3) refl

-- a scalar in double quotes that are closed on the line
pub leaf_quoted : (ps : List Piece) (n col : ℕ) (rest text : Text) (ls : List RawLine) → quoted (floor ps) n 34 rest ls ≡ Ok (text, ls) → is_utf8 text ≡ true
    → leaf_at ps n false col (34 ∷ rest) ls ≡ found (ps ++ leaf n col (scalar_of n text false) 1 false ∷ []) ls
leaf_quoted ps n col rest text ls h h' = ap (λ r. leaf_found ps n col (scalar n false r) ls) h ∙ ap (leaf_with ps n col false ls) (word_is text h')

pub dash_line : (ps : List Piece) (n col : ℕ) (spaced : Bool) (rest : Text) (ls : List RawLine)
    → heads ps n spaced col (45 ∷ 32 ∷ rest) ls ≡ heads (ps ++ dash n col ∷ []) n true (col + 1 + 1) rest ls
unfolding heads
dash_line ps n col spaced rest ls = refl

pub plain_line : (ps : List Piece) (n col b : ℕ) (spaced : Bool) (rest : Text) (ls : List RawLine) → is_blank b ≡ false → (b == 35 && spaced) ≡ false → (b == 45 && breaks rest) ≡ false
    → start b rest ≡ starts.Plain → heads ps n spaced col (b ∷ rest) ls ≡ plain_key ps n col (b ∷ rest) (colon_at false 0 (b ∷ rest)) ls
unfolding heads
plain_line ps n col b spaced rest ls h1 h2 h3 h4 = rw (h1, h2, h3, h4) refl
