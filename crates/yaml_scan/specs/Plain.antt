-- A plain scalar, perhaps over several lines.
use Rattle.std.specs.Prelude.{ℕ, ◌+◌, false, ◌||◌, nat_lt, if◌then◌else◌, List, [], ◌∷◌, ◌++◌, take, Ok}
use Rattle.yaml_scan.specs.declared.line.RawLine.{RawLine}
use Rattle.yaml_scan.specs.declared.fault.Code.TheVariants.{Structure}
use Rattle.yaml_scan.specs.Answers.{Reading, stop}
use Rattle.yaml_scan.specs.Words.{sees, is_empty, has_colon, trimmed, comment_at, has_comment, folded}

-- what a line adds: what stands before a comment, without blanks at the end
abbrev pub text_of : List ℕ → List ℕ
text_of bytes = trimmed (take (comment_at false 0 bytes) bytes)

-- further lines, which stand at this column or right of it; so many blank lines were passed
unfoldable pub further : ℕ → List ℕ → ℕ → List RawLine → Reading (List ℕ)
further floor text blanks [] = Ok (text, [])
further floor text blanks (l ∷ ls) =
    if is_empty l.content then further floor text (blanks + 1) ls else
    (if sees 35 l.content || nat_lt l.indent floor then Ok (text, l ∷ ls) else
    (if has_colon l.content then stop l.line Structure else
    (if has_comment l.content then Ok (text ++ folded blanks ++ text_of l.content, ls) else
    further floor (text ++ folded blanks ++ text_of l.content) 0 ls)))

-- these bytes of the line n, and the lines behind it
unfoldable pub plain : ℕ → ℕ → List ℕ → List RawLine → Reading (List ℕ)
plain floor n bytes ls =
    if has_colon bytes then stop n Structure else
    (if has_comment bytes then Ok (text_of bytes, ls) else further floor (text_of bytes) 0 ls)
