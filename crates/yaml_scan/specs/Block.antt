-- A block scalar.
use Rattle.std.specs.Prelude.{ℕ, ◌+◌, ◌-◌, Bool, true, false, not, ◌||◌, ◌&&◌, nat_lt}
use Rattle.std.specs.Prelude.{if◌then◌else◌, List, [], ◌∷◌, ◌++◌, drop, Option, Some, None, Ok}
use Rattle.yaml_scan.specs.declared.line.RawLine.{RawLine}
use Rattle.yaml_scan.specs.declared.fault.Code.TheVariants.{LeftOut}
use Rattle.yaml_scan.specs.Answers.{Reading, stop}
use Rattle.yaml_scan.specs.Words.{sees, is_empty, nothing_left, times, folded}

-- What was read: the text, whether the last line that is not empty began with a space (none was read at first), and how many
-- empty lines were read behind it.
pub record State : Type 0 where
  pub fold : Bool
  pub text : List ℕ
  pub last : Option Bool
  pub empties : ℕ

-- what stands between two lines with so many empty ones between them: with `>` a break is folded, unless one of the two lines
-- begins with a space
abbrev pub between : Bool → Option Bool → Bool → ℕ → List ℕ
between fold None spaced n = times n 10
between fold (Some before) spaced n = if fold && not before && not spaced then folded n else times (n + 1) 10

-- one more line of the content, without the content's indent
abbrev pub added : State → List ℕ → State
added s x =
    if is_empty x then record { fold = s.fold; text = s.text; last = s.last; empties = s.empties + 1 } else
    record { fold = s.fold; text = (s.text ++ between s.fold s.last (sees 32 x) s.empties) ++ x; last = Some (sees 32 x); empties = 0 }

-- The text ends by one line feed if it is not empty, with `-` by none.
abbrev pub ended : Bool → State → List ℕ
ended strip s = if strip || is_empty s.text then s.text else s.text ++ 10 ∷ []

-- lines at the content's indent
unfoldable pub body : Bool → ℕ → State → List RawLine → Reading (List ℕ)
body strip indent s [] = Ok (ended strip s, [])
body strip indent s (l ∷ ls) =
    if not (is_empty l.content) && nat_lt l.indent indent then Ok (ended strip s, l ∷ ls) else
    body strip indent (added s (times (l.indent - indent) 32 ++ l.content)) ls

abbrev pub begun : Bool → ℕ → State
begun fold n = record { fold = fold; text = []; last = None; empties = n }

-- so many blank lines, and then the first line that is not blank, which gives the content's indent
unfoldable pub opening : Bool → Bool → ℕ → ℕ → List RawLine → Reading (List ℕ)
opening fold strip floor n [] = Ok ([], [])
opening fold strip floor n (l ∷ ls) =
    if is_empty l.content then opening fold strip floor (n + 1) ls else
    (if nat_lt l.indent floor then Ok ([], l ∷ ls) else body strip l.indent (begun fold n) (l ∷ ls))

abbrev pub headed : Bool → Bool → ℕ → ℕ → List ℕ → List RawLine → Reading (List ℕ)
headed fold strip floor n head ls = if nothing_left false head then opening fold strip floor 0 ls else stop n LeftOut

-- behind `|` or `>` on the line n: perhaps `-`, perhaps a comment
unfoldable pub block : ℕ → ℕ → Bool → List ℕ → List RawLine → Reading (List ℕ)
block floor n fold head ls = if sees 45 head then headed fold true floor n (drop 1 head) ls else headed fold false floor n head ls
