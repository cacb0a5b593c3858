-- The lines of a text, and the faults that are seen on a line alone.
use Rattle.std.specs.Prelude.{ℕ, ◌+◌, Bool, false, not, ◌||◌, ◌&&◌, ◌==◌, nat_lt, nat_le, if◌then◌else◌, List, []}
use Rattle.std.specs.Prelude.{◌∷◌, ◌++◌, length, drop, get_or, map, Option, Some, None, Result, Ok, Err}
use Rattle.std.specs.Str.{is_utf8}
pub use Rattle.ha_value.specs.Lists.{without_cr}
use Rattle.yaml_scan.specs.declared.line.RawLine.{RawLine}
use Rattle.yaml_scan.specs.declared.line.YamlLine.{YamlLine}
use Rattle.yaml_scan.specs.declared.fault.Fault.{Fault}
use Rattle.yaml_scan.specs.declared.fault.Code.{Code}
use Rattle.yaml_scan.specs.declared.fault.Code.TheVariants.{Tab, LeftOut, NotUtf8}
use Rattle.yaml_scan.specs.Codes.{number_of}
use Rattle.yaml_scan.specs.Words.{sees, is_empty, nothing_left}

-- how many spaces it begins with
unfoldable pub spaces : List ℕ → ℕ
spaces [] = 0
spaces (b ∷ rest) = if b == 32 then spaces rest + 1 else 0

abbrev pub line_of : ℕ → List ℕ → RawLine
line_of n raw = record { line = n; indent = spaces raw; content = drop (spaces raw) raw }

-- Behind the last LF a line begins only where bytes follow.
abbrev pub last_line : ℕ → List ℕ → List RawLine
last_line n [] = []
last_line n (b ∷ raw) = line_of n (b ∷ raw) ∷ []

-- the lines from the line n on, of which these bytes were read
unfoldable pub lines_from : ℕ → List ℕ → List ℕ → List RawLine
lines_from n raw [] = last_line n raw
lines_from n raw (b ∷ rest) = if b == 10 then line_of n (without_cr raw) ∷ lines_from (n + 1) [] rest else lines_from n (raw ++ b ∷ []) rest

-- a byte order mark at the front is dropped
abbrev pub without_mark : List ℕ → List ℕ
without_mark text =
    if nat_le 3 (length text) && get_or text 0 0 == 239 && get_or text 1 0 == 187 && get_or text 2 0 == 191 then drop 3 text else text

abbrev pub lines : List ℕ → List RawLine
lines text = lines_from 1 [] (without_mark text)

-- ---- the faults of a line alone

abbrev pub fault : ℕ → Code → Fault
fault line code = record { line = line; code = code }

-- the fault with the lesser line, and of one line with the lesser code
abbrev pub least : Option Fault → Option Fault → Option Fault
least None g = g
least (Some f) None = Some f
least (Some f) (Some g) =
    if nat_lt g.line f.line || (g.line == f.line && nat_lt (number_of g.code) (number_of f.code)) then Some g else Some f

-- a tab among the leading blanks: the first one follows the leading spaces
abbrev pub tab_fault : RawLine → Option Fault
tab_fault l = if sees 9 l.content then Some (fault l.line Tab) else None

-- A text is UTF-8 exactly where each line is, since a break is no part of another character.
abbrev pub utf8_fault : RawLine → Option Fault
utf8_fault l = if is_utf8 l.content then None else Some (fault l.line NotUtf8)

-- a blank line: only spaces, or spaces and a comment
abbrev pub is_blank_line : RawLine → Bool
is_blank_line l = is_empty l.content || sees 35 l.content

-- three of this byte, and nothing more but blanks and a comment
abbrev pub is_three : ℕ → List ℕ → Bool
is_three b [] = false
is_three b (x ∷ []) = false
is_three b (x ∷ y ∷ []) = false
is_three b (x ∷ y ∷ z ∷ rest) = x == b && y == b && z == b && nothing_left false rest

-- `---` or `...` at column 0
abbrev pub is_mark : RawLine → Bool
is_mark l = l.indent == 0 && (is_three 45 l.content || is_three 46 l.content)

abbrev pub is_start : RawLine → Bool
is_start l = l.indent == 0 && is_three 45 l.content

abbrev pub is_directive : RawLine → Bool
is_directive l = l.indent == 0 && sees 37 l.content

-- a directive, or a mark behind the first line that is not blank
abbrev pub mark_fault : Bool → RawLine → Option Fault
mark_fault begun l = if is_directive l || (begun && is_mark l) then Some (fault l.line LeftOut) else None

abbrev pub one_fault : Bool → RawLine → Option Fault
one_fault begun l = least (tab_fault l) (least (mark_fault begun l) (utf8_fault l))

abbrev pub or_else : Option Fault → Option Fault → Option Fault
or_else (Some f) more = Some f
or_else None more = more

-- the first line with a fault; whether a line that is not blank was read
unfoldable pub fault_from : Bool → List RawLine → Option Fault
fault_from begun [] = None
fault_from begun (l ∷ ls) = or_else (one_fault begun l) (fault_from (begun || not (is_blank_line l)) ls)

abbrev pub line_fault : List RawLine → Option Fault
line_fault ls = fault_from false ls

-- the lines behind a first `---`
unfoldable pub without_start : List RawLine → List RawLine
without_start [] = []
without_start (l ∷ ls) = if is_blank_line l then without_start ls else (if is_start l then ls else l ∷ ls)

-- ---- what scanning gives

abbrev pub seen : RawLine → YamlLine
seen l = record { line = l.line; indent = l.indent; content = l.content }

abbrev pub scanned : Option Fault → List RawLine → Result (List YamlLine) Fault
scanned None ls = Ok (map seen ls)
scanned (Some f) ls = Err f

abbrev pub scan : List ℕ → Result (List YamlLine) Fault
scan text = scanned (line_fault (lines text)) (lines text)
