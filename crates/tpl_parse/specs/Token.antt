-- The words and signs of the grammar, and which of them is read at a place: the longest.
use Rattle.std.specs.Prelude.{ℕ, suc, max, Bool, true, false, not, ◌&&◌, ◌||◌, ◌==◌, nat_eq}
use Rattle.std.specs.Prelude.{if◌then◌else◌, List, [], ◌∷◌, length, drop, Option, Some, None, Ok, codes}
use Rattle.std.specs.List.{fold, list_any}
use Rattle.std.specs.Str.{bytes_eq}
use Rattle.std.specs.Char.{is_ascii_alphabetic, is_ascii_digit}
use Rattle.ha_value.specs.Truth.{is_blank_or_break}
use Rattle.reading.specs.Answer.{Rule, front, stop}
use Rattle.reading.specs.declared.fault.Bad.{Bad}
use Rattle.tpl_parse.specs.declared.token.Token.{Token}

-- what reads an A from bytes, or stops at the first byte at which no reading goes on
abbrev pub Reads : Type 0 → Type 0
Reads A = Rule ℕ (Bad (Unit {0})) A

abbrev pub text_of : Token → List ℕ
text_of Token.Set = codes "set"
text_of Token.If = codes "if"
text_of Token.Elif = codes "elif"
text_of Token.Else = codes "else"
text_of Token.Endif = codes "endif"
text_of Token.Or = codes "or"
text_of Token.And = codes "and"
text_of Token.Not = codes "not"
text_of Token.In = codes "in"
text_of Token.Is = codes "is"
text_of Token.None = codes "none"
text_of Token.Defined = codes "defined"
text_of Token.True = codes "true"
text_of Token.False = codes "false"
text_of Token.PrintedNone = codes "None"
text_of Token.PrintedTrue = codes "True"
text_of Token.PrintedFalse = codes "False"
text_of Token.Equal = codes "=="
text_of Token.Unequal = codes "!="
text_of Token.Less = codes "<"
text_of Token.AtMost = codes "<="
text_of Token.More = codes ">"
text_of Token.AtLeast = codes ">="
text_of Token.Plus = codes "+"
text_of Token.Minus = codes "-"
text_of Token.Join = codes "~"
text_of Token.Times = codes "*"
text_of Token.Over = codes "/"
text_of Token.Floor = codes "//"
text_of Token.Modulo = codes "%"
text_of Token.Bar = codes "|"
text_of Token.Dot = codes "."
text_of Token.Comma = codes ","
text_of Token.Assign = codes "="
text_of Token.OpenList = codes "["
text_of Token.CloseList = codes "]"
text_of Token.OpenGroup = codes "("
text_of Token.CloseGroup = codes ")"
text_of Token.ShowEnd = codes "}}"
text_of Token.TrimShowEnd = codes "-}}"
text_of Token.TagEnd = codes "%}"
text_of Token.TrimTagEnd = codes "-%}"

-- the words, which are no names
abbrev pub all_words : List Token
all_words =
    Token.Set ∷ Token.If ∷ Token.Elif ∷ Token.Else ∷ Token.Endif ∷ Token.Or ∷ Token.And ∷ Token.Not ∷ Token.In ∷
    Token.Is ∷ Token.None ∷ Token.Defined ∷ Token.True ∷ Token.False ∷ Token.PrintedNone ∷ Token.PrintedTrue ∷ Token.PrintedFalse ∷ []

-- ---- names

-- names begin with a letter or `_`, and go on with these and digits
abbrev pub begins_name : ℕ → Bool
begins_name b = is_ascii_alphabetic b || b == 95

abbrev pub in_name : ℕ → Bool
in_name b = begins_name b || is_ascii_digit b

abbrev pub is_reserved : List ℕ → Bool
is_reserved name = list_any (λ word. bytes_eq (text_of word) name) all_words

-- ---- which token stands at a place

-- how many bytes two texts have in common from the front on
unfoldable pub common : List ℕ → List ℕ → ℕ
common [] b = 0
common (x ∷ a) [] = 0
common (x ∷ a) (y ∷ b) = if x == y then suc (common a b) else 0

-- A longer token begins with the token and this byte: a longer name, `//`, `<=`, `>=`, `==` or the end of a tag. No operand begins
-- with `}` or `%`, so a `-` before one of them can only be that of an end.
abbrev pub is_longer : Token → ℕ → Bool
is_longer Token.Minus b = b == 125 || b == 37
is_longer Token.Modulo b = b == 125
is_longer Token.Over b = b == 47
is_longer Token.Less b = b == 61
is_longer Token.More b = b == 61
is_longer Token.Assign b = b == 61
is_longer Token.Set b = in_name b
is_longer Token.If b = in_name b
is_longer Token.Elif b = in_name b
is_longer Token.Else b = in_name b
is_longer Token.Endif b = in_name b
is_longer Token.Or b = in_name b
is_longer Token.And b = in_name b
is_longer Token.Not b = in_name b
is_longer Token.In b = in_name b
is_longer Token.Is b = in_name b
is_longer Token.None b = in_name b
is_longer Token.Defined b = in_name b
is_longer Token.True b = in_name b
is_longer Token.False b = in_name b
is_longer Token.PrintedNone b = in_name b
is_longer Token.PrintedTrue b = in_name b
is_longer Token.PrintedFalse b = in_name b
is_longer _ b = false

abbrev pub ends_before : Token → Option ℕ → Bool
ends_before token None = true
ends_before token (Some b) = not (is_longer token b)

-- the token is the one that is read at the front of the text
unfoldable pub stands : Token → List ℕ → Bool
stands token rest =
    nat_eq (common (text_of token) rest) (length (text_of token)) && ends_before token (front (drop (length (text_of token)) rest))

-- how far the text goes on as one of the tokens
abbrev pub reach : List Token → List ℕ → ℕ
reach tokens rest = fold (λ far token. max far (common (text_of token) rest)) 0 tokens

-- ---- blanks, and a token behind them

-- without the blanks and breaks at the front
unfoldable pub spaces : List ℕ → List ℕ
spaces [] = []
spaces (b ∷ rest) = if is_blank_or_break b then spaces rest else b ∷ rest

abbrev pub next_is : Token → List ℕ → Bool
next_is token rest = stands token (spaces rest)

-- behind a token that is the next
abbrev pub past : Token → List ℕ → List ℕ
past token rest = drop (length (text_of token)) (spaces rest)

-- behind the token, where it is the next
abbrev pub behind : Token → List ℕ → List ℕ
behind token rest = if next_is token rest then past token rest else spaces rest

-- no reading goes on so many bytes from here
abbrev pub stop_behind : {A : Type 0} → ℕ → Reads A
stop_behind count rest = stop tt (drop count rest)

-- none of these tokens stands here: as far as the text goes on as one of them
abbrev pub none_of : {A : Type 0} → List Token → Reads A
none_of tokens rest = stop_behind (reach tokens rest) rest

-- the token, behind blanks and breaks
unfoldable pub want : Token → Reads (Unit {0})
want token rest = if next_is token rest then Ok (tt, behind token rest) else none_of (token ∷ []) (spaces rest)
