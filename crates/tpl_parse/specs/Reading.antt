-- Reading an expression from left to right, with the first byte at which no reading goes on.
use Rattle.std.specs.Prelude.{ℕ, zero, suc, max, Bool, true, false, not, ◌&&◌, ◌||◌, ◌==◌, nat_le, if◌then◌else◌}
use Rattle.std.specs.Prelude.{List, [], ◌∷◌, ◌++◌, length, drop, Option, Some, None, Ok, codes, is_some}
use Rattle.std.specs.Char.{is_ascii_digit}
use Rattle.std.specs.List.{find}
use Rattle.std.specs.Str.{bytes_eq}
use Rattle.ha_value.specs.declared.value.Value.{Value}
use Rattle.ha_config.specs.declared.template.Op.{Op}
use Rattle.ha_config.specs.declared.template.Expr.{Expr}
use Rattle.ha_config.specs.declared.template.Expr
use Rattle.reading.specs.Answer.{◌>>=◌, front, made, stop}
use Rattle.reading.specs.Bytes.{sees}
use Rattle.tpl_parse.specs.declared.token.Token.{Token}
use Rattle.tpl_parse.specs.declared.table.Counts.{Counts}
use Rattle.tpl_parse.specs.declared.table.Function.{Function}
use Rattle.tpl_parse.specs.declared.expression.Last.{Last}
use Rattle.tpl_parse.specs.declared.expression.Level.{Level}
use Rattle.tpl_parse.specs.declared.expression.Part.{Part}
use Rattle.tpl_parse.specs.Token.{Reads, reach, spaces, next_is, past, behind, stop_behind, none_of, want, begins_name, is_reserved}
use Rattle.tpl_parse.specs.Names.{filter_row, function_row, function_named, takes_behind, any_from}
use Rattle.tpl_parse.specs.Literal.{number, string, name as key_name, filter_name, word, skip_word}

-- ---- operators

-- the operators of the levels that group from the left, the weakest first
abbrev pub operators : Level → List (Token × Op)
operators Level.Or = (Token.Or, Op.Or) ∷ []
operators Level.And = (Token.And, Op.And) ∷ []
operators Level.Sum = (Token.Plus, Op.Plus) ∷ (Token.Minus, Op.Minus) ∷ []
operators Level.Join = (Token.Join, Op.Join) ∷ []
operators Level.Product = (Token.Times, Op.Times) ∷ (Token.Over, Op.Over) ∷ (Token.Floor, Op.Floor) ∷ (Token.Modulo, Op.Modulo) ∷ []

abbrev pub comparisons : List (Token × Op)
comparisons =
    (Token.Equal, Op.Equal) ∷ (Token.Unequal, Op.Unequal) ∷ (Token.Less, Op.Less) ∷ (Token.AtMost, Op.AtMost) ∷
    (Token.More, Op.More) ∷ (Token.AtLeast, Op.AtLeast) ∷ (Token.In, Op.Within) ∷ []

-- the first of these operators that is the next token
abbrev pub operator : List (Token × Op) → List ℕ → Option (Token × Op)
operator rows rest = find (λ row. next_is row.0 rest) rows

-- ---- what may go on behind an expression

abbrev pub tokens_behind : Last → List Token
tokens_behind Last.Operand =
    Token.Or ∷ Token.And ∷ Token.Minus ∷ Token.Modulo ∷ Token.Equal ∷ Token.Unequal ∷ Token.Is ∷ Token.In ∷ Token.Not ∷ []
tokens_behind Last.Compared = Token.Or ∷ Token.And ∷ Token.Minus ∷ Token.Modulo ∷ []
tokens_behind Last.Tested = Token.Or ∷ Token.And ∷ []

abbrev pub choice_reach : Option Token → List ℕ → ℕ
choice_reach None rest = 0
choice_reach (Some token) rest = reach (token ∷ []) rest

abbrev pub open_reach : Last → Option Token → List ℕ → ℕ
open_reach last choice rest = max (reach (tokens_behind last) rest) (choice_reach choice rest)

-- the expression does not go on, and none of these tokens stands behind it
abbrev pub no_end : {A : Type 0} → Last → Option Token → List Token → Reads A
no_end last choice tokens rest = stop_behind (max (open_reach last choice rest) (reach tokens rest)) rest

abbrev pub part_of : Expr → Last → Option Token → Part
part_of expr last choice = record { expr = expr; last = last; choice = choice }

abbrev pub ending : Expr → Last → Part
ending expr last = part_of expr last None

abbrev pub pair : Op → Part → Part → Part
pair op left right = ending (Expr.Pair op left.expr right.expr) right.last

abbrev pub operator_of : Option (Token × Op) → Option Op
operator_of None = None
operator_of (Some row) = Some row.1

-- what an operator leaves, or blanks and breaks where there is none
abbrev pub behind_operator : Option (Token × Op) → List ℕ → List ℕ
behind_operator None rest = spaces rest
behind_operator (Some row) rest = past row.0 rest

-- ---- nesting

-- what may be opened inside: an expression, what follows `not`, and what follows a sign
pub record Inner : Type 0 where
  pub expression : Reads Part
  pub negation : Reads Part
  pub signed : Reads Expr

-- an expression and its closing bracket
unfoldable pub enclosed : Inner → Token → Reads Expr
enclosed inner close rest = do
  part ← inner.expression rest
  if next_is close part.1 then Ok (part.0.expr, behind close part.1) else no_end part.0.last part.0.choice (close ∷ []) (spaces part.1)

-- behind an item: the closing bracket, or a comma and more, as the numbers of arguments allow
abbrev pub after_item : Token → Counts → (List Expr → Reads (List Expr)) → List Expr → Part → Reads (List Expr)
after_item close counts more items part rest =
    if nat_le counts.least (length items) && next_is close rest then Ok (items, behind close rest) else
    (if takes_behind counts.most (length items) && next_is Token.Comma rest
    then more items (behind Token.Comma rest) else no_end part.last part.choice [] (spaces rest))

-- items behind those that were found; a number bounds the turns
unfoldable pub item_turns : ℕ → Reads Part → Token → Counts → List Expr → Reads (List Expr)
item_turns zero expression close counts found rest = stop tt rest
item_turns (suc n) expression close counts found rest = do
  part ← expression rest
  after_item close counts (item_turns n expression close counts) (found ++ part.0.expr ∷ []) part.0 part.1

abbrev pub items_in : Option Inner → Token → Counts → Reads (List Expr)
items_in None close counts rest = stop tt rest
items_in (Some inner) close counts rest =
    if takes_behind counts.most 0 then item_turns (suc (length rest)) inner.expression close counts [] rest else stop tt rest

-- expressions with commas between them and the closing bracket behind them
unfoldable pub arguments : Option Inner → Token → Counts → Reads (List Expr)
arguments inner close counts rest =
    if counts.least == 0 && next_is close rest then Ok ([], behind close rest) else items_in inner close counts (spaces rest)

-- ---- atoms

abbrev pub constant : List ℕ → Option Value
constant word =
    if bytes_eq word (codes "true") || bytes_eq word (codes "True") then Some (Value.Flag true) else
    (if bytes_eq word (codes "false") || bytes_eq word (codes "False") then Some (Value.Flag false) else
    (if bytes_eq word (codes "none") || bytes_eq word (codes "None") then Some Value.Null else None))

-- the name of a function where no call stands: `states` is no name of a variable
abbrev pub not_called : Function → List ℕ → Reads Expr
not_called Function.States name rest = stop tt rest
not_called _ name rest = Ok (Expr.Name name, rest)

abbrev pub call_or_name : Option Function → Option Inner → List ℕ → Reads Expr
call_or_name None inner name rest = Ok (Expr.Name name, rest)
call_or_name (Some function) None name rest = not_called function name rest
call_or_name (Some function) (Some inner) name rest =
    if next_is Token.OpenGroup rest
    then made (Expr.Function (function_row function).number)
    (arguments (Some inner) Token.CloseGroup (function_row function).counts (behind Token.OpenGroup rest))
    else not_called function name (spaces rest)

abbrev pub by_word : Option Value → Option Inner → List ℕ → Reads Expr
by_word (Some value) inner name rest = Ok (Expr.Plain value, rest)
by_word None inner name rest = if is_reserved name then stop tt rest else call_or_name (function_named name) inner name rest

-- a constant, a call or a name
unfoldable pub word_atom : Option Inner → Reads Expr
word_atom inner rest = by_word (constant (word rest)) inner (word rest) (skip_word rest)

-- how an atom begins
pub data Start : Type 0 where
  numeric bracket group letter nothing : Start
  quoted : ℕ → Start

abbrev pub start_of : Option ℕ → Start
start_of None = nothing
start_of (Some b) =
    if is_ascii_digit b then numeric else (if b == 34 || b == 39 then quoted b else (if b == 91 then bracket else
    (if b == 40 then group else (if begins_name b then letter else nothing))))

abbrev pub in_group : Option Inner → Reads Expr
in_group None rest = stop tt rest
in_group (Some inner) rest = enclosed inner Token.CloseGroup (drop 1 rest)

abbrev pub atom_by : Start → Option Inner → Reads Expr
atom_by numeric inner rest = made (λ n. Expr.Plain (Value.Number n)) (number rest)
atom_by (quoted quote) inner rest = made (λ t. Expr.Plain (Value.Text t)) (string quote (drop 1 rest))
atom_by bracket inner rest = made Expr.List (arguments inner Token.CloseList (any_from 0) (drop 1 rest))
atom_by group inner rest = in_group inner rest
atom_by letter inner rest = word_atom inner rest
atom_by nothing inner rest = stop tt rest

unfoldable pub atom : Option Inner → Reads Expr
atom inner rest = atom_by (start_of (front (spaces rest))) inner (spaces rest)

-- ---- keys and places, signs, filters

abbrev pub at_place : Option Inner → (Expr → Reads Expr) → Expr → Reads Expr
at_place None more base rest = Ok (base, spaces rest)
at_place (Some inner) more base rest =
    if next_is Token.OpenList rest then (do
      index ← enclosed inner Token.CloseList (behind Token.OpenList rest)
      more (Expr.At base index.0) index.1) else Ok (base, spaces rest)

-- keys and places that are asked of what was read; a number bounds the turns
unfoldable pub part_turns : ℕ → Option Inner → Expr → Reads Expr
part_turns zero inner base rest = stop tt rest
part_turns (suc n) inner base rest =
    if next_is Token.Dot rest then (do
      key ← key_name (behind Token.Dot rest)
      part_turns n inner (Expr.Field base key.0) key.1) else at_place inner (part_turns n inner) base (spaces rest)

unfoldable pub reached : Option Inner → Reads Expr
reached inner rest = do
  base ← atom inner rest
  part_turns (suc (length base.1)) inner base.0 base.1

-- perhaps a sign
unfoldable pub signed : Option Inner → Reads Expr
signed None rest = reached None (spaces rest)
signed (Some inner) rest =
    if sees 45 (spaces rest) then made Expr.Negate (inner.signed (drop 1 (spaces rest))) else reached (Some inner) (spaces rest)

-- the arguments of a filter, which has no brackets where it has none
unfoldable pub filter_arguments : Option Inner → Counts → Reads (List Expr)
filter_arguments inner counts rest =
    if (counts.least == 0 || is_some inner) && next_is Token.OpenGroup rest
    then arguments inner Token.CloseGroup counts (behind Token.OpenGroup rest) else
    (if counts.least == 0 then Ok ([], spaces rest) else stop tt (spaces rest))

-- filters behind what was read, which apply in order; a number bounds the turns
unfoldable pub filter_turns : ℕ → Option Inner → Expr → Reads Expr
filter_turns zero inner base rest = stop tt rest
filter_turns (suc n) inner base rest =
    if next_is Token.Bar rest then (do
      filter ← filter_name (is_some inner) (behind Token.Bar rest)
      args ← filter_arguments inner (filter_row filter.0).counts filter.1
      filter_turns n inner (Expr.Filter (filter_row filter.0).number base args.0) args.1) else Ok (base, spaces rest)

unfoldable pub filtered : Option Inner → Reads Expr
filtered inner rest = do
  base ← signed inner rest
  filter_turns (suc (length base.1)) inner base.0 base.1

-- ---- operands with operators of one level between them

abbrev pub after_operator : Option (Token × Op) → Reads Part → (Part → Reads Part) → Part → Reads Part
after_operator None operand more left rest = Ok (left, spaces rest)
after_operator (Some row) operand more left rest = do
  right ← operand (past row.0 rest)
  more (pair row.1 left right.0) right.1

-- further operands behind what was read; a number bounds the turns
unfoldable pub operand_turns : ℕ → List (Token × Op) → Reads Part → Part → Reads Part
operand_turns zero rows operand left rest = stop tt rest
operand_turns (suc n) rows operand left rest = after_operator (operator rows rest) operand (operand_turns n rows operand) left rest

-- they group from the left
unfoldable pub chain : List (Token × Op) → Reads Part → Reads Part
chain rows operand rest = do
  first ← operand rest
  operand_turns (suc (length first.1)) rows operand first.0 first.1

unfoldable pub product : Option Inner → Reads Part
product inner = chain (operators Level.Product) (λ rest. made (λ e. ending e Last.Operand) (filtered inner rest))

unfoldable pub joined : Option Inner → Reads Part
joined inner = chain (operators Level.Join) (product inner)

unfoldable pub sum : Option Inner → Reads Part
sum inner = chain (operators Level.Sum) (joined inner)

-- ---- comparisons

abbrev pub test_tokens : Bool → List Token
test_tokens true = Token.None ∷ Token.PrintedNone ∷ Token.Defined ∷ []
test_tokens false = Token.None ∷ Token.PrintedNone ∷ Token.Defined ∷ Token.Not ∷ []

abbrev pub tested_last : Bool → Reads Bool
tested_last turned rest =
    if next_is Token.Defined rest then Ok (turned, behind Token.Defined rest) else none_of (test_tokens turned) (spaces rest)

abbrev pub tested_printed : Bool → Reads Bool
tested_printed turned rest =
    if next_is Token.PrintedNone rest then Ok (not turned, behind Token.PrintedNone rest) else tested_last turned (spaces rest)

-- a test behind `is`, and behind `not` where it is turned
abbrev pub tested : Bool → Reads Bool
tested turned rest = if next_is Token.None rest then Ok (not turned, behind Token.None rest) else tested_printed turned (spaces rest)

-- behind `is`: whether what is none passes the test
unfoldable pub none_test : Reads Bool
none_test rest = tested (next_is Token.Not rest) (behind Token.Not rest)

abbrev pub any_operator : List (Token × Op) → Reads (Option Op)
any_operator rows rest = Ok (operator_of (operator rows rest), behind_operator (operator rows rest) rest)

-- an operator of a comparison, where one stands next
unfoldable pub comparator : Reads (Option Op)
comparator rest =
    if next_is Token.Not rest then made (λ _. Some Op.Outside) (want Token.In (behind Token.Not rest)) else
    any_operator comparisons (spaces rest)

abbrev pub with_right : Option Inner → Part → Option Op → Reads Part
with_right inner left None rest = Ok (left, rest)
with_right inner left (Some op) rest = made (λ right. ending (Expr.Pair op left.expr right.expr) Last.Compared) (sum inner rest)

abbrev pub compared : Option Inner → Part → Reads Part
compared inner left rest = do
  op ← comparator rest
  with_right inner left op.0 op.1

unfoldable pub comparison : Option Inner → Reads Part
comparison inner rest = do
  left ← sum inner rest
  if next_is Token.Is left.1 then made (λ holds. ending (Expr.IsNone left.0.expr holds) Last.Tested) (none_test (behind Token.Is left.1))
      else compared inner left.0 (spaces left.1)

-- ---- `not`, `and`, `or`

unfoldable pub negation : Option Inner → Reads Part
negation None rest = comparison None rest
negation (Some inner) rest =
    if next_is Token.Not rest then made (λ part. ending (Expr.Not part.expr) part.last) (inner.negation (behind Token.Not rest)) else
    comparison (Some inner) (spaces rest)

unfoldable pub conjunction : Option Inner → Reads Part
conjunction inner = chain (operators Level.And) (negation inner)

unfoldable pub disjunction : Option Inner → Reads Part
disjunction inner = chain (operators Level.Or) (conjunction inner)

-- the operands of a level, and the level itself
abbrev pub operand : Level → Option Inner → Reads Part
operand Level.Or inner = conjunction inner
operand Level.And inner = negation inner
operand Level.Sum inner = joined inner
operand Level.Join inner = product inner
operand Level.Product inner = λ rest. made (λ e. ending e Last.Operand) (filtered inner rest)

-- ---- expressions

abbrev pub chosen : Part → Part → Option Expr → Expr
chosen yes' test' other = Expr.Pick test'.expr yes'.expr other

abbrev pub with_else : Option Inner → Part → Part → Reads Part
with_else None yes' test' rest = Ok (ending (chosen yes' test' None) test'.last, rest)
with_else (Some inner) yes' test' rest =
    if next_is Token.Else rest
    then made (λ other. part_of (chosen yes' test' (Some other.expr)) other.last other.choice) (inner.expression (behind Token.Else rest))
    else Ok (part_of (chosen yes' test' None) test'.last (Some Token.Else), spaces rest)

-- an operand, or `a if test` with perhaps an `else`
unfoldable pub expression : Option Inner → Reads Part
expression inner rest = do
  yes' ← disjunction inner rest
  if next_is Token.If yes'.1 then (do
    test' ← disjunction inner (behind Token.If yes'.1)
    with_else inner yes'.0 test'.0 test'.1) else Ok (part_of yes'.0.expr yes'.0.last (Some Token.If), spaces yes'.1)

-- what is open inside a bracket
abbrev pub inside : Option Inner → Inner
inside inner = record { expression = expression inner; negation = negation inner; signed = signed inner }

-- What may be opened where so many more may be open: each expression in brackets, behind `else` or among arguments, each `not` and
-- each sign counts.
unfoldable pub opened : ℕ → Option Inner
opened zero = None
opened (suc depth) = Some (inside (opened depth))

-- a tag's expression, which is open itself: 64 may be open at a place
abbrev pub tag_depth : ℕ
tag_depth = 63
