-- The grammar of templates. In each rule a text is a spelling of a tree, and then the rest of the text follows. A token stands next
-- where it is the longest one behind blanks and breaks. A repetition may end anywhere: what stands behind it decides.
use Rattle.std.specs.Prelude.{◌≡◌, ℕ, suc, Bool, true, false, ◌&&◌, ◌||◌, ◌==◌, nat_le, List, [], ◌∷◌, ◌++◌}
use Rattle.std.specs.Prelude.{length, drop, Option, Some, None, Result, Ok, Err, encode_utf8}
use Rattle.std.specs.Char.{IsScalar, is_ascii_digit}
use Rattle.ha_value.specs.declared.value.Num.{Num}
use Rattle.ha_value.specs.declared.value.Value.{Value}
use Rattle.ha_value.specs.Numbers.{read_number}
use Rattle.ha_config.specs.declared.template.Op.{Op}
use Rattle.ha_config.specs.declared.template.Expr.{Expr}
use Rattle.ha_config.specs.declared.template.Expr
use Rattle.ha_config.specs.declared.template.Piece.{Piece}
use Rattle.ha_config.specs.declared.template.Piece
use Rattle.ha_config.specs.declared.template.Template.{Template}
use Rattle.reading.specs.Bytes.{sees}
use Rattle.tpl_parse.specs.declared.fault.ParseFault.{ParseFault}
use Rattle.tpl_parse.specs.declared.fault.ParseFault.TheVariants as faults
use Rattle.tpl_parse.specs.declared.token.Token.{Token}
use Rattle.tpl_parse.specs.declared.pieces.Tag.{Tag}
use Rattle.tpl_parse.specs.declared.expression.Level.{Level}
use Rattle.tpl_parse.specs.declared.table.Counts.{Counts}
use Rattle.tpl_parse.specs.declared.table.Filter.{Filter}
use Rattle.tpl_parse.specs.declared.table.Function.{Function}
use Rattle.tpl_parse.specs.Token.{begins_name, in_name, is_reserved, spaces, next_is, past}
use Rattle.tpl_parse.specs.Names.{filter_row, function_row, filter_named, function_named, any_from}
use Rattle.tpl_parse.specs.Literal.{unescaped, escape_at, begins_places}
use Rattle.tpl_parse.specs.Reading.{constant, tag_depth}
use Rattle.tpl_parse.specs.Pieces.{tag_at, tag_of, comment_ends, trimmed, text_piece, template_of}

-- the token stands next
pub data Takes (token : Token) : List ℕ → List ℕ → Type 0 where
  takes : {text : List ℕ} → next_is token text ≡ true → Takes token text (past token text)

-- ---- characters, strings, numbers, names

-- a character, in UTF-8
pub data IsCharacter : List ℕ → List ℕ → List ℕ → Type 0 where
  character : (c : ℕ) {rest : List ℕ} → IsScalar c → IsCharacter (encode_utf8 c ++ rest) (encode_utf8 c) rest

-- What stands in a string up to its quote, which is taken too. A backslash that begins no escape is a character like others.
pub data IsString (quote : ℕ) : List ℕ → List ℕ → List ℕ → Type 0 where
  close : {rest : List ℕ} → IsString quote (quote ∷ rest) [] rest
  escape : {b meant : ℕ} {text s rest : List ℕ} → unescaped b ≡ Some meant
      → IsString quote text s rest → IsString quote (92 ∷ b ∷ text) (meant ∷ s) rest
  itself : {text c after s rest : List ℕ}
      → sees quote text ≡ false → escape_at text ≡ None → IsCharacter text c after
      → IsString quote after s rest → IsString quote text (c ++ s) rest

abbrev pub is_quote : ℕ → Bool
is_quote b = b == 34 || b == 39

-- the longest run of bytes that the test allows
pub data IsRun (allows : ℕ → Bool) : List ℕ → List ℕ → List ℕ → Type 0 where
  end : IsRun allows [] [] []
  other : {b : ℕ} {rest : List ℕ} → allows b ≡ false → IsRun allows (b ∷ rest) [] (b ∷ rest)
  more : {b : ℕ} {text run rest : List ℕ} → allows b ≡ true → IsRun allows text run rest → IsRun allows (b ∷ text) (b ∷ run) rest

abbrev pub IsWord : List ℕ → List ℕ → List ℕ → Type 0
IsWord = IsRun in_name

abbrev pub IsDigits : List ℕ → List ℕ → List ℕ → Type 0
IsDigits = IsRun is_ascii_digit

-- digits, and perhaps a dot with digits behind it; a dot with no digit behind it is not the number's
pub data IsNumeral : List ℕ → List ℕ → List ℕ → Type 0 where
  whole : {b : ℕ} {text digits rest : List ℕ} → is_ascii_digit b ≡ true
      → IsDigits (b ∷ text) digits rest → begins_places rest ≡ false → IsNumeral (b ∷ text) digits rest
  places : {b c : ℕ} {text digits behind places rest : List ℕ}
      → is_ascii_digit b ≡ true → IsDigits (b ∷ text) digits (46 ∷ c ∷ behind) → is_ascii_digit c ≡ true → IsDigits (c ∷ behind) places rest
      → IsNumeral (b ∷ text) (digits ++ 46 ∷ places) rest

pub data IsNumber : List ℕ → Num → List ℕ → Type 0 where
  number : {text digits rest : List ℕ} {n : Num} → IsNumeral text digits rest → read_number digits ≡ Some n → IsNumber text n rest

-- a word that begins with a letter or `_` and is none of the grammar
pub data IsName : List ℕ → List ℕ → List ℕ → Type 0 where
  name : {b : ℕ} {text word rest : List ℕ} → begins_name b ≡ true
      → IsWord (b ∷ text) word rest → is_reserved word ≡ false → IsName (b ∷ text) word rest

-- `states` without a call is no name of a variable
abbrev pub is_variable : Option Function → Bool
is_variable (Some Function.States) = false
is_variable _ = true

-- ---- operators

-- the operators of the levels that group from the left
pub data Joins : Level → Token → Op → Type 0 where
  or : Joins Level.Or Token.Or Op.Or
  and : Joins Level.And Token.And Op.And
  plus : Joins Level.Sum Token.Plus Op.Plus
  minus : Joins Level.Sum Token.Minus Op.Minus
  join : Joins Level.Join Token.Join Op.Join
  times : Joins Level.Product Token.Times Op.Times
  over : Joins Level.Product Token.Over Op.Over
  floor : Joins Level.Product Token.Floor Op.Floor
  modulo : Joins Level.Product Token.Modulo Op.Modulo

pub data Compares : Token → Op → Type 0 where
  equal : Compares Token.Equal Op.Equal
  unequal : Compares Token.Unequal Op.Unequal
  less : Compares Token.Less Op.Less
  at_most : Compares Token.AtMost Op.AtMost
  greater : Compares Token.More Op.More
  at_least : Compares Token.AtLeast Op.AtLeast
  within : Compares Token.In Op.Within

-- `none` in both spellings
pub data IsNoneToken : Token → Type 0 where
  plain_none : IsNoneToken Token.None
  printed_none : IsNoneToken Token.PrintedNone

-- behind `is`: whether what is none passes
pub data IsTest : Bool → List ℕ → List ℕ → Type 0 where
  is_none : {token : Token} {text rest : List ℕ} → IsNoneToken token → Takes token text rest → IsTest true text rest
  is_defined : {text rest : List ℕ} → Takes Token.Defined text rest → IsTest false text rest
  is_not_none : {token : Token} {text behind rest : List ℕ} → Takes Token.Not text behind
      → IsNoneToken token → Takes token behind rest → IsTest false text rest
  is_not_defined : {text behind rest : List ℕ} → Takes Token.Not text behind → Takes Token.Defined behind rest → IsTest true text rest

-- ---- what brackets hold

pub data Holder : Type 0 where
  of_list : Holder
  of_call : Function → Holder
  of_filter : Filter → Expr → Holder

abbrev pub closing : Holder → Token
closing of_list = Token.CloseList
closing (of_call function) = Token.CloseGroup
closing (of_filter filter base) = Token.CloseGroup

-- how many items it may have
abbrev pub counts_of : Holder → Counts
counts_of of_list = any_from 0
counts_of (of_call function) = (function_row function).counts
counts_of (of_filter filter base) = (filter_row filter).counts

abbrev pub made_of : Holder → List Expr → Expr
made_of of_list items = Expr.List items
made_of (of_call function) items = Expr.Function (function_row function).number items
made_of (of_filter filter base) items = Expr.Filter (filter_row filter).number base items

abbrev pub is_within : Option ℕ → ℕ → Bool
is_within None count = true
is_within (Some most) count = nat_le count most

abbrev pub allows : Counts → ℕ → Bool
allows counts count = nat_le counts.least count && is_within counts.most count

-- ---- expressions

-- the rules of the grammar; a chain grows to the left, so its further parts stand behind what was read
pub data Phrase : Type 0 where
  an_expression a_negation a_comparison with_filters with_sign with_parts an_atom : Phrase
  operands : Level → Phrase
  more_operands : Level → Expr → Phrase
  more_filters : Expr → Phrase
  more_parts : Expr → Phrase
  in_brackets : Holder → Phrase
  more_items : Holder → List Expr → Phrase

-- `not` and the comparisons stand between `and` and the sums
abbrev pub operand_of : Level → Phrase
operand_of Level.Or = operands Level.And
operand_of Level.And = a_negation
operand_of Level.Sum = operands Level.Join
operand_of Level.Join = operands Level.Product
operand_of Level.Product = with_filters

-- The number says how many more expressions may be open: each in brackets or behind `else`, each `not` and each sign counts.
pub data Is : Phrase → ℕ → List ℕ → Expr → List ℕ → Type 0 where
  -- or [ "if" or [ "else" e ] ]
  chosen : {depth : ℕ} {text rest : List ℕ} {e : Expr} → Is (operands Level.Or) depth text e rest → Is an_expression depth text e rest
  chosen_if : {depth : ℕ} {text a b rest : List ℕ} {yes' test' : Expr}
      → Is (operands Level.Or) depth text yes' a → Takes Token.If a b
      → Is (operands Level.Or) depth b test' rest → Is an_expression depth text (Expr.Pick test' yes' None) rest
  chosen_else : {depth : ℕ} {text a b c d rest : List ℕ} {yes' test' other' : Expr}
      → Is (operands Level.Or) (suc depth) text yes' a → Takes Token.If a b
      → Is (operands Level.Or) (suc depth) b test' c → Takes Token.Else c d
      → Is an_expression depth d other' rest → Is an_expression (suc depth) text (Expr.Pick test' yes' (Some other')) rest
  -- operand { operator operand }
  chain : {level : Level} {depth : ℕ} {text a rest : List ℕ} {left e : Expr}
      → Is (operand_of level) depth text left a → Is (more_operands level left) depth a e rest → Is (operands level) depth text e rest
  no_operand : {level : Level} {depth : ℕ} {text : List ℕ} {left : Expr} → Is (more_operands level left) depth text left text
  one_operand : {level : Level} {token : Token} {op : Op} {depth : ℕ} {text a b rest : List ℕ} {left right e : Expr}
      → Joins level token op → Takes token text a → Is (operand_of level) depth a right b
      → Is (more_operands level (Expr.Pair op left right)) depth b e rest
      → Is (more_operands level left) depth text e rest
  -- "not" not | comparison
  negated : {depth : ℕ} {text a rest : List ℕ} {e : Expr} → Takes Token.Not text a
      → Is a_negation depth a e rest → Is a_negation (suc depth) text (Expr.Not e) rest
  compared : {depth : ℕ} {text rest : List ℕ} {e : Expr} → Is a_comparison depth text e rest → Is a_negation depth text e rest
  -- sum [ operator sum | "not" "in" sum | "is" test ]
  alone : {depth : ℕ} {text rest : List ℕ} {e : Expr} → Is (operands Level.Sum) depth text e rest → Is a_comparison depth text e rest
  compare : {token : Token} {op : Op} {depth : ℕ} {text a b rest : List ℕ} {left right : Expr}
      → Is (operands Level.Sum) depth text left a → Compares token op → Takes token a b → Is (operands Level.Sum) depth b right rest
      → Is a_comparison depth text (Expr.Pair op left right) rest
  outside : {depth : ℕ} {text a b c rest : List ℕ} {left right : Expr}
      → Is (operands Level.Sum) depth text left a → Takes Token.Not a b → Takes Token.In b c → Is (operands Level.Sum) depth c right rest
      → Is a_comparison depth text (Expr.Pair Op.Outside left right) rest
  tested : {depth : ℕ} {text a b rest : List ℕ} {base : Expr} {holds : Bool}
      → Is (operands Level.Sum) depth text base a → Takes Token.Is a b
      → IsTest holds b rest → Is a_comparison depth text (Expr.IsNone base holds) rest
  -- sign { "|" name [ "(" arguments ")" ] }
  filtered : {depth : ℕ} {text a rest : List ℕ} {base e : Expr} → Is with_sign depth text base a
      → Is (more_filters base) depth a e rest → Is with_filters depth text e rest
  no_filter : {depth : ℕ} {text : List ℕ} {base : Expr} → Is (more_filters base) depth text base text
  bare_filter : {depth : ℕ} {text a b word rest : List ℕ} {base e : Expr} {filter : Filter}
      → Takes Token.Bar text a → IsWord (spaces a) word b → filter_named word ≡ Some filter → allows (filter_row filter).counts 0 ≡ true
      → Is (more_filters (Expr.Filter (filter_row filter).number base [])) depth b e rest → Is (more_filters base) depth text e rest
  one_filter : {depth : ℕ} {text a b c d word rest : List ℕ} {base applied e : Expr} {filter : Filter}
      → Takes Token.Bar text a → IsWord (spaces a) word b → filter_named word ≡ Some filter → Takes Token.OpenGroup b c
      → Is (in_brackets (of_filter filter base)) depth c applied d
      → Is (more_filters applied) depth d e rest → Is (more_filters base) depth text e rest
  -- "-" sign | parts
  negative : {depth : ℕ} {text a rest : List ℕ} {e : Expr} → spaces text ≡ 45 ∷ a
      → Is with_sign depth a e rest → Is with_sign (suc depth) text (Expr.Negate e) rest
  unsigned : {depth : ℕ} {text rest : List ℕ} {e : Expr} → Is with_parts depth text e rest → Is with_sign depth text e rest
  -- atom { "." name | "[" e "]" }
  asked : {depth : ℕ} {text a rest : List ℕ} {base e : Expr} → Is an_atom depth text base a
      → Is (more_parts base) depth a e rest → Is with_parts depth text e rest
  no_part : {depth : ℕ} {text : List ℕ} {base : Expr} → Is (more_parts base) depth text base text
  one_key : {depth : ℕ} {text a b word rest : List ℕ} {base e : Expr}
      → Takes Token.Dot text a → IsName (spaces a) word b
      → Is (more_parts (Expr.Field base word)) depth b e rest → Is (more_parts base) depth text e rest
  one_place : {depth : ℕ} {text a b c rest : List ℕ} {base index e : Expr}
      → Takes Token.OpenList text a → Is an_expression depth a index b
      → Takes Token.CloseList b c → Is (more_parts (Expr.At base index)) (suc depth) c e rest
      → Is (more_parts base) (suc depth) text e rest
  -- number | string | constant | name | name "(" arguments ")" | "[" items "]" | "(" e ")"
  of_number : {depth : ℕ} {text rest : List ℕ} {n : Num} → IsNumber (spaces text) n rest
      → Is an_atom depth text (Expr.Plain (Value.Number n)) rest
  of_string : {depth quote : ℕ} {text a s rest : List ℕ}
      → spaces text ≡ quote ∷ a → is_quote quote ≡ true → IsString quote a s rest → Is an_atom depth text (Expr.Plain (Value.Text s)) rest
  of_constant : {depth : ℕ} {text word rest : List ℕ} {value : Value} → IsWord (spaces text) word rest
      → constant word ≡ Some value → Is an_atom depth text (Expr.Plain value) rest
  of_name : {depth : ℕ} {text word rest : List ℕ} → IsName (spaces text) word rest
      → is_variable (function_named word) ≡ true → Is an_atom depth text (Expr.Name word) rest
  of_function : {depth : ℕ} {text a b word rest : List ℕ} {e : Expr} {function : Function}
      → IsName (spaces text) word a → function_named word ≡ Some function
      → Takes Token.OpenGroup a b → Is (in_brackets (of_call function)) depth b e rest
      → Is an_atom depth text e rest
  of_items : {depth : ℕ} {text a rest : List ℕ} {e : Expr} → Takes Token.OpenList text a
      → Is (in_brackets of_list) depth a e rest → Is an_atom depth text e rest
  of_group : {depth : ℕ} {text a b rest : List ℕ} {e : Expr}
      → Takes Token.OpenGroup text a → Is an_expression depth a e b → Takes Token.CloseGroup b rest → Is an_atom (suc depth) text e rest
  -- [ e { "," e } ], as many as may stand there, and the closing bracket
  no_items : {holder : Holder} {depth : ℕ} {text rest : List ℕ}
      → allows (counts_of holder) 0 ≡ true → Takes (closing holder) text rest → Is (in_brackets holder) depth text (made_of holder []) rest
  some_items : {holder : Holder} {depth : ℕ} {text rest : List ℕ} {e : Expr}
      → Is (more_items holder []) depth text e rest → Is (in_brackets holder) (suc depth) text e rest
  last_item : {holder : Holder} {depth : ℕ} {found : List Expr} {text a rest : List ℕ} {e : Expr}
      → Is an_expression depth text e a → allows (counts_of holder) (length (found ++ e ∷ [])) ≡ true → Takes (closing holder) a rest
      → Is (more_items holder found) depth text (made_of holder (found ++ e ∷ [])) rest
  one_item : {holder : Holder} {depth : ℕ} {found : List Expr} {text a b rest : List ℕ} {e made' : Expr}
      → Is an_expression depth text e a → Takes Token.Comma a b
      → Is (more_items holder (found ++ e ∷ [])) depth b made' rest → Is (more_items holder found) depth text made' rest

-- ---- pieces

-- characters among which no tag begins
pub data IsText : List ℕ → List ℕ → List ℕ → Type 0 where
  no_character : {rest : List ℕ} → IsText rest [] rest
  one_character : {text c after t rest : List ℕ} → tag_at text ≡ None
      → IsCharacter text c after → IsText after t rest → IsText text (c ++ t) rest

-- the opening bytes of a tag, perhaps with a sign that takes away the blanks and breaks before the tag
pub data Opens : Tag → Bool → List ℕ → List ℕ → Type 0 where
  plain : {tag : Tag} {b : ℕ} {rest : List ℕ} → tag_of (Some b) ≡ Some tag → sees 45 rest ≡ false → Opens tag false (123 ∷ b ∷ rest) rest
  trimming : {tag : Tag} {b : ℕ} {rest : List ℕ} → tag_of (Some b) ≡ Some tag → Opens tag true (123 ∷ b ∷ 45 ∷ rest) rest

-- a comment behind its opening bytes, up to the first end; whether it takes away the blanks and breaks behind it
pub data IsComment : Bool → List ℕ → List ℕ → Type 0 where
  comment_end : {rest : List ℕ} → IsComment false (35 ∷ 125 ∷ rest) rest
  trimming_end : {rest : List ℕ} → IsComment true (45 ∷ 35 ∷ 125 ∷ rest) rest
  comment_more : {trims : Bool} {text c after rest : List ℕ}
      → comment_ends text ≡ false → (sees 45 text && comment_ends (drop 1 text)) ≡ false
      → IsCharacter text c after → IsComment trims after rest → IsComment trims text rest

-- the end of a tag, perhaps with a sign
pub data IsEnd (end trimming : Token) : Bool → List ℕ → List ℕ → Type 0 where
  ends : {text rest : List ℕ} → Takes end text rest → IsEnd end trimming false text rest
  ends_trimming : {text rest : List ℕ} → Takes trimming text rest → IsEnd end trimming true text rest

abbrev pub IsTagEnd : Bool → List ℕ → List ℕ → Type 0
IsTagEnd = IsEnd Token.TagEnd Token.TrimTagEnd

-- an expression and the end of its tag
pub data IsLast (end trimming : Token) : Expr → Bool → List ℕ → List ℕ → Type 0 where
  last : {e : Expr} {trims : Bool} {text a rest : List ℕ} → Is an_expression tag_depth text e a
      → IsEnd end trimming trims a rest → IsLast end trimming e trims text rest

abbrev pub IsTagExpression : Expr → Bool → List ℕ → List ℕ → Type 0
IsTagExpression = IsLast Token.TagEnd Token.TrimTagEnd

-- Where pieces go on: behind a tag or at the front, and whether the blanks and breaks there are taken away; behind the opening bytes
-- of a tag; and there where the tag ends an arm of a choice, with its arms so far.
pub data Place : Type 0 where
  behind : Bool → Place
  inside_tag : Tag → Place
  after_arms : List (Expr × Template) → Place

-- what pieces end with: the text, or the opening bytes of a statement
pub data Stop : Type 0 where
  at_the_end at_a_statement : Stop

pub data IsPieces : Place → Stop → List ℕ → List Piece → List ℕ → Type 0 where
  last_text : {trims : Bool} {text t : List ℕ} → IsText text t []
      → IsPieces (behind trims) at_the_end text (text_piece (trimmed trims false t)) []
  tag : {trims sign : Bool} {kind : Tag} {stop : Stop} {text t a b rest : List ℕ} {ps : List Piece}
      → IsText text t a → Opens kind sign a b → IsPieces (inside_tag kind) stop b ps rest
      → IsPieces (behind trims) stop text (text_piece (trimmed trims sign t) ++ ps) rest
  comment : {trims : Bool} {stop : Stop} {text a rest : List ℕ} {ps : List Piece}
      → IsComment trims text a → IsPieces (behind trims) stop a ps rest → IsPieces (inside_tag Tag.Comment) stop text ps rest
  shown : {trims : Bool} {stop : Stop} {text a rest : List ℕ} {e : Expr} {ps : List Piece}
      → IsLast Token.ShowEnd Token.TrimShowEnd e trims text a → IsPieces (behind trims) stop a ps rest
      → IsPieces (inside_tag Tag.Show) stop text (Piece.Show e ∷ ps) rest
  -- a statement ends the pieces of an arm
  stops : {text : List ℕ} → IsPieces (inside_tag Tag.Statement) at_a_statement text [] text
  set : {trims : Bool} {stop : Stop} {text a b c d word rest : List ℕ} {e : Expr} {ps : List Piece}
      → Takes Token.Set text a → IsName (spaces a) word b → Takes Token.Assign b c
      → IsTagExpression e trims c d → IsPieces (behind trims) stop d ps rest
      → IsPieces (inside_tag Tag.Statement) stop text (Piece.Assign word e ∷ ps) rest
  choice : {trims : Bool} {stop : Stop} {text a b c rest : List ℕ} {test' : Expr} {body ps : List Piece}
      → Takes Token.If text a → IsTagExpression test' trims a b → IsPieces (behind trims) at_a_statement b body c
      → IsPieces (after_arms ((test', template_of body) ∷ [])) stop c ps rest → IsPieces (inside_tag Tag.Statement) stop text ps rest
  elif : {trims : Bool} {stop : Stop} {arms : List (Expr × Template)} {text a b c rest : List ℕ} {test' : Expr} {body ps : List Piece}
      → Takes Token.Elif text a → IsTagExpression test' trims a b → IsPieces (behind trims) at_a_statement b body c
      → IsPieces (after_arms (arms ++ (test', template_of body) ∷ [])) stop c ps rest → IsPieces (after_arms arms) stop text ps rest
  otherwise : {trims trims_end : Bool} {stop : Stop} {arms : List (Expr × Template)} {text a b c d f rest : List ℕ} {body ps : List Piece}
      → Takes Token.Else text a → IsTagEnd trims a b
      → IsPieces (behind trims) at_a_statement b body c → Takes Token.Endif c d → IsTagEnd trims_end d f
      → IsPieces (behind trims_end) stop f ps rest → IsPieces (after_arms arms) stop text (Piece.Choice arms (template_of body) ∷ ps) rest
  endif : {trims : Bool} {stop : Stop} {arms : List (Expr × Template)} {text a b rest : List ℕ} {ps : List Piece}
      → Takes Token.Endif text a → IsTagEnd trims a b → IsPieces (behind trims) stop b ps rest
      → IsPieces (after_arms arms) stop text (Piece.Choice arms (template_of []) ∷ ps) rest

-- the whole text
pub data IsTemplate (text : List ℕ) : Template → Type 0 where
  template : {ps : List Piece} → IsPieces (behind false) at_the_end text ps [] → IsTemplate text (template_of ps)

-- this tree is the answer, unless memory ran out
abbrev pub Answers : Result Template ParseFault → Template → Type 0
Answers (Ok x) tree = x ≡ tree
Answers (Err faults.Memory) tree = Unit {0}
Answers (Err (faults.At at)) tree = ⊥
