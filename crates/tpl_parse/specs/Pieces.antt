-- Reading a template: texts and the tags between them.
use Rattle.std.specs.Prelude.{ℕ, zero, suc, Bool, true, false, ◌&&◌, ◌==◌, if◌then◌else◌, List, []}
use Rattle.std.specs.Prelude.{◌∷◌, ◌++◌, length, drop, reverse, Option, Some, None, Ok}
use Rattle.ha_config.specs.declared.template.Expr.{Expr}
use Rattle.ha_config.specs.declared.template.Piece.{Piece}
use Rattle.ha_config.specs.declared.template.Piece
use Rattle.ha_config.specs.declared.template.Template.{Template}
use Rattle.reading.specs.Answer.{◌>>=◌, front, made, stop}
use Rattle.reading.specs.Bytes.{sees}
use Rattle.tpl_parse.specs.declared.token.Token.{Token}
use Rattle.tpl_parse.specs.declared.pieces.Tag.{Tag}
use Rattle.tpl_parse.specs.declared.expression.Part.{Part}
use Rattle.tpl_parse.specs.Token.{Reads, spaces, next_is, behind, none_of, want}
use Rattle.tpl_parse.specs.Literal.{before, character, name}
use Rattle.tpl_parse.specs.Reading.{expression, opened, tag_depth, no_end}

-- ---- texts and comments

abbrev pub tag_of : Option ℕ → Option Tag
tag_of None = None
tag_of (Some b) = if b == 123 then Some Tag.Show else (if b == 37 then Some Tag.Statement else (if b == 35 then Some Tag.Comment else None))

-- the tag that begins here
abbrev pub tag_at : List ℕ → Option Tag
tag_at rest = if sees 123 rest then tag_of (front (drop 1 rest)) else None

abbrev pub ended : List ℕ → Bool
ended [] = true
ended (b ∷ rest) = false

abbrev pub after_text : Option Tag → Reads (Option Tag) → Reads (Option Tag)
after_text (Some tag) more rest = Ok (Some tag, rest)
after_text None more rest = if ended rest then Ok (None, rest) else (do
  c ← character rest
  more c.1)

-- characters up to the next tag, or to the end; a number bounds the turns
unfoldable pub text_turns : ℕ → Reads (Option Tag)
text_turns zero rest = stop tt rest
text_turns (suc n) rest = after_text (tag_at rest) (text_turns n) rest

unfoldable pub text : Reads (Option Tag)
text rest = text_turns (suc (length rest)) rest

abbrev pub comment_ends : List ℕ → Bool
comment_ends rest = sees 35 rest && sees 125 (drop 1 rest)

-- characters up to the end of a comment; a number bounds the turns
unfoldable pub comment_turns : ℕ → Reads Bool
comment_turns zero rest = stop tt rest
comment_turns (suc n) rest =
    if comment_ends rest then Ok (false, drop 2 rest) else
    (if sees 45 rest && comment_ends (drop 1 rest) then Ok (true, drop 3 rest) else (do
      c ← character rest
      comment_turns n c.1))

-- a comment behind its opening bytes and sign: whether it takes the blanks and breaks behind it
unfoldable pub comment : Reads Bool
comment rest = comment_turns (suc (length rest)) rest

-- the text between two tags, as their signs leave it
abbrev pub trimmed : Bool → Bool → List ℕ → List ℕ
trimmed at_front at_end text = cut_end at_end (if at_front then spaces text else text)
  where
    cut_end : Bool → List ℕ → List ℕ
    cut_end true t = reverse (spaces (reverse t))
    cut_end false t = t

-- an empty text is no piece
abbrev pub text_piece : List ℕ → List Piece
text_piece [] = []
text_piece (b ∷ rest) = Piece.Text (b ∷ rest) ∷ []

-- ---- what has been read

-- A choice that is still open: the pieces before it, its arms, and the test of the arm that is being read, which the fallback has not.
pub record Choosing : Type 0 where
  pub before : List Piece
  pub arms : List (Expr × Template)
  pub test : Option Expr

-- The choices that are open, the innermost first, the pieces of the innermost arm, and whether the last tag takes the blanks and breaks
-- behind it.
pub record Found : Type 0 where
  pub open' : List Choosing
  pub pieces : List Piece
  pub trims : Bool

abbrev pub template_of : List Piece → Template
template_of pieces = record { pieces = pieces }

-- the arms, with the one that ends here
abbrev pub arms_with : Choosing → List Piece → List (Expr × Template)
arms_with choosing pieces = with_test choosing.test
  where
    with_test : Option Expr → List (Expr × Template)
    with_test None = choosing.arms
    with_test (Some test) = choosing.arms ++ (test, template_of pieces) ∷ []

-- the pieces of the arm that ends here are the fallback where it has no test
abbrev pub fallback_of : Option Expr → List Piece → Template
fallback_of None pieces = template_of pieces
fallback_of (Some test) pieces = template_of []

abbrev pub begun : Found → Expr → Bool → Found
begun found test trims =
    record { open' = record { before = found.pieces; arms = []; test = Some test } ∷ found.open'; pieces = []; trims = trims }

abbrev pub next_arm : Found → Choosing → List Choosing → Option Expr → Bool → Found
next_arm found choosing outer test trims =
    record {
      open' = record { before = choosing.before; arms = arms_with choosing found.pieces; test = test }
          ∷ outer;
      pieces = [];
      trims = trims;
    }

abbrev pub closed : Found → Choosing → List Choosing → Bool → Found
closed found choosing outer trims =
    record {
      open' = outer;
      pieces = choosing.before
          ++ Piece.Choice (arms_with choosing found.pieces) (fallback_of choosing.test found.pieces) ∷ [];
      trims = trims;
    }

abbrev pub with_piece : Found → Piece → Bool → Found
with_piece found piece trims = record { open' = found.open'; pieces = found.pieces ++ piece ∷ []; trims = trims }

-- ---- tags

abbrev pub plain_end : Token → Token → Reads Bool
plain_end end trimming rest = if next_is end rest then Ok (false, behind end rest) else none_of (end ∷ trimming ∷ []) (spaces rest)

-- the end of a tag: whether it takes the blanks and breaks behind it
abbrev pub end_of : Token → Token → Reads Bool
end_of end trimming rest = if next_is trimming rest then Ok (true, behind trimming rest) else plain_end end trimming (spaces rest)

abbrev pub plain_last : Token → Token → Part → Reads (Expr × Bool)
plain_last end trimming part rest =
    if next_is end rest then Ok ((part.expr, false), behind end rest) else no_end part.last part.choice (end ∷ trimming ∷ []) (spaces rest)

-- an expression and the end of its tag
unfoldable pub last_expression : Token → Token → Reads (Expr × Bool)
last_expression end trimming rest = do
  part ← expression (opened tag_depth) rest
  if next_is trimming part.1 then Ok ((part.0.expr, true), behind trimming part.1) else plain_last end trimming part.0 (spaces part.1)

abbrev pub tag_expression : Reads (Expr × Bool)
tag_expression = last_expression Token.TagEnd Token.TrimTagEnd

abbrev pub tag_end : Reads Bool
tag_end = end_of Token.TagEnd Token.TrimTagEnd

-- the words that may begin a statement
abbrev pub statements : List Choosing → List Token
statements [] = Token.Set ∷ Token.If ∷ []
statements (choosing ∷ outer) = in_arm choosing.test
  where
    in_arm : Option Expr → List Token
    in_arm None = Token.Set ∷ Token.If ∷ Token.Endif ∷ []
    in_arm (Some test) = Token.Set ∷ Token.If ∷ Token.Elif ∷ Token.Else ∷ Token.Endif ∷ []

-- the first of these tokens that stands next
unfoldable pub one_of : List Token → List Token → Reads Token
one_of all [] rest = none_of all (spaces rest)
one_of all (token ∷ tokens) rest = if next_is token rest then Ok (token, behind token rest) else one_of all tokens rest

unfoldable pub set_name : Found → Reads Found
set_name found rest = do
  n ← name rest
  sign ← want Token.Assign n.1
  value ← tag_expression sign.1
  Ok (with_piece found (Piece.Assign n.0 value.0.0) value.0.1, value.1)

abbrev pub in_choice : Token → Found → Choosing → List Choosing → Reads Found
in_choice Token.Elif found choosing outer rest = made (λ test. next_arm found choosing outer (Some test.0) test.1) (tag_expression rest)
in_choice Token.Else found choosing outer rest = made (next_arm found choosing outer None) (tag_end rest)
in_choice _ found choosing outer rest = made (closed found choosing outer) (tag_end rest)

abbrev pub open_choice : List Choosing → Token → Found → Reads Found
open_choice [] token found rest = stop tt rest
open_choice (choosing ∷ outer) token found rest = in_choice token found choosing outer rest

abbrev pub statement_by : Token → Found → Reads Found
statement_by Token.Set found rest = set_name found rest
statement_by Token.If found rest = made (λ test. begun found test.0 test.1) (tag_expression rest)
statement_by token found rest = open_choice found.open' token found rest

unfoldable pub statement : Found → Reads Found
statement found rest = do
  token ← one_of (statements found.open') (statements found.open') rest
  statement_by token.0 found token.1

-- a tag behind its opening bytes and sign
abbrev pub tag_by : Tag → Found → Reads Found
tag_by Tag.Show found rest = made (λ e. with_piece found (Piece.Show e.0) e.1) (last_expression Token.ShowEnd Token.TrimShowEnd rest)
tag_by Tag.Statement found rest = statement found rest
tag_by Tag.Comment found rest = made (λ trims. record { open' = found.open'; pieces = found.pieces; trims = trims }) (comment rest)

-- ---- the whole text

abbrev pub none_open : List Choosing → Bool
none_open [] = true
none_open (choosing ∷ outer) = false

abbrev pub with_text : Found → Bool → List ℕ → Found
with_text found sign t =
    record { open' = found.open'; pieces = found.pieces ++ text_piece (trimmed found.trims sign t); trims = found.trims }

abbrev pub finished : Found → List ℕ → Reads Template
finished found t rest = if none_open found.open' then Ok (template_of (with_text found false t).pieces, rest) else stop tt rest

abbrev pub sign_of : List ℕ → Bool
sign_of rest = sees 45 (drop 2 rest)

abbrev pub behind_sign : List ℕ → List ℕ
behind_sign rest = if sign_of rest then drop 3 rest else drop 2 rest

abbrev pub after_piece : Option Tag → (Found → Reads Template) → Found → List ℕ → Reads Template
after_piece None more found t rest = finished found t rest
after_piece (Some tag) more found t rest = do
  next ← tag_by tag (with_text found (sign_of rest) t) (behind_sign rest)
  more next.0 next.1

-- texts and tags behind what was found; a number bounds the turns
unfoldable pub piece_turns : ℕ → Found → Reads Template
piece_turns zero found rest = stop tt rest
piece_turns (suc n) found rest = do
  tag ← text rest
  after_piece tag.0 (piece_turns n) found (before rest tag.1) tag.1

unfoldable pub template : Reads Template
template rest = piece_turns (suc (length rest)) (record { open' = []; pieces = []; trims = false }) rest
