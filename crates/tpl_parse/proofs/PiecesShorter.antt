-- No rule of pieces leaves a longer text than it was given, and no fault stands before it.
use Rattle.std.proofs.Common.{ℕ, zero, suc, ◌≤◌, true, false, cond, inl, inr, List, [], ◌∷◌, length, drop, Option, Some, None, Ok, arith}
use Rattle.std.specs.Prelude.{◌&&◌}
use Rattle.std.proofs.Math.ListN.{length-drop}
use Rattle.ha_config.specs.declared.template.Template.{Template}
use Rattle.reading.specs.Bytes.{sees}
use Rattle.reading.proofs.Basics.{chosen_is}
use Rattle.reading.proofs.Shorter.{kept, refused, bind, either, made_leaves}
use Rattle.tpl_parse.specs.declared.token.Token.{Token}
use Rattle.tpl_parse.specs.declared.pieces.Tag.{Tag}
use Rattle.tpl_parse.specs.declared.expression.Part.{Part}
use Rattle.tpl_parse.specs.Token.{Reads, reach, spaces, next_is, behind}
use Rattle.tpl_parse.specs.Literal.{before}
use Rattle.tpl_parse.specs.Reading.{opened, tag_depth}
use Rattle.tpl_parse.specs.Pieces.{Choosing, Found, after_piece, after_text, behind_sign, comment, comment_ends, comment_turns, end_of, finished, in_choice, last_expression, one_of, open_choice, piece_turns, plain_end, plain_last, set_name, sign_of, statement, statement_by, statements, tag_at, tag_by, template, text, text_turns, with_text}
use Rattle.tpl_parse.proofs.Shorter.{Keeps, length-drop_some, length-spaces, length-behind, character_keeps, name_keeps, want_keeps, expression_keeps, opened_opens}

-- ---- texts and comments

after_text_keeps : (tag : Option Tag) (more : Reads (Option Tag)) → Keeps more → Keeps (after_text tag more)
after_text_keeps (Some tag) more h m t le = kept le
after_text_keeps None more h m t le = either _ (kept le) (bind (character_keeps m t le) (λ x k. h m x.1 k))

pub text_turns_keeps : (n : ℕ) → Keeps (text_turns n)
unfolding text_turns
text_turns_keeps zero m t le = refused le
text_turns_keeps (suc n) m t le = after_text_keeps (tag_at t) (text_turns n) (text_turns_keeps n) m t le

pub text_keeps : Keeps text
unfolding text
text_keeps m t le = text_turns_keeps (suc (length t)) m t le

pub comment_turns_keeps : (n : ℕ) → Keeps (comment_turns n)
unfolding comment_turns
comment_turns_keeps zero m t le = refused le
comment_turns_keeps (suc n) m t le =
    either (comment_ends t) (kept (omega (arith, length-drop_some 2 t))) (either (sees 45 t && comment_ends (drop 1 t)) (kept (omega (arith, length-drop_some 3 t))) (bind (character_keeps m t le) (λ x k. comment_turns_keeps n m x.1 k)))

pub comment_keeps : Keeps comment
unfolding comment
comment_keeps m t le = comment_turns_keeps (suc (length t)) m t le

-- ---- tags

pub one_of_keeps : (all tokens : List Token) → Keeps (one_of all tokens)
unfolding one_of
one_of_keeps all [] m t le = refused (omega (arith, length-drop_some (reach all (spaces t)) (spaces t), length-spaces t))
one_of_keeps all (token ∷ tokens) m t le = either _ (kept (omega (arith, length-behind token t))) (one_of_keeps all tokens m t le)

pub plain_end_keeps : (end trimming : Token) → Keeps (plain_end end trimming)
plain_end_keeps end trimming m t le =
    either _ (kept (omega (arith, length-behind end t))) (refused (omega (arith, length-drop_some (reach (end ∷ trimming ∷ []) (spaces t)) (spaces t), length-spaces t)))

pub end_of_keeps : (end trimming : Token) → Keeps (end_of end trimming)
end_of_keeps end trimming m t le = either _ (kept (omega (arith, length-behind trimming t))) (plain_end_keeps end trimming m (spaces t) (omega (arith, length-spaces t)))

pub plain_last_keeps : (end trimming : Token) (part : Part) → Keeps (plain_last end trimming part)
plain_last_keeps end trimming part m t le = either _ (kept (omega (arith, length-behind end t))) (refused (omega (arith, length-drop {A = ℕ}, length-spaces t)))

pub tail_keeps : (end trimming : Token) (part : Part) → Keeps (λ t. cond (next_is trimming t) (Ok ((part.expr, true), behind trimming t)) (plain_last end trimming part (spaces t)))
tail_keeps end trimming part m t le = either _ (kept (omega (arith, length-behind trimming t))) (plain_last_keeps end trimming part m (spaces t) (omega (arith, length-spaces t)))

pub last_expression_keeps : (end trimming : Token) → Keeps (last_expression end trimming)
unfolding last_expression
last_expression_keeps end trimming m t le = bind (expression_keeps (opened tag_depth) (opened_opens tag_depth) m t le) (λ x k. tail_keeps end trimming x.0 m x.1 k)

set_name_keeps : (found : Found) → Keeps (set_name found)
unfolding set_name
set_name_keeps found m t le =
    bind (name_keeps m t le) (λ n h. bind (want_keeps Token.Assign m n.1 h) (λ sign k. bind (last_expression_keeps Token.TagEnd Token.TrimTagEnd m sign.1 k) (λ value l. kept l)))

in_choice_keeps : (token : Token) (found : Found) (choosing : Choosing) (outer : List Choosing) → Keeps (in_choice token found choosing outer)
in_choice_keeps Token.Elif found choosing outer m t le = made_leaves _ (last_expression_keeps Token.TagEnd Token.TrimTagEnd m t le)
in_choice_keeps Token.Else found choosing outer m t le = made_leaves _ (end_of_keeps Token.TagEnd Token.TrimTagEnd m t le)
in_choice_keeps _ found choosing outer m t le = made_leaves _ (end_of_keeps Token.TagEnd Token.TrimTagEnd m t le)

open_choice_keeps : (open' : List Choosing) (token : Token) (found : Found) → Keeps (open_choice open' token found)
open_choice_keeps [] token found m t le = refused le
open_choice_keeps (choosing ∷ outer) token found m t le = in_choice_keeps token found choosing outer m t le

pub statement_by_keeps : (token : Token) (found : Found) → Keeps (statement_by token found)
statement_by_keeps Token.Set found m t le = set_name_keeps found m t le
statement_by_keeps Token.If found m t le = made_leaves _ (last_expression_keeps Token.TagEnd Token.TrimTagEnd m t le)
statement_by_keeps token found m t le = open_choice_keeps found.open' token found m t le

statement_keeps : (found : Found) → Keeps (statement found)
unfolding statement
statement_keeps found m t le = bind (one_of_keeps (statements found.open') (statements found.open') m t le) (λ x k. statement_by_keeps x.0 found m x.1 k)

pub tag_by_keeps : (tag : Tag) (found : Found) → Keeps (tag_by tag found)
tag_by_keeps Tag.Show found m t le = made_leaves _ (last_expression_keeps Token.ShowEnd Token.TrimShowEnd m t le)
tag_by_keeps Tag.Statement found m t le = statement_keeps found m t le
tag_by_keeps Tag.Comment found m t le = made_leaves _ (comment_keeps m t le)

-- ---- the whole text

pub length-behind_sign : (t : List ℕ) → length (behind_sign t) ≤ length (drop 2 t)
length-behind_sign t = elim (chosen_is (sign_of t)) [ inl b ↦ rw b (omega (arith, length-drop {A = ℕ})) | inr b ↦ rw b (omega arith) ]

finished_keeps : (found : Found) (text : List ℕ) → Keeps (finished found text)
finished_keeps found text m t le = either _ (kept le) (refused le)

pub after_piece_keeps : (tag : Option Tag) (more : Found → Reads Template) → ((found : Found) → Keeps (more found)) → (found : Found) (text : List ℕ) → Keeps (after_piece tag more found text)
after_piece_keeps None more h found text m t le = finished_keeps found text m t le
after_piece_keeps (Some tag) more h found text m t le =
    bind (tag_by_keeps tag (with_text found (sign_of t) text) m (behind_sign t) (omega (arith, length-behind_sign t, length-drop_some 2 t))) (λ x k. h x.0 m x.1 k)

pub piece_turns_keeps : (n : ℕ) (found : Found) → Keeps (piece_turns n found)
unfolding piece_turns
piece_turns_keeps zero found m t le = refused le
piece_turns_keeps (suc n) found m t le = bind (text_keeps m t le) (λ x k. after_piece_keeps x.0 (piece_turns n) (λ next. piece_turns_keeps n next) found (before t x.1) m x.1 k)

pub template_keeps : Keeps template
unfolding template
template_keeps m t le = piece_turns_keeps (suc (length t)) (record { open' = []; pieces = []; trims = false }) m t le
