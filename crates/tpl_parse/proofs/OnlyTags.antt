-- Texts, comments, tags and their ends in the grammar are read.
use Rattle.std.proofs.Common.{◌≡◌, ℕ, suc, zero, ◌≤◌, ◌<◌, Bool, true, false, List, [], ◌∷◌, ◌++◌, length, drop, Option, Some, None, Ok, refl, sym, ap, ◌∙◌, arith, append_assoc}
use Rattle.std.specs.Prelude.{◌&&◌}
use Rattle.std.proofs.lemmas.Bool.{cond-true, cond-false}
use Rattle.ha_config.specs.declared.template.Expr.{Expr}
use Rattle.reading.specs.Answer.{◌>>=◌, Answer}
use Rattle.reading.specs.Bytes.{sees}
use Rattle.tpl_parse.specs.declared.token.Token.{Token}
use Rattle.tpl_parse.specs.declared.pieces.Tag.{Tag}
use Rattle.tpl_parse.specs.Token.{spaces, next_is, behind}
use Rattle.tpl_parse.specs.Literal.{before, character}
use Rattle.tpl_parse.specs.Reading.{expression, opened, tag_depth}
use Rattle.tpl_parse.specs.Pieces.{tag_at, ended, after_text, text_turns, text, comment_ends, comment_turns, comment, end_of, last_expression, sign_of, behind_sign, one_of}
use Rattle.tpl_parse.specs.Grammar.{Takes, takes, IsText, no_character, one_character, Opens, plain, trimming, IsComment, comment_end, trimming_end, comment_more, IsEnd, ends, ends_trimming, IsLast, last}
use Rattle.tpl_parse.proofs.Tokens.{spaces_twice}
use Rattle.tpl_parse.proofs.Apart.{Quiet, quiet_at, apart, all_apart, not_at}
use Rattle.tpl_parse.proofs.Next.{Fault, taken, spaces_within, before_is}
use Rattle.tpl_parse.proofs.Characters.{character_read, character_shorter}
use Rattle.tpl_parse.proofs.Starts.{sizes}
use Rattle.tpl_parse.proofs.Continues.{behind_expression, GivenPart}
use Rattle.tpl_parse.proofs.OnlyExpressions.{only}

-- ---- texts

not_ended : (t : List ℕ) → 0 < length t → ended t ≡ false
not_ended [] h = absurd (omega arith)
not_ended (b ∷ t) h = refl

-- a text goes on as far as what stops it
pub text_read : {t s a : List ℕ} (o : Option Tag) → IsText t s a → ((m : ℕ) → text_turns (suc m) a ≡ Ok (o, a)) → (n : ℕ) → length t < n → text_turns n t ≡ Ok (o, a)
unfolding text_turns
text_read o h stops zero lt = absurd (omega arith)
text_read o no_character stops (suc n) lt = stops n
text_read {a = a} o (one_character {text = t} {after = u} no_tag c more) stops (suc n) lt =
    let r = character_read c in
    let some : ended t ≡ false = not_ended t (omega (arith, character_shorter c)) in
    ap (λ (k : Option Tag). after_text k (text_turns n) t) no_tag
    ∙ cond-false (ended t) (Ok (None, t)) (character t >>= λ x. text_turns n x.1) some
    ∙ ap (λ (w : Answer ℕ Fault ℕ). w >>= λ x. text_turns n x.1) r.reads
    ∙ text_read o more stops n (omega (arith, character_shorter c))

pub text_parts : {t s a : List ℕ} → IsText t s a → t ≡ s ++ a
text_parts no_character = refl
text_parts {a = a} (one_character {c = c} {t = s} no_tag h more) = (character_read h).parts ∙ ap (λ (u : List ℕ). c ++ u) (text_parts more) ∙ sym (append_assoc c s a)

pub text_within : {t s a : List ℕ} → IsText t s a → length a ≤ length t
text_within no_character = omega arith
text_within (one_character no_tag h more) = omega (arith, character_shorter h, text_within more)

at_tag : (a : List ℕ) (kind : Tag) → tag_at a ≡ Some kind → (m : ℕ) → text_turns (suc m) a ≡ Ok (Some kind, a)
unfolding text_turns
at_tag a kind e m = ap (λ (k : Option Tag). after_text k (text_turns m) a) e

at_end : (m : ℕ) → text_turns (suc m) [] ≡ Ok (None, [])
unfolding text_turns
at_end m = refl

pub text_to_tag : {t s a : List ℕ} (kind : Tag) → IsText t s a → tag_at a ≡ Some kind → text t ≡ Ok (Some kind, a)
unfolding text
text_to_tag {t} {s} {a} kind h e = text_read (Some kind) h (at_tag a kind e) (suc (length t)) (omega arith)

pub text_to_end : {t s : List ℕ} → IsText t s [] → text t ≡ Ok (None, [])
unfolding text
text_to_end {t} h = text_read None h at_end (suc (length t)) (omega arith)

pub text_before : {t s a : List ℕ} → IsText t s a → before t a ≡ s
text_before {t} {s} {a} h = before_is s a (text_parts h)

-- ---- the opening bytes of a tag

pub record Opened (kind : Tag) (sign : Bool) (a b : List ℕ) : Type 0 where
  pub tag : tag_at a ≡ Some kind
  pub sign_is : sign_of a ≡ sign
  pub rest : behind_sign a ≡ b
  pub shorter : length b < length a

pub opens_read : {kind : Tag} {sign : Bool} {a b : List ℕ} → Opens kind sign a b → Opened kind sign a b
opens_read (plain {b = c} {rest = b} e f) = record { tag = e; sign_is = f; rest = cond-false (sees 45 b) (drop 1 b) b f; shorter = omega arith }
opens_read (trimming e) = record { tag = e; sign_is = refl; rest = refl; shorter = omega arith }

-- ---- comments

comment_turns_read : {trims : Bool} {t rest : List ℕ} → IsComment trims t rest → (n : ℕ) → length t < n → comment_turns n t ≡ Ok (trims, rest)
unfolding comment_turns
comment_turns_read h zero lt = absurd (omega arith)
comment_turns_read comment_end (suc n) lt = refl
comment_turns_read trimming_end (suc n) lt = refl
comment_turns_read (comment_more {text = t} {after = u} no_end no_sign c more) (suc n) lt =
    cond-false (comment_ends t) _ _ no_end ∙ cond-false (sees 45 t && comment_ends (drop 1 t)) _ _ no_sign
    ∙ ap (λ (w : Answer ℕ Fault ℕ). w >>= λ x. comment_turns n x.1) (character_read c).reads
    ∙ comment_turns_read more n (omega (arith, character_shorter c))

pub comment_read : {trims : Bool} {t rest : List ℕ} → IsComment trims t rest → comment t ≡ Ok (trims, rest)
unfolding comment
comment_read {t = t} h = comment_turns_read h (suc (length t)) (omega arith)

pub comment_within : {trims : Bool} {t rest : List ℕ} → IsComment trims t rest → length rest ≤ length t
comment_within comment_end = omega arith
comment_within trimming_end = omega arith
comment_within (comment_more no_end no_sign c more) = omega (arith, character_shorter c, comment_within more)

-- ---- ends of tags

pub end_within : {end' trimming' : Token} {trims : Bool} {t rest : List ℕ} → IsEnd end' trimming' trims t rest → length rest < length (spaces t)
end_within {t = t} (ends i) = (taken {t = t} refl i).shorter
end_within {t = t} (ends_trimming i) = (taken {t = t} refl i).shorter

pub last_within : {end' trimming' : Token} {e : Expr} {trims : Bool} {t rest : List ℕ} → IsLast end' trimming' e trims t rest → length rest < length t
last_within {t = t} (last h k) = omega (arith, sizes h, end_within k, spaces_within t)

module _ (end' trimming' : Token) (differs : apart end' trimming' ≡ true) where
  pub end_read : {trims : Bool} {t rest : List ℕ} → IsEnd end' trimming' trims t rest → end_of end' trimming' t ≡ Ok (trims, rest)
  end_read {t = t} (ends i) =
      let k = taken {t = t} refl i in
      let l = taken {t = spaces t} (spaces_twice t) i in
      rw (not_at end' trimming' (spaces t) differs k.next, l.rest_is, l.next) refl
  end_read {t = t} (ends_trimming i) = let k = taken {t = t} refl i in rw (k.rest_is, k.next) refl

  module _ (quiet_end : all_apart end' behind_expression ≡ true) (quiet_trimming : all_apart trimming' behind_expression ≡ true) where
    plain_read : (t : List ℕ) {e : Expr} {a rest : List ℕ} → GivenPart (expression (opened tag_depth) t) e a → Takes end' a rest → last_expression end' trimming' t ≡ Ok ((e, false), rest)
    unfolding last_expression
    plain_read t {e} {a} {rest} g i =
        let k = taken {t = g.left} g.alike i in
        let l = taken {t = spaces g.left} (spaces_twice g.left ∙ g.alike) i in
        rw (g.is, not_at end' trimming' (spaces g.left) differs k.next, l.rest_is, l.next) (ap (λ (x : Expr). Ok ((x, false), rest)) g.expr)

    trimming_read : (t : List ℕ) {e : Expr} {a rest : List ℕ} → GivenPart (expression (opened tag_depth) t) e a → Takes trimming' a rest → last_expression end' trimming' t ≡ Ok ((e, true), rest)
    unfolding last_expression
    trimming_read t {e} {a} {rest} g i =
        let k = taken {t = g.left} g.alike i in
        rw (g.is, k.rest_is, k.next) (ap (λ (x : Expr). Ok ((x, true), rest)) g.expr)

    at_plain : {t rest : List ℕ} → Takes end' t rest → Quiet behind_expression t
    at_plain {t} (takes h) = quiet_at end' behind_expression t quiet_end h

    at_trimming : {t rest : List ℕ} → Takes trimming' t rest → Quiet behind_expression t
    at_trimming {t} (takes h) = quiet_at trimming' behind_expression t quiet_trimming h

    pub last_read : {e : Expr} {trims : Bool} {t rest : List ℕ} → IsLast end' trimming' e trims t rest → last_expression end' trimming' t ≡ Ok ((e, trims), rest)
    last_read {t = t} (last h (ends i)) = plain_read t (only h t refl (at_plain i)) i
    last_read {t = t} (last h (ends_trimming i)) = trimming_read t (only h t refl (at_trimming i)) i

pub show_read : {e : Expr} {trims : Bool} {t rest : List ℕ} → IsLast Token.ShowEnd Token.TrimShowEnd e trims t rest → last_expression Token.ShowEnd Token.TrimShowEnd t ≡ Ok ((e, trims), rest)
show_read h = last_read Token.ShowEnd Token.TrimShowEnd refl refl refl h

pub tag_read : {e : Expr} {trims : Bool} {t rest : List ℕ} → IsLast Token.TagEnd Token.TrimTagEnd e trims t rest → last_expression Token.TagEnd Token.TrimTagEnd t ≡ Ok ((e, trims), rest)
tag_read h = last_read Token.TagEnd Token.TrimTagEnd refl refl refl h

pub tag_end_read : {trims : Bool} {t rest : List ℕ} → IsEnd Token.TagEnd Token.TrimTagEnd trims t rest → end_of Token.TagEnd Token.TrimTagEnd t ≡ Ok (trims, rest)
tag_end_read h = end_read Token.TagEnd Token.TrimTagEnd refl h

-- ---- the first of some tokens

abbrev pub Before : Token → List Token → Type 0
Before token [] = Unit {0}
Before token (first ∷ others) = (apart token first ≡ true) × Before token others

pub one_read : (token : Token) (all first others : List Token) (t : List ℕ) → Before token first → next_is token t ≡ true → one_of all (first ++ token ∷ others) t ≡ Ok (token, behind token t)
unfolding one_of
one_read token all [] others t a h = cond-true (next_is token t) _ _ h
one_read token all (x ∷ first) others t a h = cond-false (next_is x t) _ _ (not_at token x (spaces t) a.0 h) ∙ one_read token all first others t a.1 h
