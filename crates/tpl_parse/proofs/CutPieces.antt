-- Texts, tags and whole templates on two texts that begin alike.
use Rattle.std.proofs.Common.{◌≡◌, ℕ, zero, suc, ◌+◌, ◌-◌, ◌≤◌, ◌<◌, Bool, true, false, cond, ◌⊎◌, inl, inr, List, [], ◌∷◌, ◌++◌, length, take, drop, Option, Some, None, Ok, Err, refl, sym, ap, ◌∙◌, subst, arith, length-append}
use Rattle.std.specs.Prelude.{◌==◌, ◌&&◌, max}
use Rattle.std.proofs.Math.ListN.{length-drop}
use Rattle.std.proofs.lemmas.Bool.{and_parts, eqb-true}
use Rattle.ha_config.specs.declared.template.Expr.{Expr}
use Rattle.ha_config.specs.declared.template.Piece.{Piece}
use Rattle.ha_config.specs.declared.template.Piece
use Rattle.ha_config.specs.declared.template.Template.{Template}
use Rattle.reading.specs.Answer.{◌>>=◌}
use Rattle.reading.specs.Bytes.{sees}
use Rattle.reading.proofs.Basics.{chosen_is}
use Rattle.reading.proofs.Characters.{ascii_read, character_shorter}
use Rattle.reading.proofs.Shorter.{kept, bind}
use Rattle.tpl_parse.specs.declared.token.Token.{Token}
use Rattle.tpl_parse.specs.declared.pieces.Tag.{Tag}
use Rattle.tpl_parse.specs.declared.expression.Part.{Part}
use Rattle.tpl_parse.specs.Token.{Reads, spaces, stands, next_is, past, behind, reach, text_of, want}
use Rattle.tpl_parse.specs.Literal.{before, character, name}
use Rattle.tpl_parse.specs.Reading.{Inner, atom, expression, opened, tag_depth, no_end, open_reach}
use Rattle.tpl_parse.specs.Pieces.{Choosing, Found, after_piece, after_text, begun as begun_choice, behind_sign, closed, comment, comment_ends, comment_turns, end_of, in_choice, last_expression, next_arm, one_of, open_choice, piece_turns, plain_end, plain_last, set_name, sign_of, statement, statement_by, statements, tag_at, tag_by, tag_end, tag_expression, template, text, text_turns, with_piece, with_text}
use Rattle.tpl_parse.proofs.Tokens.{spaces_twice}
use Rattle.tpl_parse.proofs.Next.{Fault}
use Rattle.tpl_parse.proofs.Shorter.{Read, Within, Keeps, later, want_keeps, no_longer_than}
use Rattle.tpl_parse.proofs.PiecesShorter.{text_turns_keeps, comment_turns_keeps, one_of_keeps, end_of_keeps, plain_last_keeps, last_expression_keeps, statement_by_keeps, tag_by_keeps, after_piece_keeps, piece_turns_keeps, length-behind_sign, plain_end_keeps, tail_keeps}
use Rattle.tpl_parse.proofs.Ahead.{is_ahead, any_ahead, all_clear}
use Rattle.tpl_parse.proofs.Cut.{Nothing, beyond, begun, Agree, same, fails, late, Local, Skips, agree_is, agree_bind, agree_plain, within_then, nothing, partly, there, other, looks, all_blank, past_late, reach_late}
use Rattle.tpl_parse.proofs.CutLexical.{character_cut, name_cut, want_cut}
use Rattle.tpl_parse.proofs.CutAtoms.{every, any_back, Cov, cov_every, no_end_late, IsCut, Dotted}
use Rattle.tpl_parse.proofs.CutExpressions.{expression_cut, opened_cut}

-- ---- what stands before a place

take_front : (k : ℕ) (c x : List ℕ) → k ≤ length c → take k (c ++ x) ≡ take k c
take_front zero c x le = refl
take_front (suc k) [] x le = absurd (omega arith)
take_front (suc k) (e ∷ c) x le = ap (λ (t : List ℕ). e ∷ t) (take_front k c x (omega arith))

before_cut : (c d x : List ℕ) → before (c ++ x) (d ++ x) ≡ take (length c - length d) c
before_cut c d x =
    let n : length (c ++ x) - length (d ++ x) ≡ length c - length d = omega (arith, length-append c x, length-append d x) in
    ap (λ (k : ℕ). take k (c ++ x)) n ∙ take_front (length c - length d) c x (omega arith)

-- ---- texts

pub data TextCut (a b : List ℕ) (c : List ℕ) (r s : Read (Option Tag)) : Type 0 where
  text_same : (tag : Tag) (e f : ℕ) (d : List ℕ) → length (e ∷ f ∷ d) ≤ length c → r ≡ Ok (Some tag, e ∷ f ∷ d ++ a) → s ≡ Ok (Some tag, e ∷ f ∷ d ++ b) → TextCut a b c r s
  text_fails : (g : Fault) → s ≡ Err g → TextCut a b c r s
  text_late : Within (length a) r → TextCut a b c r s
  text_open : (tag : Tag) (e : ℕ) → r ≡ Ok (Some tag, e ∷ a) → TextCut a b c r s

abbrev then_text : ℕ → ℕ × List ℕ → Read (Option Tag)
then_text n c = text_turns n c.1

text_longer : {a b : List ℕ} {c c' : List ℕ} {r s : Read (Option Tag)} → length c ≤ length c' → TextCut a b c r s → TextCut a b c' r s
text_longer le (text_same tag e f d k p q) = text_same tag e f d (omega arith) p q
text_longer le (text_fails g p) = text_fails g p
text_longer le (text_late w) = text_late w
text_longer le (text_open tag e p) = text_open tag e p

text_is : {a b c : List ℕ} {r r' s s' : Read (Option Tag)} → r ≡ r' → s ≡ s' → TextCut a b c r' s' → TextCut a b c r s
text_is {a} {b} {c} {r} {r'} {s} {s'} e f h = subst (λ (x : Read (Option Tag)). TextCut a b c x s) (sym e) (subst (λ (y : Read (Option Tag)). TextCut a b c r' y) (sym f) h)

module _ (n m : ℕ) (a b : List ℕ) (again : (d : List ℕ) → length (d ++ a) < n → TextCut a b d (text_turns n (d ++ a)) (text_turns m (d ++ b))) where
  text_by : (c : List ℕ) → length (c ++ a) < suc n → (r s : Read ℕ) → character (c ++ a) ≡ r → Agree Nothing a b r s → TextCut a b c (r >>= then_text n) (s >>= then_text m)
  text_by c lt r s is (same x d e f) =
      let less : length (d ++ a) < length (c ++ a) = character_shorter tt (c ++ a) x (d ++ a) (is ∙ e) in
      text_is (ap (λ (z : Read ℕ). z >>= then_text n) e) (ap (λ (z : Read ℕ). z >>= then_text m) f) (text_longer (omega (arith, less, length-append d a, length-append c a)) (again d (omega (arith, less, lt))))
  text_by c lt r s is (fails g e) = text_fails g (ap (λ (z : Read ℕ). z >>= then_text m) e)
  text_by c lt r s is (late (beyond w)) = text_late (within_then (length a) (then_text n) r (λ x. text_turns_keeps n) w)
  text_by c lt r s is (late (begun x rest d e at k)) = absurd k

open_text : (n e : ℕ) (a : List ℕ) → e ≡ 123 → (o : Option Tag) → (Within (length a) (after_text o (text_turns n) (e ∷ a))) ⊎ ((tag : Tag) × (after_text o (text_turns n) (e ∷ a) ≡ Ok (Some tag, e ∷ a)))
open_text n e a h (Some tag) = inr (tag, refl)
open_text n e a h None =
    let r : character (123 ∷ a) ≡ Ok (123, a) = ascii_read tt 123 a (omega arith) in
    inl (rw h (rw r (later (text_turns n) (text_turns_keeps n) a (length a) (omega arith))))

decided : (n m : ℕ) (a b : List ℕ) (e f : ℕ) (d : List ℕ) → ((u : List ℕ) → length (u ++ a) < n → TextCut a b u (text_turns n (u ++ a)) (text_turns m (u ++ b))) → length (e ∷ f ∷ d ++ a) < suc n → (o : Option Tag)
    → TextCut a b (e ∷ f ∷ d) (after_text o (text_turns n) (e ∷ f ∷ d ++ a)) (after_text o (text_turns m) (e ∷ f ∷ d ++ b))
decided n m a b e f d again lt (Some tag) = text_same tag e f d (omega arith) refl refl
decided n m a b e f d again lt None = text_by n m a b again (e ∷ f ∷ d) lt (character (e ∷ f ∷ d ++ a)) (character (e ∷ f ∷ d ++ b)) refl (character_cut (e ∷ f ∷ d) a b)

text_turns_cut : (n m : ℕ) (c a b : List ℕ) → length (c ++ a) < n → TextCut a b c (text_turns n (c ++ a)) (text_turns m (c ++ b))
unfolding text_turns
text_turns_cut zero m c a b lt = absurd (omega arith)
text_turns_cut (suc n) zero c a b lt = text_fails _ refl
text_turns_cut (suc n) (suc m) [] a b lt = text_late (later (text_turns (suc n)) (text_turns_keeps (suc n)) a (length a) (omega arith))
text_turns_cut (suc n) (suc m) (e ∷ []) a b lt = elim (chosen_is (e == 123)) [
  | inl h ↦ elim (open_text n e a (eqb-true e 123 h) (tag_at (e ∷ a))) [ inl w ↦ text_late w | inr w ↦ text_open w.0 e w.1 ]
  | inr h ↦ rw h (text_by n m a b (λ u less. text_turns_cut n m u a b less) (e ∷ []) lt (character (e ∷ a)) (character (e ∷ b)) refl (character_cut (e ∷ []) a b))
]
text_turns_cut (suc n) (suc m) (e ∷ f ∷ d) a b lt = decided n m a b e f d (λ u less. text_turns_cut n m u a b less) lt (tag_at (e ∷ f ∷ []))

text_cut : (c a b : List ℕ) → TextCut a b c (text (c ++ a)) (text (c ++ b))
unfolding text
text_cut c a b = text_turns_cut (suc (length (c ++ a))) (suc (length (c ++ b))) c a b (omega arith)

-- ---- comments

abbrev then_comment : ℕ → ℕ × List ℕ → Read Bool
then_comment n c = comment_turns n c.1

-- the end was begun
hash_late : (n : ℕ) (a : List ℕ) → 0 < n → Within (length a) (comment_turns n (35 ∷ a))
unfolding comment_turns
hash_late zero a lt = absurd (omega arith)
hash_late (suc n) a lt =
    let r : character (35 ∷ a) ≡ Ok (35, a) = ascii_read tt 35 a (omega arith) in
    elim (chosen_is (sees 125 a)) [
      | inl h ↦ rw h (omega (arith, length-drop {A = ℕ} 1 a))
      | inr h ↦ rw (h, r) (later (comment_turns n) (comment_turns_keeps n) a (length a) (omega arith))
    ]

module _ (n m : ℕ) (a b : List ℕ) (again : (d : List ℕ) → length (d ++ a) < n → Agree Nothing a b (comment_turns n (d ++ a)) (comment_turns m (d ++ b))) where
  comment_by : (c : List ℕ) → length (c ++ a) < suc n → Agree Nothing a b (character (c ++ a) >>= then_comment n) (character (c ++ b) >>= then_comment m)
  comment_by c lt =
      agree_bind Nothing Nothing a b (then_comment n) (then_comment m) (character (c ++ a)) (character (c ++ b)) (λ x. comment_turns_keeps n) (λ x rest d at k. absurd k)
      (λ x d is. again d (omega (arith, character_shorter tt (c ++ a) x (d ++ a) is, lt))) (character_cut c a b)

-- one byte, at which an end may begin
byte_late : (n e : ℕ) (a : List ℕ) → 0 < n → (e ≡ 35) ⊎ (e ≡ 45) → Within (length a) (comment_turns (suc n) (e ∷ a))
unfolding comment_turns
byte_late n e a lt (inl h) = rw h (hash_late (suc n) a (omega arith))
byte_late n e a lt (inr h) =
    let r : character (45 ∷ a) ≡ Ok (45, a) = ascii_read tt 45 a (omega arith) in
    rw h (elim (chosen_is (comment_ends a)) [
      | inl k ↦ rw k (omega (arith, length-drop {A = ℕ} 2 a))
      | inr k ↦ rw (k, r) (later (comment_turns n) (comment_turns_keeps n) a (length a) (omega arith))
    ])

dash_late : (n : ℕ) (a : List ℕ) → 0 < n → Within (length a) (comment_turns (suc n) (45 ∷ 35 ∷ a))
unfolding comment_turns
dash_late n a lt =
    let r : character (45 ∷ 35 ∷ a) ≡ Ok (45, 35 ∷ a) = ascii_read tt 45 (35 ∷ a) (omega arith) in
    elim (chosen_is (sees 125 a)) [
      | inl k ↦ rw k (omega (arith, length-drop {A = ℕ} 1 a))
      | inr k ↦ rw (k, r) (hash_late n a lt)
    ]

comment_turns_cut : (n m : ℕ) (c a b : List ℕ) → length (c ++ a) < n → Agree Nothing a b (comment_turns n (c ++ a)) (comment_turns m (c ++ b))
unfolding comment_turns
comment_turns_cut zero m c a b lt = absurd (omega arith)
comment_turns_cut (suc n) zero c a b lt = fails _ refl
comment_turns_cut (suc n) (suc m) [] a b lt = late (beyond (later (comment_turns (suc n)) (comment_turns_keeps (suc n)) a (length a) (omega arith)))
comment_turns_cut (suc n) (suc m) (e ∷ []) a b lt = elim (chosen_is (e == 35)) [
  | inl h ↦ late (beyond (byte_late n e a (omega arith) (inl (eqb-true e 35 h))))
  | inr h ↦ elim (chosen_is (e == 45)) [
    | inl k ↦ late (beyond (byte_late n e a (omega arith) (inr (eqb-true e 45 k))))
    | inr k ↦ rw (h, k) (comment_by n m a b (λ d less. comment_turns_cut n m d a b less) (e ∷ []) lt)
  ]
]
comment_turns_cut (suc n) (suc m) (e ∷ f ∷ []) a b lt = elim (chosen_is (e == 45)) [
  | inl h ↦ elim (chosen_is (f == 35)) [
    | inl k ↦ late (beyond (subst (λ (z : ℕ). Within (length a) (comment_turns (suc n) (z ∷ f ∷ a))) (sym (eqb-true e 45 h)) (subst (λ (z : ℕ). Within (length a) (comment_turns (suc n) (45 ∷ z ∷ a))) (sym (eqb-true f 35 k)) (dash_late n a (omega arith)))))
    | inr k ↦ elim (chosen_is (e == 35 && f == 125)) [
      | inl l ↦ rw l (same false [] refl refl)
      | inr l ↦ rw (l, h, k) (comment_by n m a b (λ d less. comment_turns_cut n m d a b less) (e ∷ f ∷ []) lt)
    ]
  ]
  | inr h ↦ elim (chosen_is (e == 35 && f == 125)) [
    | inl l ↦ rw l (same false [] refl refl)
    | inr l ↦ rw (l, h) (comment_by n m a b (λ d less. comment_turns_cut n m d a b less) (e ∷ f ∷ []) lt)
  ]
]
comment_turns_cut (suc n) (suc m) (e ∷ f ∷ g ∷ d) a b lt = elim (chosen_is (e == 35 && f == 125)) [
  | inl l ↦ rw l (same false (g ∷ d) refl refl)
  | inr l ↦ elim (chosen_is (e == 45 && (f == 35 && g == 125))) [
    | inl k ↦ rw (l, k) (same true d refl refl)
    | inr k ↦ rw (l, k) (comment_by n m a b (λ u less. comment_turns_cut n m u a b less) (e ∷ f ∷ g ∷ d) lt)
  ]
]

comment_cut : Local Nothing comment
unfolding comment
comment_cut c a b = comment_turns_cut (suc (length (c ++ a))) (suc (length (c ++ b))) c a b (omega arith)

-- ---- words that begin a statement

abbrev tokens_clear : List Token → List Token → Bool
tokens_clear all [] = true
tokens_clear all (token ∷ tokens) = all_clear all token && tokens_clear all tokens

one_skips : (all tokens : List Token) → Skips (one_of all tokens)
unfolding one_of
one_skips all [] t = rw (spaces_twice t) refl
one_skips all (token ∷ tokens) t = let more = one_skips all tokens t in rw (spaces_twice t, more) refl

one_late : (all tokens : List Token) → tokens_clear all tokens ≡ true → (t d a : List ℕ) → spaces t ≡ d ++ a → any_ahead all d ≡ true → Within (length a) (one_of all tokens t)
unfolding one_of
one_late all [] clear t d a at h = reach_late all t d a at h
one_late all (token ∷ tokens) clear t d a at h =
    let p = and_parts (all_clear all token) (tokens_clear all tokens) clear in
    elim (chosen_is (next_is token t)) [ inl n ↦ rw n (past_late all token t d a at h p.0 n) | inr n ↦ rw n (one_late all tokens p.1 t d a at h) ]

one_cut : (all tokens : List Token) → tokens_clear all tokens ≡ true → ((d : List ℕ) → any_ahead tokens d ≡ true → any_ahead all d ≡ true) → Local Nothing (one_of all tokens)
unfolding one_of
one_cut all [] clear sub c a b = fails _ refl
one_cut all (token ∷ tokens) clear sub c a b =
    let p = and_parts (all_clear all token) (tokens_clear all tokens) clear in
    elim (looks token c) [
      | nothing s ↦ late (beyond (all_blank (one_of all (token ∷ tokens)) (one_skips all (token ∷ tokens)) (one_of_keeps all (token ∷ tokens)) c a (s a)))
      | partly e d s h ↦ late (beyond (one_late all (token ∷ tokens) clear (c ++ a) (e ∷ d) a (s a) (sub (e ∷ d) (rw h refl))))
      | there u n q ↦ rw (n a, n b) (same token u (ap (λ (z : List ℕ). Ok (token, z)) (q a)) (ap (λ (z : List ℕ). Ok (token, z)) (q b)))
      | other e d s n ↦ rw (n a, n b) (one_cut all tokens p.1 (λ v h. sub v (elim (chosen_is (is_ahead token v)) [ inl k ↦ rw k refl | inr k ↦ rw k h ])) c a b)
    ]

statements_clear : (open' : List Choosing) → tokens_clear (statements open') (statements open') ≡ true
statements_clear [] = refl
statements_clear (choosing ∷ outer) = by_test choosing.test refl where
  by_test : (o : Option Expr) → choosing.test ≡ o → tokens_clear (statements (choosing ∷ outer)) (statements (choosing ∷ outer)) ≡ true
  by_test None e = ap (λ (o : Option Expr). let l : List Token = statements (record { before = choosing.before; arms = choosing.arms; test = o } ∷ outer) in tokens_clear l l) e
  by_test (Some x) e = ap (λ (o : Option Expr). let l : List Token = statements (record { before = choosing.before; arms = choosing.arms; test = o } ∷ outer) in tokens_clear l l) e

-- ---- ends of tags

module _ (end trimming : Token) (trims_clear : all_clear (end ∷ trimming ∷ []) trimming ≡ true) (end_clear : all_clear (end ∷ trimming ∷ []) end ≡ true) where
  abbrev both : List Token
  both = end ∷ trimming ∷ []

  in_end : (d : List ℕ) → is_ahead end d ≡ true → any_ahead both d ≡ true
  in_end d h = rw h refl

  in_trimming : (d : List ℕ) → is_ahead trimming d ≡ true → any_ahead both d ≡ true
  in_trimming d h = any_back (end ∷ []) (trimming ∷ []) d (rw h refl)

  plain_end_late : (t d a : List ℕ) → spaces t ≡ d ++ a → any_ahead both d ≡ true → Within (length a) (plain_end end trimming t)
  plain_end_late t d a at h = elim (chosen_is (next_is end t)) [ inl n ↦ rw n (past_late both end t d a at h end_clear n) | inr n ↦ rw n (reach_late both t d a at h) ]

  end_late : (t d a : List ℕ) → spaces t ≡ d ++ a → any_ahead both d ≡ true → Within (length a) (end_of end trimming t)
  end_late t d a at h = elim (chosen_is (next_is trimming t)) [ inl n ↦ rw n (past_late both trimming t d a at h trims_clear n) | inr n ↦ rw n (plain_end_late (spaces t) d a (spaces_twice t ∙ at) h) ]

  plain_end_skips : Skips (plain_end end trimming)
  plain_end_skips t = rw (spaces_twice t) refl

  abbrev end_at : Reads Bool
  end_at u = cond (stands trimming u) (Ok (true, cond (stands trimming u) (drop (length (text_of trimming)) u) u)) (plain_end end trimming u)

  end_skips : Skips (end_of end trimming)
  end_skips t = ap (λ (u : List ℕ). end_at u) (spaces_twice t)

  plain_end_cut : Local Nothing (plain_end end trimming)
  plain_end_cut c a b = elim (looks end c) [
    | nothing s ↦ late (beyond (all_blank (plain_end end trimming) plain_end_skips (plain_end_keeps end trimming) c a (s a)))
    | partly e d s h ↦ late (beyond (plain_end_late (c ++ a) (e ∷ d) a (s a) (in_end (e ∷ d) h)))
    | there u n p ↦ rw (n a, n b) (same false u (ap (λ (z : List ℕ). Ok (false, z)) (p a)) (ap (λ (z : List ℕ). Ok (false, z)) (p b)))
    | other e d s n ↦ rw (n b) (fails _ refl)
  ]

  end_cut : Local Nothing (end_of end trimming)
  end_cut c a b = elim (looks trimming c) [
    | nothing s ↦ late (beyond (all_blank (end_of end trimming) end_skips (end_of_keeps end trimming) c a (s a)))
    | partly e d s h ↦ late (beyond (end_late (c ++ a) (e ∷ d) a (s a) (in_trimming (e ∷ d) h)))
    | there u n p ↦ rw (n a, n b) (same true u (ap (λ (z : List ℕ). Ok (true, z)) (p a)) (ap (λ (z : List ℕ). Ok (true, z)) (p b)))
    | other e d s n ↦ rw (n a, n b) (agree_is (ap (plain_end end trimming) (s a)) (ap (plain_end end trimming) (s b)) (plain_end_cut (e ∷ d) a b))
  ]

  module _ (every_trims : all_clear every trimming ≡ true) (every_end : all_clear every end ≡ true) where
    -- the tokens themselves are ahead, or what may go on behind the expression
    abbrev Open : Part → List ℕ → Type 0
    Open part d = (any_ahead both d ≡ true) ⊎ Cov part d

    reach_end : (part : Part) (t d a : List ℕ) → spaces t ≡ d ++ a → Open part d → Within (length a) (no_end {A = Expr × Bool} part.last part.choice both (spaces t))
    reach_end part t d a at (inl h) =
        let far = reach_late both t d a at h in
        let most : ℕ = max (open_reach part.last part.choice (spaces t)) (reach both (spaces t)) in
        omega (arith, far, length-drop (reach both (spaces t)) (spaces t), length-drop most (spaces t))
    reach_end part t d a at (inr k) = no_end_late (Expr × Bool) part both t d a at k

    past_open : (part : Part) (token : Token) → all_clear both token ≡ true → all_clear every token ≡ true → (t d a : List ℕ) → spaces t ≡ d ++ a → Open part d → next_is token t ≡ true → length (past token t) ≤ length a
    past_open part token c e t d a at (inl h) n = past_late both token t d a at h c n
    past_open part token c e t d a at (inr k) n = past_late every token t d a at (cov_every part d k) e n

    plain_last_late : (part : Part) (t d a : List ℕ) → spaces t ≡ d ++ a → Open part d → Within (length a) (plain_last end trimming part t)
    plain_last_late part t d a at k = elim (chosen_is (next_is end t)) [ inl n ↦ rw n (past_open part end end_clear every_end t d a at k n) | inr n ↦ rw n (reach_end part t d a at k) ]

    abbrev tail : Part → Reads (Expr × Bool)
    tail part t = cond (next_is trimming t) (Ok ((part.expr, true), behind trimming t)) (plain_last end trimming part (spaces t))

    tail_late : (part : Part) (t d a : List ℕ) → spaces t ≡ d ++ a → Open part d → Within (length a) (tail part t)
    tail_late part t d a at k = elim (chosen_is (next_is trimming t)) [
      | inl n ↦ rw n (past_open part trimming trims_clear every_trims t d a at k n)
      | inr n ↦ rw n (plain_last_late part (spaces t) d a (spaces_twice t ∙ at) k)
    ]

    plain_last_skips : (part : Part) → Skips (plain_last end trimming part)
    plain_last_skips part t = rw (spaces_twice t) refl

    abbrev tail_at : Part → Reads (Expr × Bool)
    tail_at part u = cond (stands trimming u) (Ok ((part.expr, true), cond (stands trimming u) (drop (length (text_of trimming)) u) u)) (plain_last end trimming part u)

    tail_skips : (part : Part) → Skips (tail part)
    tail_skips part t = ap (λ (u : List ℕ). tail_at part u) (spaces_twice t)

    plain_last_cut : (part : Part) → Local Nothing (plain_last end trimming part)
    plain_last_cut part c a b = elim (looks end c) [
      | nothing s ↦ late (beyond (all_blank (plain_last end trimming part) (plain_last_skips part) (plain_last_keeps end trimming part) c a (s a)))
      | partly e d s h ↦ late (beyond (plain_last_late part (c ++ a) (e ∷ d) a (s a) (inl (in_end (e ∷ d) h))))
      | there u n p ↦ rw (n a, n b) (same (part.expr, false) u (ap (λ (z : List ℕ). Ok ((part.expr, false), z)) (p a)) (ap (λ (z : List ℕ). Ok ((part.expr, false), z)) (p b)))
      | other e d s n ↦ rw (n b) (fails _ refl)
    ]

    tail_cut : (part : Part) → Local Nothing (tail part)
    tail_cut part c a b = elim (looks trimming c) [
      | nothing s ↦ late (beyond (all_blank (tail part) (tail_skips part) (tail_keeps end trimming part) c a (s a)))
      | partly e d s h ↦ late (beyond (tail_late part (c ++ a) (e ∷ d) a (s a) (inl (in_trimming (e ∷ d) h))))
      | there u n p ↦ rw (n a, n b) (same (part.expr, true) u (ap (λ (z : List ℕ). Ok ((part.expr, true), z)) (p a)) (ap (λ (z : List ℕ). Ok ((part.expr, true), z)) (p b)))
      | other e d s n ↦ rw (n a, n b) (agree_is (ap (plain_last end trimming part) (s a)) (ap (plain_last end trimming part) (s b)) (plain_last_cut part (e ∷ d) a b))
    ]

    last_cut : ((inner : Option Inner) → IsCut inner → Local Dotted (atom inner)) → Local Nothing (last_expression end trimming)
    unfolding last_expression
    last_cut atoms c a b =
        agree_bind Cov Nothing a b (λ part. tail part.0 part.1) (λ part. tail part.0 part.1) (expression (opened tag_depth) (c ++ a)) (expression (opened tag_depth) (c ++ b)) (tail_keeps end trimming) (λ x rest d at k. beyond (tail_late x rest d a at (inr k)))
        (λ x d e. tail_cut x d a b) (expression_cut atoms (opened tag_depth) (opened_cut atoms tag_depth) c a b)

-- ---- tags

module _ (atoms : (inner : Option Inner) → IsCut inner → Local Dotted (atom inner)) where
  tag_expression_cut : Local Nothing tag_expression
  tag_expression_cut = last_cut Token.TagEnd Token.TrimTagEnd refl refl refl refl atoms

  tag_end_cut : Local Nothing tag_end
  tag_end_cut = end_cut Token.TagEnd Token.TrimTagEnd refl refl

  abbrev with_value : Found → List ℕ → (Expr × Bool) × List ℕ → Read Found
  with_value found n value = Ok (with_piece found (Piece.Assign n value.0.0) value.0.1, value.1)

  abbrev with_sign : Found → List ℕ → Unit {0} × List ℕ → Read Found
  with_sign found n sign = tag_expression sign.1 >>= with_value found n

  abbrev with_name : Found → List ℕ × List ℕ → Read Found
  with_name found n = want Token.Assign n.1 >>= with_sign found n.0

  sign_keeps : (found : Found) (n : List ℕ) (x : Unit {0}) → Keeps (λ t. with_sign found n (x, t))
  sign_keeps found n x m t le = bind (last_expression_keeps Token.TagEnd Token.TrimTagEnd m t le) (λ v k. kept k)

  name_rest_keeps : (found : Found) (n : List ℕ) → Keeps (λ t. with_name found (n, t))
  name_rest_keeps found n m t le = bind (want_keeps Token.Assign m t le) (λ sign k. sign_keeps found n sign.0 m sign.1 k)

  set_name_cut : (found : Found) → Local Nothing (set_name found)
  unfolding set_name
  set_name_cut found c a b =
      agree_bind Nothing Nothing a b (with_name found) (with_name found) (name (c ++ a)) (name (c ++ b)) (name_rest_keeps found) (λ x rest d at k. absurd k)
      (λ n d e. agree_bind Nothing Nothing a b (with_sign found n) (with_sign found n) (want Token.Assign (d ++ a)) (want Token.Assign (d ++ b)) (sign_keeps found n) (λ x rest v at k. absurd k)
      (λ x v e'. agree_bind Nothing Nothing a b (with_value found n) (with_value found n) (tag_expression (v ++ a)) (tag_expression (v ++ b)) (λ w m u le. kept le) (λ y rest z at k. absurd k)
      (λ y z e''. same (with_piece found (Piece.Assign n y.0) y.1) z refl refl) (tag_expression_cut v a b))
      (want_cut Token.Assign refl d a b))
      (name_cut c a b)

  in_choice_cut : (token : Token) (found : Found) (choosing : Choosing) (outer : List Choosing) → Local Nothing (in_choice token found choosing outer)
  in_choice_cut Token.Elif found choosing outer c a b = agree_plain Nothing a b (λ test. next_arm found choosing outer (Some test.0) test.1) (tag_expression (c ++ a)) (tag_expression (c ++ b)) (tag_expression_cut c a b)
  in_choice_cut Token.Else found choosing outer c a b = agree_plain Nothing a b (next_arm found choosing outer None) (tag_end (c ++ a)) (tag_end (c ++ b)) (tag_end_cut c a b)
  in_choice_cut _ found choosing outer c a b = agree_plain Nothing a b (closed found choosing outer) (tag_end (c ++ a)) (tag_end (c ++ b)) (tag_end_cut c a b)

  open_choice_cut : (open' : List Choosing) (token : Token) (found : Found) → Local Nothing (open_choice open' token found)
  open_choice_cut [] token found c a b = fails _ refl
  open_choice_cut (choosing ∷ outer) token found c a b = in_choice_cut token found choosing outer c a b

  statement_by_cut : (token : Token) (found : Found) → Local Nothing (statement_by token found)
  statement_by_cut Token.Set found c a b = set_name_cut found c a b
  statement_by_cut Token.If found c a b = agree_plain Nothing a b (λ test. begun_choice found test.0 test.1) (tag_expression (c ++ a)) (tag_expression (c ++ b)) (tag_expression_cut c a b)
  statement_by_cut token found c a b = open_choice_cut found.open' token found c a b

  statement_cut : (found : Found) → Local Nothing (statement found)
  unfolding statement
  statement_cut found c a b =
      let all : List Token = statements found.open' in
      agree_bind Nothing Nothing a b (λ token. statement_by token.0 found token.1) (λ token. statement_by token.0 found token.1) (one_of all all (c ++ a)) (one_of all all (c ++ b)) (λ x. statement_by_keeps x found) (λ x rest d at k. absurd k)
      (λ x d e. statement_by_cut x found d a b) (one_cut all all (statements_clear found.open') (λ d h. h) c a b)

  tag_by_cut : (tag : Tag) (found : Found) → Local Nothing (tag_by tag found)
  tag_by_cut Tag.Show found c a b =
      let rule : Reads (Expr × Bool) = last_expression Token.ShowEnd Token.TrimShowEnd in
      agree_plain Nothing a b (λ e. with_piece found (Piece.Show e.0) e.1) (rule (c ++ a)) (rule (c ++ b)) (last_cut Token.ShowEnd Token.TrimShowEnd refl refl refl refl atoms c a b)
  tag_by_cut Tag.Statement found c a b = statement_cut found c a b
  tag_by_cut Tag.Comment found c a b = agree_plain Nothing a b (λ trims. record { open' = found.open'; pieces = found.pieces; trims = trims }) (comment (c ++ a)) (comment (c ++ b)) (comment_cut c a b)

  -- ---- the whole text

  abbrev More : Type 0
  More = Found → Reads Template

  tagged : (more more' : More) → ((found : Found) → Keeps (more found)) → (tag : Tag) (found : Found) (u a b : List ℕ)
      → ((next : Found) (d : List ℕ) → length (d ++ a) ≤ length (u ++ a) → Agree Nothing a b (more next (d ++ a)) (more' next (d ++ b)))
      → Agree Nothing a b (tag_by tag found (u ++ a) >>= λ next. more next.0 next.1) (tag_by tag found (u ++ b) >>= λ next. more' next.0 next.1)
  tagged more more' h tag found u a b on =
      agree_bind Nothing Nothing a b (λ next. more next.0 next.1) (λ next. more' next.0 next.1) (tag_by tag found (u ++ a)) (tag_by tag found (u ++ b)) h (λ x rest d at k. absurd k)
      (λ x d e. on x d (no_longer_than (tag_by tag found) (tag_by_keeps tag found) (u ++ a) x (d ++ a) e)) (tag_by_cut tag found u a b)

  piece_late : (more : More) → ((found : Found) → Keeps (more found)) → (tag : Tag) (found : Found) (t u a : List ℕ) → length (drop 2 u) ≤ length a → Within (length a) (after_piece (Some tag) more found t u)
  piece_late more h tag found t u a le =
      let next : Found = with_text found (sign_of u) t in
      within_then (length a) (λ next. more next.0 next.1) (tag_by tag next (behind_sign u)) h (later (tag_by tag next) (tag_by_keeps tag next) (behind_sign u) (length a) (omega (arith, length-behind_sign u, le)))

  piece_cut : (more more' : More) → ((found : Found) → Keeps (more found)) → (tag : Tag) (found : Found) (t : List ℕ) (e f : ℕ) (d a b : List ℕ)
      → ((next : Found) (u : List ℕ) → length (u ++ a) ≤ length (d ++ a) → Agree Nothing a b (more next (u ++ a)) (more' next (u ++ b)))
      → Agree Nothing a b (after_piece (Some tag) more found t (e ∷ f ∷ d ++ a)) (after_piece (Some tag) more' found t (e ∷ f ∷ d ++ b))
  piece_cut more more' h tag found t e f [] a b on = late (beyond (piece_late more h tag found t (e ∷ f ∷ a) a (omega arith)))
  piece_cut more more' h tag found t e f (g ∷ d) a b on = elim (chosen_is (g == 45)) [
    | inl k ↦ rw k (tagged more more' h tag (with_text found true t) d a b (λ next u le. on next u (omega (arith, le))))
    | inr k ↦ rw k (tagged more more' h tag (with_text found false t) (g ∷ d) a b on)
  ]

  piece_turns_cut : (n m : ℕ) (found : Found) (c a b : List ℕ) → length (c ++ a) < n → Agree Nothing a b (piece_turns n found (c ++ a)) (piece_turns m found (c ++ b))
  unfolding piece_turns
  piece_turns_cut zero m found c a b lt = absurd (omega arith)
  piece_turns_cut (suc n) zero found c a b lt = fails _ refl
  piece_turns_cut (suc n) (suc m) found c a b lt =
      let q : (k : ℕ) (t : List ℕ) → Option Tag × List ℕ → Read Template = λ k t tag. after_piece tag.0 (piece_turns k) found (before t tag.1) tag.1 in
      let w : List ℕ → List ℕ = λ d. take (length c - length d) c in
      elim (text_cut c a b) [
        | text_fails g e ↦ fails g (ap (λ (z : Read (Option Tag)). z >>= q m (c ++ b)) e)
        | text_late l ↦ late (beyond (within_then (length a) (q n (c ++ a)) (text (c ++ a)) (λ x m t. after_piece_keeps x (piece_turns n) (piece_turns_keeps n) found (before (c ++ a) t) m t) l))
        | text_open tag e is ↦ late (beyond (subst (λ (z : Read (Option Tag)). Within (length a) (z >>= q n (c ++ a))) (sym is) (piece_late (piece_turns n) (piece_turns_keeps n) tag found (before (c ++ a) (e ∷ a)) (e ∷ a) a (omega (arith, length-drop {A = ℕ} 1 a)))))
        | text_same tag e f d le is is' ↦
            let here = ap (λ (z : Read (Option Tag)). z >>= q n (c ++ a)) is ∙ ap (λ (z : List ℕ). after_piece (Some tag) (piece_turns n) found z (e ∷ f ∷ d ++ a)) (before_cut c (e ∷ f ∷ d) a) in
            let there' = ap (λ (z : Read (Option Tag)). z >>= q m (c ++ b)) is' ∙ ap (λ (z : List ℕ). after_piece (Some tag) (piece_turns m) found z (e ∷ f ∷ d ++ b)) (before_cut c (e ∷ f ∷ d) b) in
            agree_is here there' (piece_cut (piece_turns n) (piece_turns m) (piece_turns_keeps n) tag found (w (e ∷ f ∷ d)) e f d a b
            (λ next u less. piece_turns_cut n m next u a b (omega (arith, less, le, lt, length-append c a, length-append d a))))
      ]

  pub template_cut : Local Nothing template
  unfolding template
  template_cut c a b = piece_turns_cut (suc (length (c ++ a))) (suc (length (c ++ b))) (record { open' = []; pieces = []; trims = false }) c a b (omega arith)
