-- Strings: what is read is in the grammar, and what is in the grammar is read.
use Rattle.std.proofs.Common.{◌≡◌, ℕ, suc, zero, ◌≤◌, ◌<◌, Bool, true, false, cond, inl, inr, List, [], ◌∷◌, ◌++◌, length, drop, Option, Some, None, Ok, refl, sym, ap, ◌∙◌, subst, arith, append_assoc, append-nil}
use Rattle.std.specs.Prelude.{◌==◌, encode_utf8}
use Rattle.std.proofs.lemmas.Bool.{cond-true, cond-false, eq-eqb}
use Rattle.reading.specs.Answer.{◌>>=◌, Answer}
use Rattle.reading.specs.Bytes.{sees}
use Rattle.reading.proofs.Basics.{bind_ok, chosen, ok_parts}
use Rattle.reading.proofs.Bytes.{sees_front}
use Rattle.tpl_parse.specs.Token.{Reads}
use Rattle.tpl_parse.specs.Literal.{unescaped, escape_at, character, plain_or, string_character, string_turns, string}
use Rattle.tpl_parse.specs.Grammar.{IsCharacter, IsString, close, escape, itself}
use Rattle.tpl_parse.proofs.Next.{Fault}
use Rattle.tpl_parse.proofs.Characters.{character_found, character_read, character_shorter}

-- the answer of a turn at which the quote does not stand
abbrev turn : ℕ → ℕ → List ℕ → Reads (List ℕ)
turn n quote found t = string_character t >>= λ c. string_turns n quote (found ++ c.0) c.1

turn_read : (n quote : ℕ) (found t c after : List ℕ) → sees quote t ≡ false → string_character t ≡ Ok (c, after) → string_turns (suc n) quote found t ≡ string_turns n quote (found ++ c) after
unfolding string_turns
turn_read n quote found t c after no_end e =
    cond-false (sees quote t) (Ok (found, drop 1 t)) (turn n quote found t) no_end ∙ ap (λ (a : Answer ℕ Fault (List ℕ)). a >>= λ c. string_turns n quote (found ++ c.0) c.1) e

itself_read : (t c after : List ℕ) → escape_at t ≡ None → IsCharacter t c after → string_character t ≡ Ok (c, after)
unfolding string_character
itself_read t c after bare here =
    let r = character_read here in
    ap (λ (o : Option ℕ). plain_or o t) bare ∙ ap (λ (a : Answer ℕ Fault ℕ). a >>= λ x. Ok (encode_utf8 x.0, x.1)) r.reads ∙ ap (λ (w : List ℕ). Ok (w, after)) r.is

escaped_read : (b meant : ℕ) (t : List ℕ) → unescaped b ≡ Some meant → string_character (92 ∷ b ∷ t) ≡ Ok (meant ∷ [], t)
unfolding string_character
escaped_read b meant t e = ap (λ (o : Option ℕ). plain_or o (92 ∷ b ∷ t)) e

module _ (quote : ℕ) (no_backslash : (92 == quote) ≡ false) where
  pub turns_read : (n : ℕ) (found : List ℕ) {t s rest : List ℕ} → IsString quote t s rest → length t < n → string_turns n quote found t ≡ Ok (found ++ s, rest)
  unfolding string_turns
  turns_read zero found h lt = absurd (omega arith)
  turns_read (suc n) found (close {rest = rest}) lt =
      cond-true (quote == quote) (Ok (found, rest)) (turn n quote found (quote ∷ rest)) (eq-eqb quote quote refl) ∙ ap (λ (w : List ℕ). Ok (w, rest)) (sym (append-nil found))
  turns_read (suc n) found (escape {b = b} {meant = meant} {text = t} {s = s} {rest = rest} e more) lt =
      turn_read n quote found (92 ∷ b ∷ t) (meant ∷ []) t no_backslash (escaped_read b meant t e)
      ∙ turns_read n (found ++ meant ∷ []) more (omega arith) ∙ ap (λ (w : List ℕ). Ok (w, rest)) (append_assoc found (meant ∷ []) s)
  turns_read (suc n) found (itself {text = t} {c = c} {after = after} {s = s} {rest = rest} no_end bare here more) lt =
      turn_read n quote found t c after no_end (itself_read t c after bare here)
      ∙ turns_read n (found ++ c) more (omega (arith, character_shorter here)) ∙ ap (λ (w : List ℕ). Ok (w, rest)) (append_assoc found c s)

  pub string_read : {t s rest : List ℕ} → IsString quote t s rest → string quote t ≡ Ok (s, rest)
  unfolding string
  string_read {t} h = turns_read (suc (length t)) [] h (omega arith)

pub string_within : {quote : ℕ} {t s rest : List ℕ} → IsString quote t s rest → length rest ≤ length t
string_within close = omega arith
string_within (escape e more) = omega (arith, string_within more)
string_within (itself no_end bare here more) = omega (arith, character_shorter here, string_within more)

-- ---- what is read

escape_front : (t : List ℕ) (meant : ℕ) → escape_at t ≡ Some meant → (b : ℕ) × (rest : List ℕ) × (t ≡ 92 ∷ b ∷ rest) × (unescaped b ≡ Some meant)
escape_front [] meant e = absurd cc
escape_front (a ∷ []) meant e = absurd (none (a == 92) e)
  where
    none : (x : Bool) → cond x None None ≡ Some meant → ⊥
    none true e = cc
    none false e = cc
escape_front (a ∷ b ∷ t) meant e = elim (chosen (a == 92) (unescaped b) None (Some meant) e) [
  | inl h ↦ (b, t, (let w = sees_front 92 (a ∷ b ∷ t) h.0 in w), h.1)
  | inr h ↦ absurd (let w = h.1 in cc)
]

found_by : (quote : ℕ) (t : List ℕ) (o : Option ℕ) → escape_at t ≡ o → sees quote t ≡ false → (c : List ℕ × List ℕ) → plain_or o t ≡ Ok c
    → (s rest : List ℕ) → IsString quote c.1 s rest → IsString quote t (c.0 ++ s) rest
found_by quote t (Some meant) at no_end c e s rest more =
    let f = escape_front t meant at in
    let p = ok_parts {F = Fault} (meant ∷ [], drop 2 t) c e in
    let here : IsString quote f.1 s rest = subst (λ (u : List ℕ). IsString quote u s rest) (sym p.1 ∙ ap (λ (u : List ℕ). drop 2 u) f.2) more in
    subst (λ (w : List ℕ). IsString quote t (w ++ s) rest) p.0 (subst (λ (u : List ℕ). IsString quote u (meant ∷ s) rest) (sym f.2) (escape f.3 here))
found_by quote t None at no_end c e s rest more =
    let b = bind_ok (character t) (λ x. Ok (encode_utf8 x.0, x.1)) c e in
    let p = ok_parts {F = Fault} (encode_utf8 b.0.0, b.0.1) c b.2 in
    let here : IsString quote b.0.1 s rest = subst (λ (u : List ℕ). IsString quote u s rest) (sym p.1) more in
    subst (λ (w : List ℕ). IsString quote t (w ++ s) rest) p.0 (itself no_end at (character_found t b.0.0 b.0.1 b.1) here)

pub turns_found : (n quote : ℕ) (found t s rest : List ℕ) → string_turns n quote found t ≡ Ok (s, rest) → (more : List ℕ) × (s ≡ found ++ more) × IsString quote t more rest
unfolding string_turns string_character
turns_found zero quote found t s rest e = absurd cc
turns_found (suc n) quote found t s rest e = elim (chosen (sees quote t) (Ok (found, drop 1 t)) (turn n quote found t) (Ok (s, rest)) e) [
  | inl h ↦
      let p = ok_parts {F = Fault} (found, drop 1 t) (s, rest) h.1 in
      ([], sym p.0 ∙ sym (append-nil found), subst (λ (u : List ℕ). IsString quote u [] rest) (sym (sees_front quote t h.0 ∙ ap (λ (u : List ℕ). quote ∷ u) p.1)) close)
  | inr h ↦
      let b = bind_ok (string_character t) (λ c. string_turns n quote (found ++ c.0) c.1) (s, rest) h.1 in
      let m = turns_found n quote (found ++ b.0.0) b.0.1 s rest b.2 in
      (b.0.0 ++ m.0, m.1 ∙ append_assoc found b.0.0 m.0, found_by quote t (escape_at t) refl h.0 b.0 b.1 m.0 rest m.2)
]

pub string_found : (quote : ℕ) (t s rest : List ℕ) → string quote t ≡ Ok (s, rest) → IsString quote t s rest
unfolding string
string_found quote t s rest e =
    let m = turns_found (suc (length t)) quote [] t s rest e in
    subst (λ (w : List ℕ). IsString quote t w rest) (sym m.1) m.2
