-- Strings are complete characters and what follows them: the closing quote, or the first fault.
use Rattle.std.proofs.Common.{◌≡◌, ℕ, zero, suc, ◌<◌, true, false, List, [], ◌∷◌, ◌++◌, length, drop, Ok, Err, refl, sym, ap, subst, ◌∙◌, append_assoc, arith, inl, inr}
use Rattle.std.specs.Str.{encode_utf8_all}
use Rattle.std.proofs.lemmas.List.{append-nil}
use Rattle.reading.specs.Answer.{◌>>=◌, Answer, made}
use Rattle.reading.specs.Bytes.{sees, expect}
use Rattle.reading.specs.Rows.{repeat}
use Rattle.reading.proofs.Basics.{bind_err, made_err, chosen_is}
use Rattle.reading.proofs.Bytes.{sees_front}
use Rattle.flow_line.specs.Text.{character, characters, text, string}
use Rattle.flow_line.specs.Grammar.{IsCharacter, IsCharacters, close, more, IsString, string as string_of}
use Rattle.flow_line.proofs.ByteRanges.{Fault}
use Rattle.flow_line.proofs.Characters.{character_found}
use Rattle.flow_line.proofs.CharactersRead.{character_read}
use Rattle.flow_line.proofs.Found.{character_longer, Turns}

-- complete characters, one after the other
pub data AreCharacters : List ℕ → List ℕ → List ℕ → Type 0 where
  no_more : {t : List ℕ} → AreCharacters t [] t
  one_more : {t after rest cs : List ℕ} {c : ℕ} → IsCharacter t c after → AreCharacters after cs rest → AreCharacters t (c ∷ cs) rest

pub before_quote : {t cs rest : List ℕ} → IsCharacters t cs rest → AreCharacters t cs (34 ∷ rest)
before_quote close = no_more
before_quote (more here others) = one_more here (before_quote others)

pub with_quote : {t cs u : List ℕ} (rest : List ℕ) → AreCharacters t cs u → u ≡ 34 ∷ rest → IsCharacters t cs rest
with_quote {t} rest no_more e = subst (λ (v : List ℕ). IsCharacters v [] rest) (sym e) close
with_quote rest (one_more here others) e = more here (with_quote rest others e)

quote_stops : (u : List ℕ) (x : ℕ × List ℕ) → character (34 ∷ u) ≡ Ok x → ⊥
unfolding character
quote_stops u x e = cc

pub no_quote : {t rest : List ℕ} {c : ℕ} → IsCharacter t c rest → sees 34 t ≡ false
no_quote {t} {rest} {c} here = elim (chosen_is (sees 34 t)) [
  | inl h ↦ absurd (quote_stops (drop 1 t) (c, rest) (ap character (sym (sees_front 34 t h)) ∙ character_read here))
  | inr h ↦ h
]

turn : (n : ℕ) (found t : List ℕ) → sees 34 t ≡ false → Turns (suc n) found t ≡ (character t >>= λ x. Turns n (found ++ x.0 ∷ []) x.1)
unfolding repeat
turn n found t h = rw h refl

turn_end : (n : ℕ) (found t : List ℕ) → sees 34 t ≡ true → Turns (suc n) found t ≡ Ok (found, drop 1 t)
unfolding repeat
turn_end n found t h = rw h refl

turns_on : {t cs u : List ℕ} → AreCharacters t cs u → (n : ℕ) → length t < n → (found : List ℕ) → (m : ℕ) × (length u < m) × (Turns n found t ≡ Turns m (found ++ cs) u)
turns_on {t} no_more n lt found = (n, lt, ap (λ (f : List ℕ). Turns n f t) (sym (append-nil found)))
turns_on (one_more here others) zero lt found = absurd (omega arith)
turns_on {t} (one_more {after = after} {rest = rest} {cs = cs} {c = c} here others) (suc n) lt found =
    let l = turns_on others n (let k = character_longer here in omega arith) (found ++ c ∷ []) in
    let step : Turns (suc n) found t ≡ Turns n (found ++ c ∷ []) after = turn n found t (no_quote here) ∙ ap (λ (a : Answer ℕ Fault ℕ). a >>= λ x. Turns n (found ++ x.0 ∷ []) x.1) (character_read here) in
    (l.0, l.1, step ∙ l.2 ∙ ap (λ (f : List ℕ). Turns l.0 f rest) (append_assoc found (c ∷ []) cs))

end_at : (m : ℕ) (found rest : List ℕ) → length (34 ∷ rest) < m → Turns m found (34 ∷ rest) ≡ Ok (found, rest)
end_at zero found rest h = absurd (omega arith)
end_at (suc m) found rest h = turn_end m found (34 ∷ rest) refl

fail_at : (m : ℕ) (found u : List ℕ) (f : Fault) → length u < m → sees 34 u ≡ false → character u ≡ Err f → Turns m found u ≡ Err f
fail_at zero found u f h q e = absurd (omega arith)
fail_at (suc m) found u f h q e = turn m found u q ∙ ap (λ (a : Answer ℕ Fault ℕ). a >>= λ x. Turns m (found ++ x.0 ∷ []) x.1) e

-- what is spelled as a string is read as it
pub text_read : {t s rest : List ℕ} → IsString t s rest → text t ≡ Ok (s, rest)
unfolding characters
text_read {t} (string_of {cs = cs} {rest = rest} here) =
    let l = turns_on (before_quote here) (suc (length t)) (omega arith) [] in
    ap (made encode_utf8_all) (l.2 ∙ end_at l.0 cs rest l.1)

pub string_read : {t s rest : List ℕ} → IsString t s rest → string (34 ∷ t) ≡ Ok (s, rest)
unfolding string expect
string_read here = text_read here

-- where a string fails, a character does
pub record FailsAt (t : List ℕ) (f : Fault) : Type 0 where
  pub cs : List ℕ
  pub at : List ℕ
  pub so_far : AreCharacters t cs at
  pub no_end : sees 34 at ≡ false
  pub fails : character at ≡ Err f

turns_fail : (n : ℕ) (found t : List ℕ) (f : Fault) → length t < n → Turns n found t ≡ Err f → FailsAt t f
turns_fail zero found t f lt e = absurd (omega arith)
turns_fail (suc n) found t f lt e = elim (chosen_is (sees 34 t)) [
  | inl h ↦ absurd (let k : Err f ≡ Ok (found, drop 1 t) = sym e ∙ turn_end n found t h in cc)
  | inr h ↦ elim (bind_err (character t) (λ x. Turns n (found ++ x.0 ∷ []) x.1) f (sym (turn n found t h) ∙ e)) [
    | inl k ↦ record { cs = []; at = t; so_far = no_more; no_end = h; fails = k }
    | inr k ↦
        let here = character_found t k.0.0 k.0.1 k.1 in
        let l = turns_fail n (found ++ k.0.0 ∷ []) k.0.1 f (let s = character_longer here in omega arith) k.2 in
        record { cs = k.0.0 ∷ l.cs; at = l.at; so_far = one_more here l.so_far; no_end = l.no_end; fails = l.fails }
  ]
]

pub text_fails : (t : List ℕ) (f : Fault) → text t ≡ Err f → FailsAt t f
unfolding characters
text_fails t f e = turns_fail (suc (length t)) [] t f (omega arith) (made_err encode_utf8_all (characters t) f e)

pub text_failing : {t cs u : List ℕ} (f : Fault) → AreCharacters t cs u → sees 34 u ≡ false → character u ≡ Err f → text t ≡ Err f
unfolding characters
text_failing {t} {cs} {u} f here q e =
    let l = turns_on here (suc (length t)) (omega arith) [] in
    ap (made encode_utf8_all) (l.2 ∙ fail_at l.0 cs u f l.1 q e)
