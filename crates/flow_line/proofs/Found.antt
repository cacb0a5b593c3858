-- What is read is in the grammar, and takes a byte at least.
use Rattle.std.proofs.Common.{◌≡◌, ℕ, zero, suc, ◌<◌, true, false, cond, List, [], ◌∷◌, ◌++◌, length, drop, Ok, sym, ap, subst, ◌∙◌, append_assoc, arith, length-append, inl, inr}
use Rattle.std.specs.Prelude.{codes, encode_utf8}
use Rattle.std.specs.Str.{encode_utf8_all}
use Rattle.std.proofs.lemmas.List.{append-nil}
use Rattle.std.proofs.lemmas.Str.{length-encode, len_utf8_bounds}
use Rattle.reading.specs.Answer.{◌>>=◌, Answer}
use Rattle.reading.specs.Bytes.{sees, expect}
use Rattle.reading.specs.Rows.{repeat}
use Rattle.reading.proofs.Basics.{bind_ok, ok_parts, made_ok, chosen}
use Rattle.reading.proofs.Bytes.{expect_found, sees_front}
use Rattle.flow_line.specs.declared.fault.Code.TheVariants.{Syntax}
use Rattle.flow_line.specs.Text.{character, characters, goes_on, over, text, string}
use Rattle.flow_line.specs.Grammar.{IsUnit, unit, IsCharacter, itself, short, whole, halves, IsCharacters, close, more, IsString, string as string_of}
use Rattle.flow_line.proofs.Characters.{character_found}
use Rattle.flow_line.proofs.ByteRanges.{Fault}

unit_longer : {t rest : List ℕ} {u : ℕ} → IsUnit t u rest → length rest < length t
unit_longer (unit a b c d) = omega arith

pub character_longer : {t rest : List ℕ} {c : ℕ} → IsCharacter t c rest → length rest < length t
character_longer (itself {c = c} {rest = rest} s p) = omega (arith, length-append (encode_utf8 c) rest, length-encode c, (len_utf8_bounds c).0)
character_longer (short e) = omega arith
character_longer (whole u s) = omega (arith, unit_longer u)
character_longer (halves {behind = behind} a b p q) = omega (arith, unit_longer a, unit_longer b)

characters_longer : {t rest cs : List ℕ} → IsCharacters t cs rest → length rest < length t
characters_longer close = omega arith
characters_longer (more c cs) = omega (arith, character_longer c, characters_longer cs)

pub string_longer : {t s rest : List ℕ} → IsString t s rest → length rest < length t
string_longer (string_of cs) = characters_longer cs

abbrev pub Turns : ℕ → List ℕ → List ℕ → Answer ℕ Fault (List ℕ)
Turns n found t = repeat over (λ _. goes_on) (λ _. character) n found t

turns_found : (n : ℕ) (found t cs rest : List ℕ) → Turns n found t ≡ Ok (cs, rest) → (tail : List ℕ) × (cs ≡ found ++ tail) × IsCharacters t tail rest
unfolding repeat
turns_found zero found t cs rest e = absurd cc
turns_found (suc n) found t cs rest e =
    let a = bind_ok (goes_on t) (λ go. cond go.0 (character go.1 >>= λ x. Turns n (found ++ x.0 ∷ []) x.1) (Ok (found, go.1))) (cs, rest) e in
    elim (chosen (sees 34 t) (Ok (false, drop 1 t)) (Ok (true, t)) (Ok a.0) a.1) [
      | inl h ↦
          let p = ok_parts {F = Fault} (false, drop 1 t) a.0 h.1 in
          let q : cond a.0.0 (character a.0.1 >>= λ x. Turns n (found ++ x.0 ∷ []) x.1) (Ok (found, a.0.1)) ≡ Ok (found, drop 1 t) =
          (λ i. cond (sym p.0 i) (character (sym p.1 i) >>= λ x. Turns n (found ++ x.0 ∷ []) x.1) (Ok (found, sym p.1 i))) in
          let r = ok_parts {F = Fault} (found, drop 1 t) (cs, rest) (sym q ∙ a.2) in
          ([], sym r.0 ∙ sym (append-nil found), subst (λ (u : List ℕ). IsCharacters u [] rest) (sym (sees_front 34 t h.0 ∙ ap (λ (u : List ℕ). 34 ∷ u) r.1)) close)
      | inr h ↦
          let p = ok_parts {F = Fault} (true, t) a.0 h.1 in
          let q : cond a.0.0 (character a.0.1 >>= λ x. Turns n (found ++ x.0 ∷ []) x.1) (Ok (found, a.0.1)) ≡ (character t >>= λ x. Turns n (found ++ x.0 ∷ []) x.1) =
          (λ i. cond (sym p.0 i) (character (sym p.1 i) >>= λ x. Turns n (found ++ x.0 ∷ []) x.1) (Ok (found, sym p.1 i))) in
          let b = bind_ok (character t) (λ x. Turns n (found ++ x.0 ∷ []) x.1) (cs, rest) (sym q ∙ a.2) in
          let m = turns_found n (found ++ b.0.0 ∷ []) b.0.1 cs rest b.2 in
          (b.0.0 ∷ m.0, m.1 ∙ append_assoc found (b.0.0 ∷ []) m.0, more (character_found t b.0.0 b.0.1 b.1) m.2)
    ]

pub text_found : (t s rest : List ℕ) → text t ≡ Ok (s, rest) → IsString t s rest
unfolding characters
text_found t s rest e =
    let m = made_ok {F = Fault} encode_utf8_all (characters t) s rest e in
    let r = turns_found (suc (length t)) [] t m.0 rest m.1 in
    subst (λ (u : List ℕ). IsString t u rest) (ap encode_utf8_all (sym r.1) ∙ m.2) (string_of r.2)

pub string_found : (t k rest : List ℕ) → string t ≡ Ok (k, rest) → (behind : List ℕ) × (t ≡ 34 ∷ behind) × IsString behind k rest
unfolding string
string_found t k rest e =
    let a = bind_ok (expect Syntax (codes "\"") t) (λ q. text q.1) (k, rest) e in
    (a.0.1, expect_found Syntax (codes "\"") t a.0.0 a.0.1 a.1, text_found a.0.1 k rest a.2)
