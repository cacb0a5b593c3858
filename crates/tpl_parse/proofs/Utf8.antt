-- What stands between two places is UTF-8.
use Rattle.std.proofs.Common.{◌≡◌, ℕ, ◌-◌, ◌<◌, List, [], ◌++◌, length, take, Ok, refl, sym, ap, subst, ◌∙◌, arith, append_assoc, length-append, IsUtf8}
use Rattle.std.specs.Prelude.{encode_utf8}
use Rattle.std.proofs.lemmas.Str.{IsUtf8-encode, IsUtf8-append, IsUtf8-nil}
use Rattle.std.proofs.Math.Seq.{take-append_seam}
use Rattle.reading.specs.declared.fault.Bad.{Bad}
use Rattle.reading.proofs.Characters.{character_found as utf8_found, character_shorter as utf8_shorter}
use Rattle.tpl_parse.specs.Literal.{before, character}

abbrev pub Fault : Type 0
Fault = Bad (Unit {0})

pub record Chars (text rest : List ℕ) : Type 0 where
  pub chars : List ℕ
  pub parts : text ≡ chars ++ rest
  pub utf8 : IsUtf8 chars

pub no_chars : (text : List ℕ) → Chars text text
no_chars text = record { chars = []; parts = refl; utf8 = IsUtf8-nil }

pub more_chars : (a b c : List ℕ) → Chars a b → Chars b c → Chars a c
more_chars a b c p q = record {
  chars = p.chars ++ q.chars;
  parts = p.parts ∙ ap (λ (r : List ℕ). p.chars ++ r) q.parts ∙ sym (append_assoc p.chars q.chars c);
  utf8 = IsUtf8-append p.chars q.chars p.utf8 q.utf8;
}

pub chars_between : (text rest : List ℕ) → Chars text rest → IsUtf8 (before text rest)
chars_between text rest p =
    let n : length text - length rest ≡ length p.chars = omega (arith, ap length p.parts, length-append p.chars rest) in
    let same : before text rest ≡ p.chars = ap (λ (n : ℕ). take n text) n ∙ ap (λ (t : List ℕ). take (length p.chars) t) p.parts ∙ take-append_seam p.chars rest in
    subst IsUtf8 (sym same) p.utf8

-- a character, which is at least a byte
pub record Character (text rest : List ℕ) : Type 0 where
  pub chars : Chars text rest
  pub shorter : length rest < length text

pub character_found : (text : List ℕ) (c : ℕ) (rest : List ℕ) → character text ≡ Ok (c, rest) → Character text rest
character_found text c rest e =
    let q = utf8_found tt text c rest e in
    record { chars = record { chars = encode_utf8 c; parts = q.1; utf8 = IsUtf8-encode c q.0 }; shorter = utf8_shorter tt text c rest e }
