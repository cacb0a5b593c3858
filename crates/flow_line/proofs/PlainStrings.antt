-- Strings of bytes that stand for themselves.
use Rattle.std.proofs.Common.{◌≡◌, ℕ, zero, suc, ◌+◌, ◌<◌, Bool, true, false, not, List, [], ◌∷◌, ◌++◌, length, take, drop, Some, Ok, refl, sym, ap, ◌∙◌, arith, append_assoc, get_or}
use Rattle.std.specs.Prelude.{◌==◌, ◌&&◌, IsAscii}
use Rattle.std.specs.List.{position}
use Rattle.std.specs.Str.{encode_utf8_all}
use Rattle.std.proofs.lemmas.Bool.{and_parts, cond-true, cond-false, le-leb}
use Rattle.std.proofs.lemmas.List.{append-nil}
use Rattle.std.proofs.lemmas.List.Quantifiers.{position-Some}
use Rattle.std.proofs.lemmas.Str.{encode_ascii, IsUtf8-from_ascii}
use Rattle.std.proofs.lemmas.Str.Ascii.{IsAscii-nil, IsAscii-cons}
use Rattle.reading.specs.Answer.{made}
use Rattle.reading.specs.Bytes.{sees}
use Rattle.reading.specs.Rows.{repeat}
use Rattle.reading.proofs.Characters.{ascii_read}
use Rattle.flow_line.specs.declared.fault.Code.TheVariants.{Syntax}
use Rattle.flow_line.specs.Bytes.{is_in, is_plain, stands_as_is}
use Rattle.flow_line.specs.Text.{character, characters, goes_on, over, IsRun}
use Rattle.flow_line.proofs.ByteRanges.{in_parts}

off : (x : Bool) → not x ≡ true → x ≡ false
off true h = sym h
off false h = refl

on : (x : Bool) → not x ≡ false → x ≡ true
on true h = refl
on false h = sym h

plain_parts : (b : ℕ) → is_plain b ≡ true → (b < 128) × ((b == 34) ≡ false) × ((b == 92) ≡ false) × (stands_as_is b ≡ true)
plain_parts b e =
    let p = and_parts (is_in 32 127 b && not (b == 34)) (not (b == 92)) e in
    let q = and_parts (is_in 32 127 b) (not (b == 34)) p.0 in
    let r = in_parts 32 127 b q.0 in
    (omega (arith, r.1), off (b == 34) q.1, off (b == 92) p.1, rw (le-leb 32 b r.0, q.1, p.1) refl)

itself : (b : ℕ) (rest : List ℕ) → is_plain b ≡ true → character (b ∷ rest) ≡ Ok (b, rest)
unfolding character
itself b rest p =
    let parts = plain_parts b p in
    cond-false (b == 92) _ _ parts.2 ∙ cond-true (stands_as_is b) _ _ parts.3 ∙ ascii_read Syntax b rest parts.0

-- as many bytes at the front stand for themselves
abbrev ArePlain : ℕ → List ℕ → Type 0
ArePlain at rest = (k : ℕ) → k < at → not (is_plain (get_or rest k 0)) ≡ false

behind : (b : ℕ) (rest : List ℕ) (at : ℕ) → ArePlain (suc at) (b ∷ rest) → ArePlain at rest
behind b rest at plain k less = plain (suc k) (omega (arith, less))

first : (b : ℕ) (rest : List ℕ) (at : ℕ) → ArePlain (suc at) (b ∷ rest) → is_plain b ≡ true
first b rest at plain = on (is_plain b) (plain zero (omega arith))

-- the characters up to the quote, behind those that were found
read_on : (at : ℕ) (rest : List ℕ) → ArePlain at rest → sees 34 (drop at rest) ≡ true → (n : ℕ) (found : List ℕ) → length rest < n
    → repeat over (λ _. goes_on) (λ _. character) n found rest ≡ Ok (found ++ take at rest, drop (suc at) rest)
unfolding repeat
read_on at rest plain q zero found l = absurd (omega (arith, l))
read_on zero [] plain q (suc n) found l = absurd cc
read_on zero (b ∷ rest) plain q (suc n) found l = rw q (ap (λ (v : List ℕ). Ok (v, rest)) (sym (append-nil found)))
read_on (suc at) [] plain q (suc n) found l = absurd cc
read_on (suc at) (b ∷ rest) plain q (suc n) found l =
    let p = first b rest at plain in
    let parts = plain_parts b p in
    let here : repeat over (λ _. goes_on) (λ _. character) n (found ++ b ∷ []) rest ≡ Ok ((found ++ b ∷ []) ++ take at rest, drop (suc at) rest) =
    read_on at rest (behind b rest at plain) q n (found ++ b ∷ []) (omega (arith, l)) in
    rw (parts.1, itself b rest p) (here ∙ ap (λ (v : List ℕ). Ok (v, drop (suc at) rest)) (append_assoc found (b ∷ []) (take at rest)))

encoded : (at : ℕ) (rest : List ℕ) → ArePlain at rest → (encode_utf8_all (take at rest) ≡ take at rest) × IsAscii (take at rest)
encoded zero rest plain = (refl, IsAscii-nil)
encoded (suc at) [] plain = (refl, IsAscii-nil)
encoded (suc at) (b ∷ rest) plain =
    let e = encoded at rest (behind b rest at plain) in
    let small = (plain_parts b (first b rest at plain)).0 in (
      ap (λ (v : List ℕ). v ++ encode_utf8_all (take at rest)) (encode_ascii b small) ∙ ap (λ (v : List ℕ). b ∷ v) e.0,
      IsAscii-cons b (take at rest) small e.1,
    )

module _ (rest : List ℕ) (at : ℕ) (marked : position (λ b. not (is_plain b)) rest ≡ Some at) where
  plain : ArePlain at rest
  plain = (position-Some (λ b. not (is_plain b)) rest at 0 marked).2

  -- bytes that stand for themselves up to the quote are the string
  pub plain_run : at < length rest → sees 34 (drop at rest) ≡ true → IsRun at rest
  unfolding characters
  plain_run within q =
      let less : length rest < suc (length rest) = omega arith in
      let next : suc at ≡ at + 1 = omega arith in
      record {
        within = within;
        utf8 = IsUtf8-from_ascii (take at rest) (encoded at rest plain).1;
        reads = ap (made encode_utf8_all) (read_on at rest plain q (suc (length rest)) [] less)
            ∙ ap (λ (v : List ℕ). Ok (v, drop (suc at) rest)) (encoded at rest plain).0 ∙ ap (λ (i : ℕ). Ok (take at rest, drop i rest)) next;
      }
