-- Names are ASCII.
use Rattle.std.proofs.Common.{◌≡◌, ℕ, suc, slice_index, ◌-◌, ◌≤◌, ◌<◌, zero, Bool, true, false, cond, List, [], ◌∷◌, length, take, refl, sym, subst, arith, IsUtf8}
use Rattle.std.proofs.lemmas.Str.{IsUtf8-from_ascii}
use Rattle.std.specs.Str.{IsAscii}
use Rattle.tpl_parse.specs.Token.{in_name}
use Rattle.tpl_parse.specs.Literal.{word, skip_word}

pub skip_word_within : (rest : List ℕ) → length (skip_word rest) ≤ length rest
unfolding skip_word
skip_word_within [] = omega arith
skip_word_within (b ∷ rest) =
    let h = skip_word_within rest in
    elim (in_name b) as (λ t. length (cond t (skip_word rest) (b ∷ rest)) ≤ length (b ∷ rest)) [ true ↦ omega (arith, h) | false ↦ omega arith ]

pub name_is_ascii : (b : ℕ) → in_name b ≡ true → b < 128
name_is_ascii b h = grind (arith, h)

ascii_cons : (b : ℕ) (bs : List ℕ) → b < 128 → IsAscii bs → IsAscii (b ∷ bs)
ascii_cons b bs p h at = elim at as (λ i. slice_index (b ∷ bs) i < 128) [ zero ↦ p | suc i ↦ h i ]

ascii_word : (rest : List ℕ) → IsAscii (word rest)
unfolding skip_word
ascii_word [] = λ i. omega arith
ascii_word (b ∷ rest) =
    let h = ascii_word rest in
    let le = skip_word_within rest in
    let go : (t : Bool) → in_name b ≡ t → IsAscii (take (length (b ∷ rest) - length (cond t (skip_word rest) (b ∷ rest))) (b ∷ rest)) = λ t.
    elim t as (λ t. in_name b ≡ t → IsAscii (take (length (b ∷ rest) - length (cond t (skip_word rest) (b ∷ rest))) (b ∷ rest))) [
      | true ↦ λ e.
          let n : length (b ∷ rest) - length (skip_word rest) ≡ suc (length rest - length (skip_word rest)) = omega (arith, le) in
          subst (λ n. IsAscii (take n (b ∷ rest))) (sym n) (ascii_cons b (word rest) (name_is_ascii b e) h)
      | false ↦ λ e.
          let n : length (b ∷ rest) - length (b ∷ rest) ≡ 0 = omega arith in
          subst (λ n. IsAscii (take n (b ∷ rest))) (sym n) (λ i. omega arith)
    ] in
    go (in_name b) refl

pub word_is_utf8 : (rest found : List ℕ) → found ≡ word rest → IsUtf8 found
word_is_utf8 rest found e = rw e (IsUtf8-from_ascii (word rest) (ascii_word rest))
