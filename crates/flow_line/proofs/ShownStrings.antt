-- Strings of characters that stand for themselves.
use Rattle.std.proofs.Common.{◌≡◌, ℕ, zero, suc, ◌+◌, ◌<◌, true, List, [], ◌∷◌, ◌++◌, length, take, drop, Some, get_or, refl, sym, ap, subst, ◌∙◌, arith, IsUtf8}
use Rattle.std.specs.Prelude.{flat_map}
use Rattle.std.specs.List.{position}
use Rattle.std.proofs.lemmas.Bool.{eqb-true}
use Rattle.reading.specs.Bytes.{sees}
use Rattle.ha_config.specs.ValueText.{escaped_byte}
use Rattle.flow_line.specs.Text.{IsRun}
use Rattle.flow_line.specs.Grammar.{IsString}
use Rattle.flow_line.proofs.PlainRuns.{all_stay, found, is_escaped, parts}
use Rattle.flow_line.proofs.PrintedText.{shown_string}
use Rattle.flow_line.proofs.StringsRead.{text_read}

behind : (at : ℕ) (rest : List ℕ) → at < length rest → drop at rest ≡ get_or rest at 0 ∷ drop (suc at) rest
behind zero [] less = absurd (omega (arith, less))
behind zero (b ∷ rest) less = refl
behind (suc at) [] less = absurd (omega (arith, less))
behind (suc at) (b ∷ rest) less = behind at rest (omega (arith, less))

module _ (rest : List ℕ) (at : ℕ) (first : position is_escaped rest ≡ Some at) where
  quote_at : sees 34 (drop at rest) ≡ true → drop at rest ≡ get_or rest at 0 ∷ drop (suc at) rest → get_or rest at 0 ≡ 34
  quote_at q e = eqb-true (get_or rest at 0) 34 (ap (sees 34) (sym e) ∙ q)

  -- they are the string up to the quote
  pub shown_run : sees 34 (drop at rest) ≡ true → IsUtf8 (take at rest) → IsRun at rest
  shown_run q u =
      let f = found rest at first in
      let next : suc at ≡ at + 1 = omega arith in
      let end = quote_at q (behind at rest f.0) in
      let is : flat_map escaped_byte (take at rest) ++ 34 ∷ drop (at + 1) rest ≡ rest =
      ap (λ (t : List ℕ). t ++ 34 ∷ drop (at + 1) rest) (all_stay at rest f.2)
      ∙ ap (λ (n : ℕ). take at rest ++ 34 ∷ drop n rest) (sym next)
      ∙ ap (λ (b : ℕ). take at rest ++ b ∷ drop (suc at) rest) (sym end) ∙ sym (parts at rest f.0) in
      record {
        within = f.0;
        utf8 = u;
        reads = text_read (subst (λ (t : List ℕ). IsString t (take at rest) (drop (at + 1) rest)) is (shown_string (take at rest) (drop (at + 1) rest) u));
      }
