-- Where a fault stands that was met from token to token.
use Rattle.std.proofs.Common.{◌≡◌, ℕ, ◌<◌, ◌≤◌, true, ◌⊎◌, List, [], ◌∷◌, ◌++◌, length, refl, sym, ap, subst, ◌∙◌, append_assoc, arith, inl, inr}
use Rattle.ha_value.specs.declared.value.Num.{Num}
use Rattle.ha_value.specs.Numbers.{is_in_range}
use Rattle.reading.proofs.Local.{split_same}
use Rattle.flow_line.specs.declared.fault.Code.{Code}
use Rattle.flow_line.specs.declared.fault.Code.TheVariants.{Syntax, RepeatedKey, Depth, Range}
use Rattle.flow_line.specs.Grammar.{IsNumber, number as number_of}
use Rattle.flow_line.specs.Refused.{IsToken, quoted, numeral, single, AreTokens, no_token, one_token, AreInRange, IsPlace}
use Rattle.flow_line.proofs.ByteRanges.{Fault}
use Rattle.flow_line.proofs.StringLaws.{string_framed}
use Rattle.flow_line.proofs.Whole.{AnySize}
use Rattle.flow_line.proofs.OneFault.{same_rest, token_longer, tokens_longer, in_order}
use Rattle.flow_line.proofs.Walk.{Passed, none_passed, one_passed, Met}

token_parts : {t rest : List ℕ} → IsToken t rest → (a : List ℕ) × (t ≡ a ++ rest)
token_parts (quoted here) = let n = string_framed here in (34 ∷ n.spelling, ap (λ (u : List ℕ). 34 ∷ u) n.parts)
token_parts (numeral (number_of u e ends ok)) = (u, refl)
token_parts (single {b = b} h) = (b ∷ [], refl)

tokens_parts : {t rest : List ℕ} → AreTokens t rest → (a : List ℕ) × (t ≡ a ++ rest)
tokens_parts no_token = ([], refl)
tokens_parts {t} {rest} (one_token here others) =
    let h = token_parts here in
    let o = tokens_parts others in
    (h.0 ++ o.0, h.1 ∙ ap (λ (u : List ℕ). h.0 ++ u) o.1 ∙ sym (append_assoc h.0 o.0 rest))

passed_tokens : {t rest : List ℕ} → Passed t rest → AreTokens t rest
passed_tokens none_passed = no_token
passed_tokens (one_passed here kept others) = one_token here (passed_tokens others)

-- a number that was gone past is in range
kept : {t last u behind : List ℕ} {n : Num} → Passed t last → AreTokens t u → IsNumber AnySize u n behind → (is_in_range n ≡ true) ⊎ AreTokens last u
kept none_passed so_far here = inr so_far
kept {behind = behind} {n = n} (one_passed there in_range others) no_token here = inl (in_range n behind here)
kept {u = u} (one_passed {m = m} there in_range others) (one_token {middle = k} first rest) here =
    let same : k ≡ m = same_rest first there in
    kept others (subst (λ (v : List ℕ). AreTokens v u) same rest) here

module _ (text : List ℕ) (f : Fault) (met : Met text f) where
  -- no token behind the last one begins before the fault
  none_later : (u behind : List ℕ) → AreTokens met.last u → IsToken u behind → f.left < length u → ⊥
  none_later u behind so_far here lt = elim met.at [
    | inl at ↦ omega (arith, tokens_longer so_far)
    | inr k ↦ none_begins so_far k.2
  ] where
    none_begins : {t : List ℕ} → AreTokens t u → ((rest : List ℕ) → IsToken t rest → ⊥) → ⊥
    none_begins no_token empty = empty behind here
    none_begins (one_token {middle = m} there others) empty = empty m there

  before_last : f.left ≤ length met.last
  before_last = elim met.at [ inl at ↦ omega arith | inr k ↦ k.0 ]

  module _ (left : List ℕ) (long : f.left ≡ length left) where
    pub in_range_before : AreInRange text left
    in_range_before u behind n so_far here h = elim (kept met.so_far so_far here) [
      | inl k ↦ k
      | inr k ↦ absurd (none_later u behind k (numeral here) (omega (arith, token_longer (numeral here))))
    ]

    over_last : {t : List ℕ} (behind : List ℕ) → AreTokens t met.last → IsToken t behind → length left < length t → length left ≤ length behind
    over_last {t} behind so_far here lt = go so_far none_later before_last where
      go : {last : List ℕ} → AreTokens t last → ((u behind : List ℕ) → AreTokens last u → IsToken u behind → f.left < length u → ⊥) → f.left ≤ length last → length left ≤ length behind
      go no_token none h = absurd (none t behind no_token here (omega arith))
      go (one_token {middle = m} there others) none h = let same : m ≡ behind = same_rest there here in omega (arith, ap length same, tokens_longer others)

    token_here : (f.code ≡ Syntax → ⊥) → (before : List ℕ) → text ≡ before ++ left → AreTokens text left
    token_here special before parts = elim met.at [
      | inl at ↦
          let so_far = passed_tokens met.so_far in
          let p = tokens_parts so_far in
          let cut = split_same p.0 before met.last left (sym p.1 ∙ parts) (sym at ∙ long) in
          subst (λ (u : List ℕ). AreTokens text u) cut.1 so_far
      | inr k ↦ absurd (special k.1)
    ]

    not_over : (t behind : List ℕ) → AreTokens text t → IsToken t behind → length left < length t → length left ≤ length behind
    not_over t behind so_far here lt = elim (in_order (passed_tokens met.so_far) so_far) [
      | inl k ↦ absurd (none_later t behind k here (omega arith))
      | inr k ↦ over_last behind k here lt
    ]

    pub place_of : (before : List ℕ) → text ≡ before ++ left → (code : Code) → f.code ≡ code → IsPlace code text left
    place_of before parts Syntax is = not_over
    place_of before parts RepeatedKey is = token_here (λ s. (let d : RepeatedKey ≡ Syntax = sym is ∙ s in cc)) before parts
    place_of before parts Depth is = token_here (λ s. (let d : Depth ≡ Syntax = sym is ∙ s in cc)) before parts
    place_of before parts Range is = token_here (λ s. (let d : Range ≡ Syntax = sym is ∙ s in cc)) before parts
