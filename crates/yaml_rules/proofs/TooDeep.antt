-- Where a node is too deep on the first lines, a text with them up to its line is in the loose notation.
use Rattle.std.proofs.Common.{◌≡◌, ℕ, zero, suc, ◌≤◌, inr, List, [], ◌∷◌, take, refl, sym, ap, subst, ◌∙◌, arith}
use Rattle.yaml_scan.specs.declared.fault.Code.{Code}
use Rattle.yaml_scan.specs.declared.fault.Code.TheVariants.{Limit}
use Rattle.yaml_scan.specs.Lines.{lines}
use Rattle.yaml_laws.specs.Refused.{SameLines, IsTooDeep}
use Rattle.yaml_rules.specs.Notation.{HasNotation, Breaks}
use Rattle.yaml_rules.proofs.Rules.{names_rule}

take_less : {A : Type 0} (m k : ℕ) → m ≤ k → (xs : List A) → take m (take k xs) ≡ take m xs
take_less zero k le xs = refl
take_less (suc m) zero le xs = absurd (omega arith)
take_less (suc m) (suc k) le [] = refl
take_less (suc m) (suc k) le (x ∷ xs) = ap (λ (ys : List _). x ∷ ys) (take_less m k (omega arith) xs)

same_less : (m k : ℕ) (text other : List ℕ) → m ≤ k → SameLines k text other → SameLines m text other
same_less m k text other le same = sym (take_less m k le (lines text)) ∙ ap (take m) same ∙ take_less m k le (lines other)

pub too_deep : (k : ℕ) (text : List ℕ) → IsTooDeep k text → (m : ℕ) × (m ≤ k) × HasNotation m text (Breaks m Limit)
too_deep k text h =
    let m : ℕ = h.1.line in
    let r = names_rule h.0 h.1 h.3 (inr h.4) in
    (m, h.5, (r.0, r.1, same_less m k text h.0 h.5 h.2 ∙ r.2, r.3, subst (λ (c : Code). Breaks m c r.1) h.4 r.4))
