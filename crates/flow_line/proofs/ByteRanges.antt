-- A byte in a range.
use Rattle.std.proofs.Common.{◌≡◌, ℕ, ◌≤◌, true, List, [], ◌∷◌, Ok, subst, inl, inr}
use Rattle.std.specs.Prelude.{nat_le}
use Rattle.std.proofs.lemmas.Bool.{and_parts, leb-true}
use Rattle.reading.specs.declared.fault.Bad.{Bad}
use Rattle.reading.specs.Answer.{front, stop}
use Rattle.reading.proofs.Basics.{ok_parts, chosen}
use Rattle.flow_line.specs.declared.fault.Code.{Code}
use Rattle.flow_line.specs.declared.fault.Code.TheVariants.{Syntax}
use Rattle.flow_line.specs.Bytes.{is_in}
use Rattle.flow_line.specs.Text.{byte_in}

abbrev pub Fault : Type 0
Fault = Bad Code

pub in_parts : (low high b : ℕ) → is_in low high b ≡ true → (low ≤ b) × (b ≤ high)
in_parts low high b e = let p = and_parts (nat_le low b) (nat_le b high) e in (leb-true low b p.0, leb-true b high p.1)

-- a byte in a range
pub byte_in_found : (low high : ℕ) (t : List ℕ) (y : ℕ) (rest : List ℕ) → byte_in low high (front t) t ≡ Ok (y, rest) → (t ≡ y ∷ rest) × (low ≤ y) × (y ≤ high)
byte_in_found low high [] y rest e = absurd cc
byte_in_found low high (b ∷ t) y rest e =
    elim (chosen (is_in low high b) (Ok (b, t)) (stop Syntax (b ∷ t)) (Ok (y, rest)) e) [
      | inl h ↦
          let p = ok_parts {F = Fault} (b, t) (y, rest) h.1 in
          let r = in_parts low high b h.0 in
          ((λ i. p.0 i ∷ p.1 i), subst (λ (z : ℕ). low ≤ z) p.0 r.0, subst (λ (z : ℕ). z ≤ high) p.0 r.1)
      | inr h ↦ absurd (let k = h.1 in cc)
    ]
