-- The pieces of the first lines, and the codes of the tree's two rules.
use Rattle.std.proofs.Common.{◌≡◌, ℕ, suc, ◌≤◌, true, ◌⊎◌, inl, inr, List, [], length, refl, sym, subst}
use Rattle.std.specs.Prelude.{◌==◌}
use Rattle.std.proofs.lemmas.Bool.{eqb-true}
use Rattle.yaml_scan.specs.declared.line.RawLine.{RawLine}
use Rattle.yaml_scan.specs.declared.fault.Code.{Code}
use Rattle.yaml_scan.specs.declared.fault.Code.TheVariants.{RepeatedKey, Limit}
use Rattle.yaml_scan.specs.Codes.{number_of}
use Rattle.yaml_scan.specs.Lines.{without_start}
use Rattle.yaml_tree.specs.declared.piece.Piece.{Piece}
use Rattle.yaml_tree.specs.Pieces.{all_pieces}
use Rattle.yaml_laws.proofs.Laid.{AllOn}
use Rattle.yaml_laws.proofs.Walked.{AllIn}
use Rattle.yaml_laws.proofs.WalkedPieces.{Adds, adds_pieces}
use Rattle.yaml_laws.proofs.FollowedLines.{Rises, start_in}
use Rattle.yaml_laws.proofs.Orders.{tested, same_code}
use Rattle.yaml_rules.proofs.Layouts.{IsTreeCode}

module _ (k : ℕ) (p : List RawLine) (early : AllIn (λ m. m ≤ k) p) (rises : Rises p) where
  pub on_pieces : AllOn (λ m. m ≤ k) (all_pieces (without_start p)).pieces
  on_pieces =
      let on_lines : AllIn (λ m. m ≤ k) (without_start p) = start_in (AllIn (λ m. m ≤ k)) (λ l rest i. i.1) p early in
      let d : Adds (λ m. m ≤ k) (AllIn (λ m. m ≤ k)) [] (all_pieces (without_start p)) = adds_pieces (λ m. m ≤ k) (AllIn (λ m. m ≤ k)) (λ l rest i. i) (suc (length (without_start p))) [] (without_start p) on_lines in
      subst (λ (ps : List Piece). AllOn (λ m. m ≤ k) ps) (sym d.are) d.on_lines

pub three_codes : (c : Code) → (c ≡ RepeatedKey) ⊎ (c ≡ Limit) → IsTreeCode c
three_codes c (inl e) = subst IsTreeCode (sym e) refl
three_codes c (inr e) = subst IsTreeCode (sym e) refl

pub two_codes : (c : Code) → IsTreeCode c → (c ≡ RepeatedKey) ⊎ (c ≡ Limit)
two_codes c h = elim (tested (number_of c == 4)) [
  | inl e ↦ inl (same_code c RepeatedKey (eqb-true (number_of c) 4 e))
  | inr e ↦ let h' : (number_of c == 12) ≡ true = rw e at h in inr (same_code c Limit (eqb-true (number_of c) 12 h'))
]
