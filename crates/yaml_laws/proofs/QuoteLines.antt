-- The line on which the quote begins that is open at the end of a text's first lines.
use Rattle.std.proofs.Common.{◌≡◌, ℕ, suc, Bool, inl, inr, List, [], ◌∷◌, ◌++◌, length, Option, Some, None, refl, sym, ap, subst, ◌∙◌, arith, length-append}
use Rattle.yaml_scan.specs.declared.line.RawLine.{RawLine}
use Rattle.yaml_scan.specs.declared.fault.Fault.{Fault}
use Rattle.yaml_scan.specs.Lines.{lines, line_fault, without_start}
use Rattle.yaml_tree.specs.declared.node.Node.{Node}
use Rattle.yaml_tree.specs.declared.piece.Piece.{Piece}
use Rattle.yaml_tree.specs.Pieces.{leaf as leaf_piece, all_pieces}
use Rattle.yaml_laws.specs.Refused.{IsOneOf, Opens, OpensQuote}
use Rattle.yaml_laws.proofs.Followed.{leaf, Alike, none, more}
use Rattle.yaml_laws.proofs.WalkedPieces.{OnFault}
use Rattle.yaml_laws.proofs.FollowedScalars.{AllLate}
use Rattle.yaml_laws.proofs.FollowedLines.{start_in, Starts, start_follows}
use Rattle.yaml_laws.proofs.Whole.{in_tree, told}
use Rattle.yaml_laws.proofs.Cuts.{one_of}
use Rattle.yaml_laws.proofs.Closing.{OwnLine}
use Rattle.yaml_laws.proofs.Outcomes.{OpenIn}

own_line : (k n : ℕ) (o : Option Fault) (f : Fault) → OnFault (OwnLine k n) o → o ≡ Some f → f.line ≡ k → n ≡ k
own_line k n None f h e at = absurd cc
own_line k n (Some g) f h e at =
    let same : g ≡ f = cc in
    let line : g.line ≡ f.line = ap (λ (z : Fault). z.line) same in
    elim h [ inl own ↦ omega (arith, own, line, at) | inr lt ↦ absurd (omega (arith, lt, line, at)) ]

-- Where a text is refused at the last of these lines, for a fault of pieces, the quote begins on that line.
pub begins_there : (k : ℕ) (p a : List RawLine) → AllLate k a → (f : Fault) → f.line ≡ k → told (p ++ a) ≡ Some f → (line_fault (p ++ a) ≡ Some f → ⊥) → (in_tree (p ++ a) ≡ Some f → ⊥)
    → (q : OpenIn k [] (without_start p) (all_pieces (without_start p))) → q.l.line ≡ k
begins_there k p a late f at e no_line no_tree q =
    elim (one_of (p ++ a) f e) [
      | inl h ↦ absurd (no_line h)
      | inr r ↦ elim r [
        | inr h ↦ absurd (no_tree h)
        | inl h ↦
            let s : Starts k (without_start p) (without_start (p ++ a)) = start_follows k a late p in
            let on = q.others s.behind_them s.late (suc (length (without_start p ++ s.behind_them))) (omega (arith, length-append (without_start p) s.behind_them)) in
            own_line k q.l.line (all_pieces (without_start p ++ s.behind_them)).fault f on (sym (ap (λ (ls : List RawLine). (all_pieces ls).fault) s.are) ∙ h) at
      ]
    ]

-- ---- the line of the text

in_front : (p a : List RawLine) (l : RawLine) → IsOneOf p l → IsOneOf (p ++ a) l
in_front [] a l h = absurd h
in_front (x ∷ p) a l (inl e) = inl e
in_front (x ∷ p) a l (inr h) = inr (in_front p a l h)

pub opens_there : (text : List ℕ) (n k : ℕ) (p a : List RawLine) → lines text ≡ p ++ a → (q : OpenIn k [] (without_start p) (all_pieces (without_start p))) → q.l.line ≡ n → OpensQuote n text
opens_there text n k p a e q at =
    let some : (z : RawLine) → IsOneOf (without_start p) z → IsOneOf p z =
    start_in (λ ls. (z : RawLine) → IsOneOf ls z → IsOneOf p z) (λ l ls h z i. h z (inr i)) p (λ z i. i) in
    (q.l, subst (λ (ls : List RawLine). IsOneOf ls q.l) (sym e) (in_front p a q.l (some q.l q.is_one)), at, subst (λ (m : ℕ). Opens m q.l.content) at q.opens)

-- ---- its piece

-- what ends alike ends with a leaf on the same line
pub last_alike : (front : List Piece) (n column height : ℕ) (out : Bool) (x : Node) (ps qs : List Piece) → ps ≡ front ++ leaf_piece n column x height out ∷ [] → Alike ps qs
    → (before : List Piece) × (y : Node) × (qs ≡ before ++ leaf_piece n column y height out ∷ [])
last_alike front n column height out x ps qs e al = by front qs (subst (λ (zs : List Piece). Alike zs qs) e al)
  where
    by : (front qs : List Piece) → Alike (front ++ leaf_piece n column x height out ∷ []) qs → (before : List Piece) × (y : Node) × (qs ≡ before ++ leaf_piece n column y height out ∷ [])
    by [] qs (more (leaf {y = y}) none) = ([], y, refl)
    by (p ∷ front) qs (more {line = line} {column = at} {v = v} {qs = left} w al) =
        let r = by front left al in
        (record { line = line; column = at; what = v } ∷ r.0, r.1, ap (λ (zs : List Piece). record { line = line; column = at; what = v } ∷ zs) r.2)
