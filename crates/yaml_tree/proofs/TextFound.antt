-- The tree of a text is the one that the grammar gives, and no other.
use Rattle.std.proofs.Common.{◌≡◌, ℕ, suc, true, false, List, [], length, Option, Some, None, Result, Ok, Err, refl, sym, ap, ◌∙◌, arith}
use Rattle.std.specs.Result.{IfOk}
use Rattle.yaml_scan.specs.declared.line.RawLine.{RawLine}
use Rattle.yaml_scan.specs.declared.fault.Fault.{Fault}
use Rattle.yaml_scan.specs.declared.fault.YamlFault.{YamlFault}
use Rattle.yaml_scan.specs.declared.fault.YamlFault.TheVariants as faults
use Rattle.yaml_scan.specs.Answers.{Gives}
use Rattle.yaml_scan.specs.Lines.{lines, line_fault, least, without_mark, without_start}
use Rattle.yaml_tree.specs.declared.node.Node.{Node}
use Rattle.yaml_tree.specs.declared.piece.Piece.{Piece}
use Rattle.yaml_tree.specs.Layout.{Answer, document}
use Rattle.yaml_tree.specs.Pieces.{Found, all_pieces, is_begun}
use Rattle.yaml_tree.specs.Tree.{tree, of_pieces, judged, faults as fault_of_all}
use Rattle.yaml_tree.specs.Spelling.{IsText, text as text_is, IsRead, none as no_byte}
use Rattle.yaml_tree.proofs.LinesFound.{least_none, lines_found, lines_read, clean_found, clean_read}
use Rattle.yaml_tree.proofs.AllLines.{start_clean, pieces_found, pieces_read}
use Rattle.yaml_tree.proofs.Found.{document_found}
use Rattle.yaml_tree.proofs.Only.{document_read}
use Rattle.yaml_tree.proofs.Low.{low_tree}

no_fault : (o : Option Fault) (r : Answer Node) (x : Node) → judged o r ≡ Ok x → o ≡ None
no_fault None r x e = refl
no_fault (Some f) r x e = absurd cc

judged_ok : (a b : Option Fault) (r : Answer Node) (x : Node) → judged (fault_of_all a b r) r ≡ Ok x → (a ≡ None) × (b ≡ None) × (rest : List Piece) × (r ≡ Ok (x, rest))
judged_ok a b (Ok y) x e =
    let none = no_fault (least a (least b None)) (Ok y) x e in
    let h = least_none a (least b None) none in
    let q : y.0 ≡ x = let e' : Ok y.0 ≡ Ok x = rw none at e in cc in
    (h.0, (least_none b None h.1).0, y.1, ap (λ (z : Node). Ok (z, y.1)) q)
judged_ok a b (Err f) x e =
    let none = no_fault (least a (least b (Some f))) (Err f) x e in
    let h = least_none a (least b (Some f)) none in
    absurd (let q : Some f ≡ None = (least_none b (Some f) h.1).1 in cc)

pub text_found : (bytes : List ℕ) (root : Node) → tree bytes ≡ Ok root → IsText bytes root
text_found bytes root e =
    let ls : List RawLine = lines bytes in
    let behind : List RawLine = without_start ls in
    let f : Found = all_pieces behind in
    let h = judged_ok (line_fault ls) f.fault (document f.pieces) root e in
    let clean = clean_found ls false h.0 in
    let c = start_clean ls false clean in
    let begun : is_begun [] ≡ true → c.0 ≡ true = λ e. absurd cc in
    let laid = document_found f.pieces root h.2 h.3 in
    text_is (lines_found (without_mark bytes) [] 1 no_byte) clean (pieces_found (suc (length behind)) [] c.0 behind (omega arith) begun c.1 (h.1, low_tree f.pieces root laid)) laid

pub text_read : (bytes : List ℕ) (root : Node) → IsText bytes root → tree bytes ≡ Ok root
text_read bytes root (text_is {ls = ls} {ps = ps} l c p t) =
    let same : lines bytes ≡ ls = lines_read l in
    let whole : (xs : List RawLine) → xs ≡ ls → of_pieces (line_fault xs) (all_pieces (without_start xs)) ≡ Ok root = λ xs is.
    (let clean : line_fault xs ≡ None = ap line_fault is ∙ clean_read ls false c in
    let k = start_clean ls false c in
    let begun : is_begun [] ≡ true → k.0 ≡ true = λ e. absurd cc in
    let q = pieces_read (suc (length (without_start ls))) [] k.0 (without_start ls) ps (omega arith) begun k.1 p (low_tree ps root t) in
    let pieces_are : (all_pieces (without_start xs)).pieces ≡ ps = ap (λ (x : List RawLine). (all_pieces (without_start x)).pieces) is ∙ q.0 in
    let no_fault_in : (all_pieces (without_start xs)).fault ≡ None = ap (λ (x : List RawLine). (all_pieces (without_start x)).fault) is ∙ q.1 in
    let laid : document (all_pieces (without_start xs)).pieces ≡ Ok (root, []) = ap document pieces_are ∙ document_read ps root t in
    judged_so (line_fault xs) (all_pieces (without_start xs)).fault (document (all_pieces (without_start xs)).pieces) root clean no_fault_in laid) in
    whole (lines bytes) same
  where
    judged_so : (a b : Option Fault) (r : Answer Node) (x : Node) → a ≡ None → b ≡ None → r ≡ Ok (x, []) → judged (fault_of_all a b r) r ≡ Ok x
    judged_so a b r x ea eb er = rw (ea, eb, er) refl

-- ---- answers

refused_read : (r : Result Node Fault) (root : Node) (f : Fault) → r ≡ Err f → r ≡ Ok root → ⊥
refused_read (Ok x) root f e g = cc
refused_read (Err d) root f e g = cc

pub found_by : (bytes : List ℕ) (answer : Result Node YamlFault) → Gives (tree bytes) answer → IfOk answer (λ root. IsText bytes root)
found_by bytes (Ok root) g = text_found bytes root g
found_by bytes (Err e) g = tt

pub only_by : (bytes : List ℕ) (answer : Result Node YamlFault) (root : Node) → Gives (tree bytes) answer → IsText bytes root → IsRead answer root
only_by bytes (Ok x) root g t = let q : Ok x ≡ Ok root = sym g ∙ text_read bytes root t in let p : x ≡ root = cc in p
only_by bytes (Err (faults.Bad n code)) root g t = absurd (refused_read (tree bytes) root (record { line = n; code = code }) g (text_read bytes root t))
only_by bytes (Err faults.Memory) root g t = tt
