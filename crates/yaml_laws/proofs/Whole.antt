-- The faults of a text, and those of a text that begins with its lines.
use Rattle.std.proofs.Common.{◌≡◌, ℕ, suc, ◌≤◌, false, List, [], ◌++◌, length, ◌⊎◌, inl, inr, Option, Some, None, Ok, Err, refl, sym, ap, subst, arith, length-append}
use Rattle.yaml_scan.specs.declared.line.RawLine.{RawLine}
use Rattle.yaml_scan.specs.declared.fault.Fault.{Fault}
use Rattle.yaml_scan.specs.declared.fault.Code.TheVariants.{Limit}
use Rattle.yaml_scan.specs.Lines.{line_fault, least, without_start}
use Rattle.yaml_tree.specs.declared.node.Node.{Node}
use Rattle.yaml_tree.specs.declared.piece.Piece.{Piece}
use Rattle.yaml_tree.specs.Layout.{Answer, document}
use Rattle.yaml_tree.specs.Pieces.{Found, all_pieces}
use Rattle.yaml_tree.specs.Tree.{of_pieces, judged, faults, fault_of}
use Rattle.yaml_tree.proofs.LinesFound.{least_none}
use Rattle.yaml_laws.proofs.Laid.{AllOn, Lies, stops, document_lies}
use Rattle.yaml_laws.proofs.Followed.{Agree, same, passed, fails, deeper as too_deep, Any, document_agrees}
use Rattle.yaml_laws.proofs.Walked.{AllIn}
use Rattle.yaml_laws.proofs.WalkedPieces.{OnFault, Adds, adds_pieces}
use Rattle.yaml_laws.proofs.FollowedScalars.{Late, AllLate}
use Rattle.yaml_laws.proofs.FollowedLines.{Rises, Follows, comes, stays, deeper, Ahead, pieces_follow, faults_on, lines_follow, start_in, Starts, start_follows}

abbrev pub read_lines : List RawLine → Found
read_lines ls = all_pieces (without_start ls)

-- the three faults
abbrev pub in_tree : List RawLine → Option Fault
in_tree ls = fault_of (document (read_lines ls).pieces)

abbrev pub told : List RawLine → Option Fault
told ls = faults (line_fault ls) (read_lines ls).fault (document (read_lines ls).pieces)

pub record Parts (R : Option Fault → Type 0) (ls : List RawLine) : Type 0 where
  pub alone : R (line_fault ls)
  pub of_piece : R (read_lines ls).fault
  pub of_tree : R (in_tree ls)

lies_on : (P : ℕ → Type 0) (n : ℕ) (r : Answer Node) → Lies P n r → OnFault P (fault_of r)
lies_on P n (Ok x) h = tt
lies_on P n (Err f) (stops p) = p

-- each fault stands on one of the lines
pub parts_on : (P : ℕ → Type 0) (ls : List RawLine) → AllIn P ls → Parts (OnFault P) ls
parts_on P ls h =
    let q : List RawLine = without_start ls in
    let d : Adds P (AllIn P) [] (all_pieces q) = adds_pieces P (AllIn P) (λ l rest i. i) (suc (length q)) [] q (start_in (AllIn P) (λ l rest i. i.1) ls h) in
    let on : AllOn P (all_pieces q).pieces = subst (λ (ps : List Piece). AllOn P ps) (sym d.are) d.on_lines in
    record { alone = faults_on P ls false h; of_piece = d.on_fault; of_tree = lies_on P _ _ (document_lies P (all_pieces q).pieces on) }

-- what becomes of them when lines follow
pub record Become (k : ℕ) (p q : List RawLine) : Type 0 where
  pub alone : Follows k (line_fault p) (line_fault q)
  pub of_piece : Follows k (read_lines p).fault (read_lines q).fault
  pub of_tree : Follows k (in_tree p) (in_tree q)
  pub too_deep_only : (f : Fault) → in_tree p ≡ Some f → (in_tree q ≡ Some f) ⊎ (f.code ≡ Limit)

agree_follows : (k n : ℕ) (tail : List Piece) (r s : Answer Node) → Agree (λ m. m ≤ k) (Late k) Any n tail r s → Follows k (fault_of r) (fault_of s)
agree_follows k n tail (Ok x) (Ok y) (same v e a l h) = comes tt
agree_follows k n tail (Ok x) s (passed e h) = comes (lies_on (Late k) _ s h)
agree_follows k n tail (Err f) (Err g) fails = stays
agree_follows k n tail (Err f) (Err g) (too_deep c l q) = deeper c q
agree_follows k n tail (Err f) (Ok y) h = elim h [ ]

agree_keeps : (L Q : ℕ → Type 0) (n : ℕ) (tail : List Piece) (r s : Answer Node) → Agree L Q Any n tail r s → (f : Fault) → fault_of r ≡ Some f → (fault_of s ≡ Some f) ⊎ (f.code ≡ Limit)
agree_keeps L Q n tail (Ok x) s h f e = absurd cc
agree_keeps L Q n tail (Err d) (Err d') fails f e = inl e
agree_keeps L Q n tail (Err d) (Err d') (too_deep c l q) f e = let is : d ≡ f = cc in inr (subst (λ (z : Fault). z.code ≡ Limit) is c)
agree_keeps L Q n tail (Err d) (Ok y) h f e = elim h [ ]

-- where nothing follows, the fault of alike pieces is the same
pub agree_same : (L : ℕ → Type 0) (n : ℕ) (r s : Answer Node) → Agree L (λ m. ⊥) Any n [] r s → fault_of r ≡ fault_of s
agree_same L n (Ok x) (Ok y) h = refl
agree_same L n (Ok x) (Err g) (passed e (stops h)) = absurd h
agree_same L n (Err d) (Err d') fails = refl
agree_same L n (Err d) (Err d') (too_deep c l q) = absurd q
agree_same L n (Err d) (Ok y) h = elim h [ ]

pub parts_become : (k : ℕ) (p a : List RawLine) → AllIn (λ m. m ≤ k) p → Rises p → AllLate k a → Become k p (p ++ a)
parts_become k p a early rises late =
    let q : List RawLine = without_start p in
    let s : Starts k q (without_start (p ++ a)) = start_follows k a late p in
    let on_q : AllIn (λ m. m ≤ k) q = start_in (AllIn (λ m. m ≤ k)) (λ l rest i. i.1) p early in
    let h : Ahead k (all_pieces q) (all_pieces (q ++ s.behind_them)) =
    pieces_follow k s.behind_them s.late (suc (length q)) (suc (length (q ++ s.behind_them))) [] q (omega arith) (omega (arith, length-append q s.behind_them)) (on_q, start_in Rises (λ l rest i. i.1) p rises, omega arith) in
    let is : Ahead k (read_lines p) (read_lines (p ++ a)) = subst (λ (ls : List RawLine). Ahead k (all_pieces q) (all_pieces ls)) (sym s.are) h in
    let d : Adds (λ m. m ≤ k) (AllIn (λ m. m ≤ k)) [] (all_pieces q) = adds_pieces (λ m. m ≤ k) (AllIn (λ m. m ≤ k)) (λ l rest i. i) (suc (length q)) [] q on_q in
    let on : AllOn (λ m. m ≤ k) (all_pieces q).pieces = subst (λ (ps : List Piece). AllOn (λ m. m ≤ k) ps) (sym d.are) d.on_lines in
    let agree = document_agrees (λ m. m ≤ k) (Late k) is.tail is.late (read_lines p).pieces is.front is.alike on in
    let laid : Follows k (in_tree p) (fault_of (document (is.front ++ is.tail))) = agree_follows k _ is.tail _ _ agree in
    record {
      alone = lines_follow k a late p false;
      of_piece = is.faults;
      of_tree = subst (λ (ps : List Piece). Follows k (in_tree p) (fault_of (document ps))) (sym is.are) laid;
      too_deep_only = subst (λ (ps : List Piece). (f : Fault) → in_tree p ≡ Some f → (fault_of (document ps) ≡ Some f) ⊎ (f.code ≡ Limit)) (sym is.are) (agree_keeps (λ m. m ≤ k) (Late k) _ is.tail _ _ agree);
    }

-- ---- the answer, by its fault

some_told : (o : Option Fault) (r : Answer Node) (f : Fault) → (o ≡ None → fault_of r ≡ None) → judged o r ≡ Err f → o ≡ Some f
some_told (Some g) r f h e = let q : g ≡ f = cc in ap (λ (x : Fault). Some x) q
some_told None (Ok x) f h e = absurd cc
some_told None (Err g) f h e = absurd (let q : Some g ≡ None = h refl in cc)

pub err_told : (ls : List RawLine) (f : Fault) → of_pieces (line_fault ls) (read_lines ls) ≡ Err f → told ls ≡ Some f
err_told ls f e =
    some_told (told ls) (document (read_lines ls).pieces) f
    (λ none. (least_none (read_lines ls).fault (in_tree ls) (least_none (line_fault ls) (least (read_lines ls).fault (in_tree ls)) none).1).1) e

pub told_err : (ls : List RawLine) (f : Fault) → told ls ≡ Some f → of_pieces (line_fault ls) (read_lines ls) ≡ Err f
told_err ls f e = rw e refl

ok_none : (o : Option Fault) (r : Answer Node) (x : Node) → judged o r ≡ Ok x → o ≡ None
ok_none None r x e = refl
ok_none (Some f) r x e = absurd cc

pub ok_told : (ls : List RawLine) (x : Node) → of_pieces (line_fault ls) (read_lines ls) ≡ Ok x → told ls ≡ None
ok_told ls x e = ok_none (told ls) (document (read_lines ls).pieces) x e

pub none_read : (ls : List RawLine) → told ls ≡ None → (x : Node) × (of_pieces (line_fault ls) (read_lines ls) ≡ Ok x)
none_read ls e =
    let inner : in_tree ls ≡ None = (least_none (read_lines ls).fault (in_tree ls) (least_none (line_fault ls) (least (read_lines ls).fault (in_tree ls)) e).1).1 in
    by (told ls) (document (read_lines ls).pieces) e inner
  where
    by : (o : Option Fault) (r : Answer Node) → o ≡ None → fault_of r ≡ None → (x : Node) × (judged o r ≡ Ok x)
    by None (Ok x) e i = (x.0, refl)
    by None (Err f) e i = absurd cc
    by (Some f) r e i = absurd cc
