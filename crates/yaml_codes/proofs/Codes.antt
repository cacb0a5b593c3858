-- What C4 and C12 tell of their line.
use Rattle.std.proofs.Common.{◌≡◌, ◌≢◌, ℕ, suc, ◌≤◌, true, false, ◌⊎◌, inl, inr, List, [], ◌∷◌, ◌++◌, length, take, drop, Option, Some, None, Err, refl, sym, ap, subst, ◌∙◌, arith}
use Rattle.std.specs.Prelude.{◌==◌, nat_le}
use Rattle.std.proofs.lemmas.Bool.{leb-true, leb-false}
use Rattle.std.proofs.lemmas.List.{length-take-le}
use Rattle.yaml_scan.specs.declared.line.RawLine.{RawLine}
use Rattle.yaml_scan.specs.declared.fault.Fault.{Fault}
use Rattle.yaml_scan.specs.declared.fault.Code.{Code}
use Rattle.yaml_scan.specs.declared.fault.Code.TheVariants.{Structure, LeftOut, RepeatedKey, Limit, Tab, NotUtf8}
use Rattle.yaml_scan.specs.Codes.{number_of}
use Rattle.yaml_scan.specs.Lines.{lines, line_fault, without_mark, without_start}
use Rattle.yaml_tree.specs.declared.node.Node.{Node}
use Rattle.yaml_tree.specs.declared.piece.Piece.{Piece}
use Rattle.yaml_tree.specs.declared.piece.What.{What}
use Rattle.yaml_tree.specs.declared.piece.What.TheVariants.{Dash, Key, Leaf}
use Rattle.yaml_tree.specs.Layout.{Answer, document}
use Rattle.yaml_tree.specs.Pieces.{all_pieces, is_begun}
use Rattle.yaml_tree.specs.Tree.{tree, fault_of}
use Rattle.yaml_tree.specs.Spelling.{none as no_byte, IsLines, IsPieces}
use Rattle.yaml_tree.proofs.LinesFound.{lines_found, lines_read, clean_found, clean_read}
use Rattle.yaml_tree.proofs.AllLines.{start_clean, pieces_found, pieces_read}
use Rattle.yaml_tree.proofs.Low.{Low}
use Rattle.yaml_laws.proofs.Followed.{dash, key, leaf, Alike, none as no_piece, more as more_alike}
use Rattle.yaml_laws.proofs.FollowedLines.{Follows, comes, stays, deeper, closes}
use Rattle.yaml_laws.proofs.Whole.{read_lines, in_tree, told, err_told}
use Rattle.yaml_laws.proofs.Orders.{tested}
use Rattle.yaml_laws.proofs.Cuts.{one_remains, one_of, each_was, numbered_become, early_lines, all_numbered, told_text, cut, cut_same, on_a_line}
use Rattle.yaml_rules.specs.Notation as n
use Rattle.yaml_rules.proofs.Layouts.{IsTreeCode}
use Rattle.yaml_rules.proofs.Firsts.{three_codes, two_codes}
use Rattle.yaml_codes.proofs.Allowed.{Told, document_told}
use Rattle.yaml_codes.proofs.Lows.{low_from, low_to}

-- ---- no leaf is too high

pub low_or_not : (ps : List Piece) → Low ps ⊎ (Low ps → ⊥)
low_or_not [] = inl tt
low_or_not (p ∷ ps) = by p.what (low_or_not ps)
  where
    one : (w : What) → Type 0
    one w = Low (record { line = p.line; column = p.column; what = w } ∷ ps) ⊎ (Low (record { line = p.line; column = p.column; what = w } ∷ ps) → ⊥)

    by : (w : What) → Low ps ⊎ (Low ps → ⊥) → Low (record { line = p.line; column = p.column; what = w } ∷ ps) ⊎ (Low (record { line = p.line; column = p.column; what = w } ∷ ps) → ⊥)
    by w (inr h) = inr (λ l. h l.1)
    by Dash (inl h) = inl (tt, h)
    by (Key k) (inl h) = inl (tt, h)
    by (Leaf x height out) (inl h) = elim (tested (nat_le height 64)) [
      | inl e ↦ inl (leb-true height 64 e, h)
      | inr e ↦ inr (λ l. let lt = leb-false height 64 e in let le = l.0 in omega (arith, lt, le))
    ]

pub low_back : {ps qs : List Piece} → Alike ps qs → Low qs → Low ps
low_back no_piece l = l
low_back (more_alike dash a) l = (tt, low_back a l.1)
low_back (more_alike key a) l = (tt, low_back a l.1)
low_back (more_alike leaf a) l = (l.0, low_back a l.1)

pub low_on : {ps qs : List Piece} → Alike ps qs → Low ps → Low qs
low_on no_piece l = l
low_on (more_alike dash a) l = (tt, low_on a l.1)
low_on (more_alike key a) l = (tt, low_on a l.1)
low_on (more_alike leaf a) l = (l.0, low_on a l.1)

-- ---- a text in the notation

pub record Plain (ls : List RawLine) : Type 0 where
  pub clean : line_fault ls ≡ None
  pub read : (read_lines ls).fault ≡ None
  pub low : Low (read_lines ls).pieces

pub notation_read : (other : List ℕ) (root : Node) (ls : List RawLine) → lines other ≡ ls → n.IsNotationText other root → Plain ls
notation_read other root ls e (n.in_notation {ps = ps} (n.spelled {ls = xs} l c p are_low) t) =
    let same : xs ≡ ls = sym (lines_read l) ∙ e in
    let k = start_clean xs false c in
    let begun : is_begun [] ≡ true → k.0 ≡ true = λ e. absurd cc in
    let low : Low ps = low_from are_low in
    let q = pieces_read (suc (length (without_start xs))) [] k.0 (without_start xs) ps (omega arith) begun k.1 p low in
    subst Plain same (record { clean = clean_read xs false c; read = q.1; low = subst Low (sym q.0) low })

pub spelled_text : (other : List ℕ) (ls : List RawLine) → lines other ≡ ls → Plain ls → n.IsSpelled other (read_lines ls).pieces × IsPieces [] (without_start ls) (read_lines ls).pieces
spelled_text other ls e plain =
    let behind : List RawLine = without_start ls in
    let clean = clean_found ls false plain.clean in
    let c = start_clean ls false clean in
    let begun : is_begun [] ≡ true → c.0 ≡ true = λ e. absurd cc in
    let p : IsPieces [] behind (all_pieces behind).pieces = pieces_found (suc (length behind)) [] c.0 behind (omega arith) begun c.1 (plain.read, plain.low) in
    (n.spelled (subst (λ (xs : List RawLine). IsLines 1 (without_mark other) xs) e (lines_found (without_mark other) [] 1 no_byte)) clean p (low_to (all_pieces behind).pieces plain.low), p)

-- ---- the other codes

-- a text in the notation has no fault of lines and pieces, and of its tree one with the two codes
pub in_tree_code : (ls : List RawLine) (root : Node) (g : Fault) → (other : List ℕ) → lines other ≡ ls → n.IsNotationText other root → in_tree ls ≡ Some g → IsTreeCode g.code
in_tree_code ls root g other e (n.in_notation {ps = ps} (n.spelled {ls = xs} l c p low) t) i =
    let same : xs ≡ ls = sym (lines_read l) ∙ e in
    let k = start_clean xs false c in
    let begun : is_begun [] ≡ true → k.0 ≡ true = λ e. absurd cc in
    let q = pieces_read (suc (length (without_start xs))) [] k.0 (without_start xs) ps (omega arith) begun k.1 p (low_from low) in
    let i' : fault_of (document ps) ≡ Some g = ap (λ (qs : List Piece). fault_of (document qs)) (sym q.0) ∙ ap in_tree same ∙ i in
    by (document ps) (document_told ps root t) i'
  where
    by : (r : Answer Node) → Told r root [] → fault_of r ≡ Some g → IsTreeCode g.code
    by r (inl h) i = absurd (let q : None ≡ Some g = sym (ap fault_of h) ∙ i in cc)
    by r (inr f) i = let q : f.0 ≡ g = let z : Some f.0 ≡ Some g = sym (ap fault_of f.1) ∙ i in cc in subst (λ (z : Fault). IsTreeCode z.code) q f.2

told_code : (ls : List RawLine) (root : Node) (g : Fault) (other : List ℕ) → lines other ≡ ls → n.IsNotationText other root → told ls ≡ Some g → IsTreeCode g.code
told_code ls root g other e i h =
    let plain = notation_read other root ls e i in
    elim (one_of ls g h) [
      | inl j ↦ absurd (let q : None ≡ Some g = sym plain.clean ∙ j in cc)
      | inr r ↦ elim r [
        | inl j ↦ absurd (let q : None ≡ Some g = sym plain.read ∙ j in cc)
        | inr j ↦ in_tree_code ls root g other e i j
      ]
    ]

pub only_rules : (text : List ℕ) (root : Node) (f : Fault) → n.IsNotationText text root → tree text ≡ Err f → (f.code ≡ RepeatedKey) ⊎ (f.code ≡ Limit)
only_rules text root f i e = two_codes f.code (told_code (lines text) root f text refl i (err_told (lines text) f e))

-- what became of the tree's fault
kept : (k : ℕ) (f g : Fault) (x y : Option Fault) → f.code ≢ Structure → f.code ≢ Limit → x ≡ Some f → Follows k x y → y ≡ Some g → g ≡ f
kept k f g x y s l e (comes h) i = absurd cc
kept k f g x y s l e (stays {f = d}) i = let q : Some f ≡ Some g = sym e ∙ i in cc
kept k f g x y s l e (deeper {f = d} c lt) i = let q : d ≡ f = cc in absurd (l (subst (λ (z : Fault). z.code ≡ Limit) q c))
kept k f g x y s l e (closes {f = d} c o) i = let q : d ≡ f = cc in absurd (s (subst (λ (z : Fault). z.code ≡ Structure) q c))

pub no_notation : (text : List ℕ) (f : Fault) → tree text ≡ Err f → f.code ≢ Structure → (IsTreeCode f.code → ⊥) → n.IsUnspelled f.line text
no_notation text f e no_structure other_code other root same i =
    let p : List RawLine = take f.line (lines text) in
    let a : List RawLine = drop f.line (lines text) in
    let b : List RawLine = drop f.line (lines other) in
    let h = all_numbered text (p ++ a) (cut f.line (lines text)) in
    let is = cut_same f.line text other same in
    let h' = all_numbered other (p ++ b) is in
    let long : length p ≡ f.line = length-take-le f.line (lines text) (on_a_line text f e) in
    let le : f.line ≤ length p = omega (arith, long) in
    let become = numbered_become p b h' in
    let plain = notation_read other root (p ++ b) is i in
    elim (each_was (length p) p (p ++ a) (early_lines p a h) (numbered_become p a h) f le (one_of (p ++ a) f (told_text text (p ++ a) f (cut f.line (lines text)) e))) [
      | inr c ↦ no_structure c
      | inl was ↦ elim was [
        | inl j ↦ one_remains (length p) f (line_fault p) (line_fault (p ++ b)) no_structure j become.alone plain.clean
        | inr r ↦ elim r [
          | inl j ↦ one_remains (length p) f (read_lines p).fault (read_lines (p ++ b)).fault no_structure j become.of_piece plain.read
          | inr j ↦ by_tree p b is no_structure (λ l. other_code (three_codes f.code (inr l))) j become.of_tree (in_tree (p ++ b)) refl
        ]
      ]
    ]
  where
    by_tree : (p b : List RawLine) → lines other ≡ p ++ b → f.code ≢ Structure → f.code ≢ Limit → in_tree p ≡ Some f → Follows (length p) (in_tree p) (in_tree (p ++ b)) → (o : Option Fault) → in_tree (p ++ b) ≡ o → ⊥
    by_tree p b is s l j fol None q = one_remains (length p) f (in_tree p) (in_tree (p ++ b)) s j fol q
    by_tree p b is s l j fol (Some g) q =
        let same_fault : g ≡ f = kept (length p) f g (in_tree p) (in_tree (p ++ b)) s l j fol q in
        other_code (subst (λ (z : Fault). IsTreeCode z.code) same_fault (in_tree_code (p ++ b) root g other is i q))

of_code : (c d : Code) → c ≡ d → (IsTreeCode d → ⊥) → d ≢ Structure → (IsTreeCode c → ⊥) × (c ≢ Structure)
of_code c d e t s = ((λ h. t (subst IsTreeCode e h)), (λ h. s (sym e ∙ h)))

by_number : (c : Code) (m : ℕ) → number_of c ≡ m → (m == 2) ≡ false → c ≢ Structure
by_number c m e apart same = let q : true ≡ false = subst (λ (k : ℕ). (k == 2) ≡ false) (sym e ∙ ap number_of same) apart in cc

pub other_codes : (text : List ℕ) (f : Fault) → tree text ≡ Err f → (f.code ≡ LeftOut) ⊎ ((f.code ≡ Tab) ⊎ (f.code ≡ NotUtf8)) → n.IsUnspelled f.line text
other_codes text f e (inl c) = let h = of_code f.code LeftOut c (λ t. cc) (by_number LeftOut 3 refl refl) in no_notation text f e h.1 h.0
other_codes text f e (inr (inl c)) = let h = of_code f.code Tab c (λ t. cc) (by_number Tab 1 refl refl) in no_notation text f e h.1 h.0
other_codes text f e (inr (inr c)) = let h = of_code f.code NotUtf8 c (λ t. cc) (by_number NotUtf8 13 refl refl) in no_notation text f e h.1 h.0
