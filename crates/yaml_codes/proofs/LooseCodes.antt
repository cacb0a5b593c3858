-- A text in the loose notation is refused for a rule alone, and where it is read it is in the grammar.
use Rattle.std.proofs.Common.{◌≡◌, ◌≢◌, ℕ, suc, ◌≤◌, Bool, true, false, cond, ◌||◌, ◌&&◌, ◌⊎◌, inl, inr, List, [], ◌∷◌, ◌++◌, length, take, drop, Option, Some, None, Ok, Err, refl, sym, ap, subst, ◌∙◌, arith}
use Rattle.std.specs.Prelude.{not, ◌==◌}
use Rattle.std.specs.Str.{is_utf8}
use Rattle.std.proofs.lemmas.List.{append-nil, length-take-le}
use Rattle.yaml_scan.specs.declared.line.RawLine.{RawLine}
use Rattle.yaml_scan.specs.declared.fault.Fault.{Fault}
use Rattle.yaml_scan.specs.declared.fault.Code.{Code}
use Rattle.yaml_scan.specs.declared.fault.Code.TheVariants.{Tab, LeftOut, RepeatedKey, Limit, NotUtf8, Structure}
use Rattle.yaml_scan.specs.Codes.{number_of}
use Rattle.yaml_scan.specs.Words.{sees}
use Rattle.yaml_scan.specs.Lines.{lines, fault, tab_fault, mark_fault, utf8_fault, one_fault, or_else, least, fault_from, line_fault, is_blank_line, is_mark, is_directive, without_start}
use Rattle.yaml_tree.specs.declared.node.Node.{Node}
use Rattle.yaml_tree.specs.declared.piece.Piece.{Piece}
use Rattle.yaml_tree.specs.Layout.{Answer, document}
use Rattle.yaml_tree.specs.Pieces.{is_begun}
use Rattle.yaml_tree.specs.Spelling.{IsText, text as a_text}
use Rattle.yaml_tree.specs.Tree.{tree, judged, fault_of}
use Rattle.yaml_tree.proofs.AllLines.{start_clean, pieces_read}
use Rattle.yaml_tree.proofs.LinesFound.{lines_read}
use Rattle.yaml_tree.proofs.Low.{Low, low_tree}
use Rattle.yaml_tree.proofs.TextFound.{text_found}
use Rattle.yaml_laws.specs.Refused.{SameLines}
use Rattle.yaml_laws.proofs.Cuts.{one_of, none_of, each_was, early_lines, numbered_become, all_numbered, told_text, cut, cut_same, on_a_line}
use Rattle.yaml_laws.proofs.FollowedLines.{Follows, comes, stays, deeper, closes}
use Rattle.yaml_laws.proofs.Orders.{least_in}
use Rattle.yaml_laws.proofs.Whole.{read_lines, in_tree, told, ok_told, err_told}
use Rattle.yaml_rules.specs.LooseText.{AreOrderly, line as one_line}
use Rattle.yaml_rules.specs.Notation as n
use Rattle.yaml_codes.proofs.Allowed.{Told, document_told}
use Rattle.yaml_rules.proofs.Firsts.{two_codes}
use Rattle.yaml_rules.proofs.Layouts.{IsTreeCode}
use Rattle.yaml_rules.proofs.LooseLines.{start_orderly}
use Rattle.yaml_codes.proofs.LooseNodes.{IsFront, front_is, notation_front, notation_same}
use Rattle.yaml_codes.proofs.LoosePieces.{no_more, less_exact, PiecesAs, all_as, front_as, pieces_as}

-- one of the three rules
abbrev pub IsOfRule : Code → Type 0
IsOfRule c = (c ≡ RepeatedKey) ⊎ ((c ≡ Limit) ⊎ (c ≡ NotUtf8))

-- ---- lines

pub if_none : (b : Bool) (d g : Fault) → b ≡ false → cond b (Some d) None ≡ Some g → ⊥
if_none true d g e h = cc
if_none false d g e h = cc

unless_is : (b : Bool) (d g : Fault) → cond b None (Some d) ≡ Some g → g.code ≡ d.code
unless_is true d g h = absurd cc
unless_is false d g h = let q : d ≡ g = cc in ap (λ (z : Fault). z.code) (sym q)

one_utf8 : (begun : Bool) (l : RawLine) (g : Fault) → sees 9 l.content ≡ false → is_directive l ≡ false → (begun && is_mark l) ≡ false → one_fault begun l ≡ Some g → g.code ≡ NotUtf8
one_utf8 begun l g t d m e =
    elim (least_in (tab_fault l) (least (mark_fault begun l) (utf8_fault l)) g e) [
      | inl h ↦ absurd (if_none (sees 9 l.content) (fault l.line Tab) g t h)
      | inr h ↦ elim (least_in (mark_fault begun l) (utf8_fault l) g h) [
        | inl i ↦ absurd (if_none (is_directive l || (begun && is_mark l)) (fault l.line LeftOut) g (rw (d, m) refl) i)
        | inr i ↦ unless_is (is_utf8 l.content) (fault l.line NotUtf8) g i
      ]
    ]

line_utf8 : (ls : List RawLine) (begun : Bool) (g : Fault) → AreOrderly begun ls → fault_from begun ls ≡ Some g → g.code ≡ NotUtf8
unfolding fault_from
line_utf8 [] begun g o e = absurd cc
line_utf8 (l ∷ ls) begun g (one_line t d m r) e = by (one_fault begun l) refl e (λ q. line_utf8 ls (begun || not (is_blank_line l)) g r q)
  where
    by : (o : Option Fault) → one_fault begun l ≡ o → or_else o (fault_from (begun || not (is_blank_line l)) ls) ≡ Some g → (fault_from (begun || not (is_blank_line l)) ls ≡ Some g → g.code ≡ NotUtf8) → g.code ≡ NotUtf8
    by None is e more = more e
    by (Some h) is e more = one_utf8 begun l g t d m (is ∙ e)

-- ---- a text in the loose notation

pub record Loosely (ls : List RawLine) (root : Node) : Type 0 where
  pub whole : List Piece
  pub orderly : AreOrderly false ls
  pub pieces : PiecesAs whole (read_lines ls)
  pub notation : n.IsNotation whole root

pub loosely_read : (other : List ℕ) (root : Node) (ls : List RawLine) → lines other ≡ ls → n.IsLooseText other root → Loosely ls root
loosely_read other root ls e (n.loosely {ls = xs} {ps = ps} l o p t) =
    let same : xs ≡ ls = sym (lines_read l) ∙ e in
    let k = start_orderly xs false o in
    subst (λ (ys : List RawLine). Loosely ys root) same
    (record { whole = ps; orderly = o; pieces = pieces_as (suc (length (without_start xs))) [] [] k.0 (without_start xs) ps (omega arith) (λ e. absurd cc) k.1 no_more p; notation = t })

tree_code : (r : Answer Node) (y : Node) (g : Fault) → Told r y [] → fault_of r ≡ Some g → IsTreeCode g.code
tree_code r y g (inl e) i = absurd (let q : None ≡ Some g = sym (ap fault_of e) ∙ i in cc)
tree_code r y g (inr f) i =
    let z : Some f.0 ≡ Some g = sym (ap fault_of f.1) ∙ i in
    let q : f.0 ≡ g = cc in
    subst (λ (z : Fault). IsTreeCode z.code) q f.2

-- the pieces that are read are in the notation too
pub read_notation : (ls : List RawLine) (root : Node) → Loosely ls root → (y : Node) × n.IsNotation (read_lines ls).pieces y
read_notation ls root l = by l.whole l.pieces l.notation
  where
    by : (whole : List Piece) → PiecesAs whole (read_lines ls) → n.IsNotation whole root → (y : Node) × n.IsNotation (read_lines ls).pieces y
    by whole (all_as none s) t =
        let f : IsFront (read_lines ls).pieces (whole ++ []) = front_is [] (less_exact s) in
        notation_front (read_lines ls).pieces whole root t (subst (IsFront (read_lines ls).pieces) (append-nil whole) f)
    by whole (front_as m front tail e is s) t = notation_front (read_lines ls).pieces whole root t (subst (IsFront (read_lines ls).pieces) (sym is) (front_is tail s))

of_tree_code : (c : Code) → IsTreeCode c → IsOfRule c
of_tree_code c h = elim (two_codes c h) [ inl e ↦ inl e | inr e ↦ inr (inl e) ]

-- each of its faults is one of a rule
pub each_of_rule : (ls : List RawLine) (root : Node) (g : Fault) → Loosely ls root → (line_fault ls ≡ Some g) ⊎ (((read_lines ls).fault ≡ Some g) ⊎ (in_tree ls ≡ Some g)) → IsOfRule g.code
each_of_rule ls root g l (inl h) = inr (inr (line_utf8 ls false g l.orderly h))
each_of_rule ls root g l (inr (inl h)) = by l.whole l.pieces
  where
    by : (whole : List Piece) → PiecesAs whole (read_lines ls) → IsOfRule g.code
    by whole (all_as none s) = absurd (let q : None ≡ Some g = sym none ∙ h in cc)
    by whole (front_as m front tail e is s) =
        let z : Some (record { line = m; code = RepeatedKey }) ≡ Some g = sym e ∙ h in
        let q : record { line = m; code = RepeatedKey } ≡ g = cc in
        inl (ap (λ (z : Fault). z.code) (sym q))
each_of_rule ls root g l (inr (inr h)) =
    let r = read_notation ls root l in
    of_tree_code g.code (tree_code (document (read_lines ls).pieces) r.0 g (document_told (read_lines ls).pieces r.0 r.1) h)

pub only_of_rules : (text : List ℕ) (root : Node) (f : Fault) → n.IsLooseText text root → tree text ≡ Err f → (f.code ≡ RepeatedKey) ⊎ ((f.code ≡ Limit) ⊎ (f.code ≡ NotUtf8))
only_of_rules text root f i e = each_of_rule (lines text) root f (loosely_read text root (lines text) refl i) (one_of (lines text) f (err_told (lines text) f e))

-- ---- where it is read

pub loosely_in : (text : List ℕ) (root x : Node) → n.IsLooseText text root → tree text ≡ Ok x → IsText text root
loosely_in text root x i e = by (text_found text x e) (loosely_read text root (lines text) refl i)
  where
    low_read : IsText text x → Low (read_lines (lines text)).pieces
    low_read (a_text {ls = xs} {ps = ps} l c p t) =
        let same : xs ≡ lines text = sym (lines_read l) in
        let k = start_clean xs false c in
        let begun : is_begun [] ≡ true → k.0 ≡ true = λ e. absurd cc in
        let low = low_tree ps x t in
        let q = pieces_read (suc (length (without_start xs))) [] k.0 (without_start xs) ps (omega arith) begun k.1 p low in
        subst (λ (ys : List RawLine). Low (read_lines ys).pieces) same (subst Low (sym q.0) low)

    none_read : (read_lines (lines text)).fault ≡ None
    none_read = (none_of (lines text) (ok_told (lines text) x e)).of_piece

    none_tree : in_tree (lines text) ≡ None
    none_tree = (none_of (lines text) (ok_told (lines text) x e)).of_tree

    given : (d : Answer Node) → document (read_lines (lines text)).pieces ≡ d → Told d root [] → document (read_lines (lines text)).pieces ≡ Ok (root, [])
    given d is (inl h) = is ∙ h
    given d is (inr f) = absurd (let q : Some f.0 ≡ None = sym (ap fault_of f.1) ∙ ap fault_of (sym is) ∙ none_tree in cc)

    judged_is : (o : Option Fault) (r : Answer Node) → o ≡ None → r ≡ Ok (root, []) → judged o r ≡ Ok root
    judged_is o r e e' = rw (e, e') refl

    by : IsText text x → Loosely (lines text) root → IsText text root
    by t l = whole_by l.whole l.pieces l.notation
      where
        whole_by : (whole : List Piece) → PiecesAs whole (read_lines (lines text)) → n.IsNotation whole root → IsText text root
        whole_by whole (front_as m front tail bad is s) h = absurd (let q : None ≡ Some (record { line = m; code = RepeatedKey }) = sym none_read ∙ bad in cc)
        whole_by whole (all_as none s) h =
            let own = notation_same (read_lines (lines text)).pieces whole root h s (low_read t) in
            text_found text root (judged_is (told (lines text)) (document (read_lines (lines text)).pieces) (ok_told (lines text) x e)
            (given (document (read_lines (lines text)).pieces) refl (document_told (read_lines (lines text)).pieces root own)))

-- ---- the other codes

-- what became of a fault that stays
kept : (k : ℕ) (f : Fault) (x y : Option Fault) → f.code ≢ Structure → f.code ≢ Limit → x ≡ Some f → Follows k x y → y ≡ Some f
kept k f x y s l e (comes h) = absurd cc
kept k f x y s l e (stays {f = d}) = e
kept k f x y s l e (deeper {f = d} c lt) = let q : d ≡ f = cc in absurd (l (subst (λ (z : Fault). z.code ≡ Limit) q c))
kept k f x y s l e (closes {f = d} c o) = let q : d ≡ f = cc in absurd (s (subst (λ (z : Fault). z.code ≡ Structure) q c))

by_number : (d : Code) (m : ℕ) (c : Code) → c ≡ d → number_of d ≡ m → (m == 2) ≡ false → c ≢ Structure
by_number d m c is e apart same = let q : true ≡ false = subst (λ (k : ℕ). (k == 2) ≡ false) (sym e ∙ ap number_of (sym is ∙ same)) apart in cc

not_of_rule : (d c : Code) → c ≡ d → d ≢ RepeatedKey → d ≢ Limit → d ≢ NotUtf8 → IsOfRule c → ⊥
not_of_rule d c is a b e (inl h) = a (sym is ∙ h)
not_of_rule d c is a b e (inr (inl h)) = b (sym is ∙ h)
not_of_rule d c is a b e (inr (inr h)) = e (sym is ∙ h)

-- with a line of C1 or C3 no text of the loose notation goes on
pub no_loose : (text other : List ℕ) (f : Fault) (root : Node) → tree text ≡ Err f → f.code ≢ Structure → (IsOfRule f.code → ⊥) → SameLines f.line text other → n.IsLooseText other root → ⊥
no_loose text other f root e no_structure no_rule same i =
    let p : List RawLine = take f.line (lines text) in
    let a : List RawLine = drop f.line (lines text) in
    let b : List RawLine = drop f.line (lines other) in
    let h = all_numbered text (p ++ a) (cut f.line (lines text)) in
    let is = cut_same f.line text other same in
    let h' = all_numbered other (p ++ b) is in
    let long : length p ≡ f.line = length-take-le f.line (lines text) (on_a_line text f e) in
    let le : f.line ≤ length p = omega (arith, long) in
    let become = numbered_become p b h' in
    let l = loosely_read other root (p ++ b) is i in
    let no_limit : f.code ≢ Limit = λ q. no_rule (inr (inl q)) in
    elim (each_was (length p) p (p ++ a) (early_lines p a h) (numbered_become p a h) f le (one_of (p ++ a) f (told_text text (p ++ a) f (cut f.line (lines text)) e))) [
      | inr c ↦ no_structure c
      | inl was ↦ elim was [
        | inl j ↦ no_rule (each_of_rule (p ++ b) root f l (inl (kept (length p) f (line_fault p) (line_fault (p ++ b)) no_structure no_limit j become.alone)))
        | inr r ↦ elim r [
          | inl j ↦ no_rule (each_of_rule (p ++ b) root f l (inr (inl (kept (length p) f (read_lines p).fault (read_lines (p ++ b)).fault no_structure no_limit j become.of_piece))))
          | inr j ↦ no_rule (each_of_rule (p ++ b) root f l (inr (inr (kept (length p) f (in_tree p) (in_tree (p ++ b)) no_structure no_limit j become.of_tree))))
        ]
      ]
    ]

pub left_out_or_tab : (text : List ℕ) (f : Fault) → tree text ≡ Err f → (f.code ≡ LeftOut) ⊎ (f.code ≡ Tab) → n.IsNoText f.line text
left_out_or_tab text f e (inl c) other root same i = no_loose text other f root e (by_number LeftOut 3 f.code c refl refl) (not_of_rule LeftOut f.code c (λ q. cc) (λ q. cc) (λ q. cc)) same i
left_out_or_tab text f e (inr c) other root same i = no_loose text other f root e (by_number Tab 1 f.code c refl refl) (not_of_rule Tab f.code c (λ q. cc) (λ q. cc) (λ q. cc)) same i
