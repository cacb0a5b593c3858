-- C3 stands at a line with a sign of what is left out.
use Rattle.std.proofs.Common.{◌≡◌, ℕ, Bool, true, false, cond, ◌||◌, ◌&&◌, ◌⊎◌, inl, inr, List, [], ◌∷◌, ◌++◌, Option, Some, None, Err, refl, sym, ap, ◌∙◌, append_assoc}
use Rattle.std.specs.Prelude.{not}
use Rattle.std.specs.Str.{is_utf8}
use Rattle.yaml_scan.specs.declared.line.RawLine.{RawLine}
use Rattle.yaml_scan.specs.declared.fault.Fault.{Fault}
use Rattle.yaml_scan.specs.declared.fault.Code.TheVariants.{Tab, LeftOut, NotUtf8}
use Rattle.yaml_scan.specs.Words.{sees}
use Rattle.yaml_scan.specs.Lines.{lines, line_fault, fault, tab_fault, mark_fault, utf8_fault, one_fault, or_else, fault_from, is_blank_line, is_directive, is_mark, least, without_start}
use Rattle.yaml_tree.specs.Tree.{tree}
use Rattle.yaml_laws.specs.Refused.{IsOneOf}
use Rattle.yaml_laws.proofs.FollowedLines.{start_in}
use Rattle.yaml_laws.proofs.Whole.{read_lines, in_tree}
use Rattle.yaml_laws.proofs.Cuts.{one_of, told_text}
use Rattle.yaml_laws.proofs.Orders.{least_in}
use Rattle.yaml_tree.proofs.LinesFound.{and_true}
use Rattle.yaml_signs.specs.Signs.{IsSign, merge, HasSign, directive, mark, node, IsLeftOut}
use Rattle.yaml_signs.proofs.LeafSigns.{IsOut, structure_in, leaf_fails}
use Rattle.yaml_signs.proofs.PieceSigns.{IsLast, last_less, Shown, Says, all_say}
use Rattle.yaml_signs.proofs.LayoutSigns.{document_marked}

-- ---- lines alone

-- a line before that is not blank
abbrev IsBegun : List RawLine → Type 0
IsBegun before = (x : RawLine) × IsOneOf before x × (is_blank_line x ≡ false)

among : (before : List RawLine) (x l : RawLine) → IsOneOf before x → IsOneOf (before ++ l ∷ []) x
among [] x l h = absurd h
among (y ∷ ys) x l (inl e) = inl e
among (y ∷ ys) x l (inr h) = inr (among ys x l h)

last_of : (before : List RawLine) (l : RawLine) → IsOneOf (before ++ l ∷ []) l
last_of [] l = inl refl
last_of (y ∷ ys) l = inr (last_of ys l)

tab_none : (b : Bool) (n : ℕ) (f : Fault) → cond b (Some (fault n Tab)) None ≡ Some f → f.code ≡ LeftOut → ⊥
tab_none true n f e c = let same : fault n Tab ≡ f = cc in let q : Tab ≡ LeftOut = ap (λ (g : Fault). g.code) same ∙ c in cc
tab_none false n f e c = cc

utf8_none : (b : Bool) (n : ℕ) (f : Fault) → cond b None (Some (fault n NotUtf8)) ≡ Some f → f.code ≡ LeftOut → ⊥
utf8_none true n f e c = cc
utf8_none false n f e c = let same : fault n NotUtf8 ≡ f = cc in let q : NotUtf8 ≡ LeftOut = ap (λ (g : Fault). g.code) same ∙ c in cc

marked_so : (b : Bool) (n : ℕ) (f : Fault) → cond b (Some (fault n LeftOut)) None ≡ Some f → (b ≡ true) × (n ≡ f.line)
marked_so true n f e = let same : fault n LeftOut ≡ f = cc in (refl, ap (λ (g : Fault). g.line) same)
marked_so false n f e = absurd cc

or_true : (a b : Bool) → (a || b) ≡ true → (a ≡ true) ⊎ (b ≡ true)
or_true true b e = inl refl
or_true false b e = inr e

sign_of : (before : List RawLine) (begun : Bool) (l : RawLine) (f : Fault) → (begun ≡ true → IsBegun before) → one_fault begun l ≡ Some f → f.code ≡ LeftOut → (l.line ≡ f.line) × HasSign before l
sign_of before begun l f has e c = elim (least_in (tab_fault l) (least (mark_fault begun l) (utf8_fault l)) f e) [
  | inl h ↦ absurd (tab_none (sees 9 l.content) l.line f h c)
  | inr r ↦ elim (least_in (mark_fault begun l) (utf8_fault l) f r) [
    | inr h ↦ absurd (utf8_none (is_utf8 l.content) l.line f h c)
    | inl h ↦
        let m = marked_so (is_directive l || (begun && is_mark l)) l.line f h in
        elim (or_true (is_directive l) (begun && is_mark l) m.0) [
          | inl d ↦ (m.1, directive d)
          | inr b ↦
              let both = and_true begun (is_mark l) b in
              let x = has both.0 in
              (m.1, mark x.0 both.1 x.1 x.2)
        ]
  ]
]

record HasIt (all : List RawLine) (f : Fault) : Type 0 where
  before : List RawLine
  l : RawLine
  behind : List RawLine
  are : all ≡ before ++ l ∷ behind
  number : l.line ≡ f.line
  has_sign : HasSign before l

begun_more : (before : List RawLine) (l : RawLine) (begun : Bool) → (begun ≡ true → IsBegun before) → (begun || not (is_blank_line l)) ≡ true → IsBegun (before ++ l ∷ [])
begun_more before l true has e = let x = has refl in (x.0, among before x.0 l x.1, x.2)
begun_more before l false has e = (l, last_of before l, not_so (is_blank_line l) e)
  where
    not_so : (b : Bool) → not b ≡ true → b ≡ false
    not_so true e = absurd cc
    not_so false e = refl

line_sign : (all before ls : List RawLine) (begun : Bool) (f : Fault) → all ≡ before ++ ls → (begun ≡ true → IsBegun before) → fault_from begun ls ≡ Some f → f.code ≡ LeftOut → HasIt all f
unfolding fault_from
line_sign all before [] begun f are has e c = absurd cc
line_sign all before (l ∷ ls) begun f are has e c =
    by (one_fault begun l) refl e
    (λ q. line_sign all (before ++ l ∷ []) ls (begun || not (is_blank_line l)) f (are ∙ sym (append_assoc before (l ∷ []) ls)) (begun_more before l begun has) q c)
  where
    by : (o : Option Fault) → one_fault begun l ≡ o → or_else o (fault_from (begun || not (is_blank_line l)) ls) ≡ Some f → (fault_from (begun || not (is_blank_line l)) ls ≡ Some f → HasIt all f) → HasIt all f
    by None is q more = more q
    by (Some g) is q more =
        let r = sign_of before begun l f has (is ∙ q) c in
        record { before = before; l = l; behind = ls; are = are; number = r.0; has_sign = r.1 }

-- ---- the text

says_sign : (ls : List RawLine) → Says IsOut (λ (f : Fault). Shown IsSign ls f.line) (read_lines ls)
says_sign ls =
    all_say IsOut IsSign structure_in leaf_fails (λ n column behind bytes k after e t m. merge t m) ls (without_start ls)
    (start_in (IsLast ls) (last_less ls) ls ([], refl))

pieces_sign : (ls : List RawLine) (f : Fault) → (read_lines ls).fault ≡ Some f → f.code ≡ LeftOut → HasIt ls f
pieces_sign ls f e c =
    let s = (says_sign ls).reason f e c in
    record { before = s.before; l = s.l; behind = s.behind; are = s.are; number = s.number; has_sign = node s.begins s.has }

tree_sign : (ls : List RawLine) (f : Fault) → in_tree ls ≡ Some f → f.code ≡ LeftOut → HasIt ls f
tree_sign ls f e c =
    let g : Fault = record { line = f.line; code = LeftOut } in
    let is : (read_lines ls).fault ≡ Some g =
    document_marked (λ n. (read_lines ls).fault ≡ Some (record { line = n; code = LeftOut })) (read_lines ls).pieces f (says_sign ls).marked e c in
    let h = pieces_sign ls g is refl in
    record { before = h.before; l = h.l; behind = h.behind; are = h.are; number = h.number; has_sign = h.has_sign }

has_it : (ls : List RawLine) (f : Fault) → (line_fault ls ≡ Some f) ⊎ (((read_lines ls).fault ≡ Some f) ⊎ (in_tree ls ≡ Some f)) → f.code ≡ LeftOut → HasIt ls f
has_it ls f (inl h) c = line_sign ls [] ls false f refl (λ e. absurd cc) h c
has_it ls f (inr (inl h)) c = pieces_sign ls f h c
has_it ls f (inr (inr h)) c = tree_sign ls f h c

pub left_out_sign : (text : List ℕ) (f : Fault) → tree text ≡ Err f → f.code ≡ LeftOut → IsLeftOut text f.line
left_out_sign text f e c =
    let h = has_it (lines text) f (one_of (lines text) f (told_text text (lines text) f refl e)) c in
    record { before = h.before; l = h.l; behind = h.behind; lines_are = h.are; number = h.number; has_sign = h.has_sign }
