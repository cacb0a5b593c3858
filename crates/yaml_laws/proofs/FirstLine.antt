-- The line of a refusal is the first one with which no text of the grammar goes on.
use Rattle.std.proofs.Common.{◌≡◌, ◌≢◌, ℕ, ◌+◌, ◌≤◌, ◌<◌, false, ◌⊎◌, inl, inr, List, [], ◌∷◌, ◌++◌, length, take, drop, Option, Some, None, Err, refl, sym, ap, subst, ◌∙◌, arith}
use Rattle.std.specs.Prelude.{nat_lt}
use Rattle.std.proofs.lemmas.Bool.{ltb-true, ltb-false}
use Rattle.std.proofs.Math.Seq.{take-append_seam}
use Rattle.std.proofs.lemmas.List.{append-nil, length-take-le, take-take}
use Rattle.yaml_scan.specs.declared.line.RawLine.{RawLine}
use Rattle.yaml_scan.specs.declared.fault.Fault.{Fault}
use Rattle.yaml_scan.specs.declared.fault.Code.TheVariants.{Structure, Limit}
use Rattle.yaml_scan.specs.Codes.{number_of}
use Rattle.yaml_scan.specs.Lines.{lines, line_fault, without_start}
use Rattle.yaml_tree.specs.declared.node.Node.{Node}
use Rattle.yaml_tree.specs.Spelling.{IsText}
use Rattle.yaml_tree.specs.Pieces.{all_pieces}
use Rattle.yaml_tree.specs.Tree.{tree}
use Rattle.yaml_tree.proofs.TextFound.{text_found}
use Rattle.yaml_laws.specs.Refused.{SameLines, HasTree, IsFirstLine, IsTooDeep, EndsInQuotes}
use Rattle.yaml_laws.proofs.Numbers.{Numbered, numbered_rises, numbered_front, numbered_behind}
use Rattle.yaml_laws.proofs.Whole.{in_tree, told, Become, told_err, none_read}
use Rattle.yaml_laws.proofs.Orders.{tested, is_structure}
use Rattle.yaml_laws.proofs.Cuts.{one_comes, one_remains, none_of, told_comes, numbered_become, early_lines, all_numbered, told_text, read_text, cut, cut_same, on_a_line, lost_text}
use Rattle.yaml_laws.proofs.Closing.{IsClosing}
use Rattle.yaml_laws.proofs.Outcomes.{OpenIn}
use Rattle.yaml_laws.proofs.QuoteLines.{begins_there, opens_there}
use Rattle.yaml_laws.proofs.Completed.{Completed, lines_keep, completed}
use Rattle.yaml_laws.proofs.Written.{completed_text}

some_is : (f g : Fault) → Some f ≡ Some g → f ≡ g
some_is f g e = cc

no_limit : (f : Fault) → f.code ≡ Limit → f.code ≢ Structure
no_limit f e c = let q : 12 ≡ 2 = sym (ap number_of e) ∙ ap number_of c in omega (arith, q)

whole_text : (other : List ℕ) (ls : List RawLine) → lines other ≡ ls → told ls ≡ None → (root : Node) × IsText other root
whole_text other ls e n =
    let r = none_read (lines other) (ap told e ∙ n) in
    (r.0, text_found other r.0 r.1)

-- the first n lines of a text that begins with them
pub same_front : (n : ℕ) (text other : List ℕ) (p c : List RawLine) → take n (lines text) ≡ p → length p ≡ n → lines other ≡ p ++ c → SameLines n text other
same_front n text other p c is long e =
    is ∙ sym (take-append_seam p c) ∙ ap (λ (m : ℕ). take m (p ++ c)) long ∙ ap (take n) (sym e)

-- what goes on from the first lines
completed_by : (text : List ℕ) (p a : List RawLine) → Numbered 1 (p ++ a) → ((f : Fault) → told (p ++ a) ≡ Some f → length p < f.line) → Completed (length p) p
completed_by text p a h late =
    completed (length p) p a (early_lines p a h) (numbered_rises 1 p (numbered_front 1 p a h)) (numbered_behind 1 (length p) p a (omega arith) h) (numbered_become p a h) late

closing_line : (k : ℕ) (p c : List RawLine) → (c ≡ []) ⊎ ((x : RawLine) × IsClosing k x × (c ≡ x ∷ []) × OpenIn k [] (without_start p) (all_pieces (without_start p)))
    → (c ≡ []) ⊎ ((x : RawLine) × IsClosing k x × (c ≡ x ∷ []))
closing_line k p c (inl e) = inl e
closing_line k p c (inr x) = inr (x.0, x.1, x.2)

pub goes_on_before : (text : List ℕ) (f : Fault) (n : ℕ) → tree text ≡ Err f → f.line ≡ n + 1 → HasTree n text ⊎ IsTooDeep n text
goes_on_before text f n e at =
    let p : List RawLine = take n (lines text) in
    let a : List RawLine = drop n (lines text) in
    let h = all_numbered text (p ++ a) (cut n (lines text)) in
    let le = on_a_line text f e in
    let long : length p ≡ n = length-take-le n (lines text) (omega (arith, le, at)) in
    let late = λ (g : Fault) (i : told (p ++ a) ≡ Some g).
    (let same : f ≡ g = some_is f g (sym (told_text text (p ++ a) f (cut n (lines text)) e) ∙ i) in
    subst (λ (z : Fault). length p < z.line) same (omega (arith, at, long))) in
    let c = completed_by text p a h late in
    let t = completed_text text p a c.close (cut n (lines text)) (closing_line (length p) p c.close c.is) in
    let same : SameLines n text t.0 = same_front n text t.0 p c.close refl long t.1 in
    elim c.so [
      | inl none ↦ let r = whole_text t.0 (p ++ c.close) t.1 none in inl (t.0, r.0, same, r.1)
      | inr g ↦ inr (t.0, g.0, same, told_err (lines t.0) g.0 (ap told t.1 ∙ g.1), g.3, let at_most = g.4 in omega (arith, at_most, long))
    ]

-- where other lines go on to a tree, the quote that is open begins on the last of the first lines
begins_here : (p a b : List RawLine) → Numbered 1 (p ++ a) → Numbered 1 (p ++ b) → (f : Fault) → f.line ≡ length p → told (p ++ a) ≡ Some f → told (p ++ b) ≡ None
    → (q : OpenIn (length p) [] (without_start p) (all_pieces (without_start p))) → q.l.line ≡ length p
begins_here p a b h h' f at e none =
    begins_there (length p) p a (numbered_behind 1 (length p) p a (omega arith) h) f at e
    (λ i. not_late (one_comes (length p) f (line_fault p) (line_fault (p ++ a)) (no_line (line_fault p) refl) become.alone i))
    (λ i. not_late (one_comes (length p) f (in_tree p) (in_tree (p ++ a)) (no_tree (in_tree p) refl) become.of_tree i))
  where
    become : Become (length p) p (p ++ a)
    become = numbered_become p a h

    not_late : length p < f.line → ⊥
    not_late lt = omega (arith, lt, at)

    no_line : (o : Option Fault) → line_fault p ≡ o → line_fault p ≡ None
    no_line None i = i
    no_line (Some g) i = absurd (let q : Some g ≡ None = sym (lines_keep b p false g i) ∙ (none_of (p ++ b) none).alone in cc)

    no_tree : (o : Option Fault) → in_tree p ≡ o → in_tree p ≡ None
    no_tree None i = i
    no_tree (Some g) i = absurd (elim ((numbered_become p b h').too_deep_only g i) [
      | inl j ↦ let q : Some g ≡ None = sym j ∙ (none_of (p ++ b) none).of_tree in cc
      | inr c ↦ one_remains (length p) g (in_tree p) (in_tree (p ++ b)) (no_limit g c) i (numbered_become p b h').of_tree (none_of (p ++ b) none).of_tree
    ])

pub ends_in_quotes : (text : List ℕ) (f : Fault) → tree text ≡ Err f → HasTree f.line text → (f.code ≡ Structure) × EndsInQuotes f.line text
ends_in_quotes text f e o =
    let n : ℕ = f.line in
    let other : List ℕ = o.0 in
    let p : List RawLine = take n (lines text) in
    let a : List RawLine = drop n (lines text) in
    let b : List RawLine = drop n (lines other) in
    let h = all_numbered text (p ++ a) (cut n (lines text)) in
    let h' = all_numbered other (p ++ b) (cut_same n text other o.2) in
    let le = on_a_line text f e in
    let long : length p ≡ n = length-take-le n (lines text) le in
    let none : told (p ++ b) ≡ None = read_text other (p ++ b) o.1 (cut_same n text other o.2) o.3 in
    let late = λ (g : Fault) (i : told (p ++ b) ≡ Some g). absurd (let q : None ≡ Some g = sym none ∙ i in cc) in
    let c = completed_by other p b h' late in
    let t = completed_text text p a c.close (cut n (lines text)) (closing_line (length p) p c.close c.is) in
    let code : f.code ≡ Structure = elim (is_structure f.code) [ inl s ↦ s | inr s ↦ absurd (lost_text text other f o.1 o.2 e s o.3) ] in (
      code,
      elim c.so [
        | inl clear ↦ elim c.is [
          | inl is ↦
              let itself : told p ≡ None = ap told (sym (append-nil p) ∙ ap (λ (x : List RawLine). p ++ x) (sym is)) ∙ clear in
              absurd (let lt = told_comes (length p) p (p ++ a) (early_lines p a h) (numbered_become p a h) f itself (told_text text (p ++ a) f (cut n (lines text)) e) in omega (arith, lt, long))
          | inr x ↦
              let r = whole_text t.0 (p ++ c.close) t.1 clear in
              let begins = begins_here p a b h h' f (sym long) (told_text text (p ++ a) f (cut n (lines text)) e) none x.3 in
              let opens = opens_there text n (length p) p a (cut n (lines text)) x.3 (begins ∙ long) in
              record { closed = t.0; close = x.0; root = r.0; lines_are = t.1 ∙ ap (λ (y : List RawLine). p ++ y) x.2; quote = x.1.1; in_grammar = r.1; opens = opens }
        ]
        | inr g ↦ absurd (one_remains (length p) g.0 (in_tree p) (in_tree (p ++ b)) (no_limit g.0 g.3) g.2 (numbered_become p b h').of_tree (none_of (p ++ b) none).of_tree)
      ],
    )

pub first_line : (text : List ℕ) (f : Fault) (n : ℕ) → tree text ≡ Err f → f.line ≡ n + 1 → f.code ≢ Structure → IsFirstLine text n ⊎ IsTooDeep n text
first_line text f n e at code =
    elim (goes_on_before text f n e at) [
      | inl t ↦ inl (record { goes_on = t; no_more = λ other root s i. lost_text text other f root (subst (λ (m : ℕ). SameLines m text other) (sym at) s) e code i })
      | inr d ↦ inr d
    ]

-- ---- one line alone is the first

fewer : (m n : ℕ) (text other : List ℕ) → m ≤ n → SameLines n text other → SameLines m text other
fewer m n text other le s = sym (take-take m n (lines text) le) ∙ ap (take m) s ∙ take-take m n (lines other) le

-- no tree goes on from a line that no text of the grammar has
not_before : (text : List ℕ) (m n : ℕ) → IsFirstLine text m → IsFirstLine text n → m < n → ⊥
not_before text m n f g lt = let o = g.goes_on in f.no_more o.0 o.1 (fewer (m + 1) n text o.0 (omega (arith, lt)) o.2) o.3

pub one_first_line : (text : List ℕ) (m n : ℕ) → IsFirstLine text m → IsFirstLine text n → m ≡ n
one_first_line text m n f g =
    elim (tested (nat_lt m n)) [
      | inl h ↦ absurd (not_before text m n f g (ltb-true m n h))
      | inr h ↦ elim (tested (nat_lt n m)) [
        | inl i ↦ absurd (not_before text n m g f (ltb-true n m i))
        | inr i ↦ let a = ltb-false m n h in let b = ltb-false n m i in omega (arith, a, b)
      ]
    ]
