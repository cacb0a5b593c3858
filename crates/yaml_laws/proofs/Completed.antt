-- Lines that go on to a tree do so by themselves, or with one line behind them that closes a quote; or else a node on them is too deep.
use Rattle.std.proofs.Common.{◌≡◌, ℕ, suc, ◌≤◌, ◌<◌, Bool, true, false, cond, ◌||◌, ◌&&◌, ◌⊎◌, inl, inr, List, [], ◌∷◌, ◌++◌, length, Option, Some, None, refl, sym, ap, subst, ◌∙◌, arith, length-append}
use Rattle.std.specs.Prelude.{◌==◌, not}
use Rattle.std.specs.Str.{chars, is_utf8}
use Rattle.std.proofs.lemmas.List.{append-nil}
use lib.Utf8.{encode}
use Rattle.yaml_scan.specs.declared.line.RawLine.{RawLine}
use Rattle.yaml_scan.specs.declared.fault.Fault.{Fault}
use Rattle.yaml_scan.specs.declared.fault.Code.TheVariants.{Limit}
use Rattle.yaml_scan.specs.Lines.{line_fault, one_fault, or_else, fault_from, is_blank_line, is_start, without_start}
use Rattle.yaml_tree.specs.declared.piece.Piece.{Piece}
use Rattle.yaml_tree.specs.Layout.{document}
use Rattle.yaml_tree.specs.Pieces.{Found, found, pieces, all_pieces}
use Rattle.yaml_tree.specs.Tree.{fault_of}
use Rattle.yaml_laws.proofs.Laid.{AllOn}
use Rattle.yaml_laws.proofs.Followed.{Alike, document_agrees}
use Rattle.yaml_laws.proofs.Walked.{AllIn}
use Rattle.yaml_laws.proofs.WalkedPieces.{OnFault, Adds, adds_pieces}
use Rattle.yaml_laws.proofs.FollowedScalars.{AllLate}
use Rattle.yaml_laws.proofs.FollowedLines.{Rises, start_in, Starts, start_follows}
use Rattle.yaml_laws.proofs.Whole.{read_lines, in_tree, told, parts_on, Become, agree_same}
use Rattle.yaml_laws.proofs.Cuts.{some_of, no_later_each}
use Rattle.yaml_laws.proofs.Closing.{IsClosing}
use Rattle.yaml_laws.proofs.Outcomes.{OpenIn, Outcome, is_clear, is_lost, is_closed, pieces_come}

some_is : (f g : Fault) → Some f ≡ Some g → f ≡ g
some_is f g e = cc

-- ---- the line that closes

no_mark : (begun c : Bool) → ((c && false) || (begun && (c && (false || false)))) ≡ false
no_mark true true = refl
no_mark true false = refl
no_mark false true = refl
no_mark false false = refl

utf8_34 : is_utf8 (34 ∷ []) ≡ true
unfolding is_utf8 chars encode
utf8_34 = refl

utf8_39 : is_utf8 (39 ∷ []) ≡ true
unfolding is_utf8 chars encode
utf8_39 = refl

one_34 : (begun : Bool) (n indent : ℕ) → one_fault begun (record { line = n; indent = indent; content = 34 ∷ [] }) ≡ None
one_34 begun n indent = rw (no_mark begun (indent == 0), utf8_34) refl

one_39 : (begun : Bool) (n indent : ℕ) → one_fault begun (record { line = n; indent = indent; content = 39 ∷ [] }) ≡ None
one_39 begun n indent = rw (no_mark begun (indent == 0), utf8_39) refl

closing_clean : (k : ℕ) (x : RawLine) → IsClosing k x → (begun : Bool) → one_fault begun x ≡ None
closing_clean k x c begun = elim c.1 [
  | inl e ↦ ap (λ (content : List ℕ). one_fault begun (record { line = x.line; indent = x.indent; content = content })) e ∙ one_34 begun x.line x.indent
  | inr e ↦ ap (λ (content : List ℕ). one_fault begun (record { line = x.line; indent = x.indent; content = content })) e ∙ one_39 begun x.line x.indent
]

-- ---- lines alone

or_some : (o x y : Option Fault) (f : Fault) → (x ≡ Some f → y ≡ Some f) → or_else o x ≡ Some f → or_else o y ≡ Some f
or_some None x y f h e = h e
or_some (Some g) x y f h e = e

pub lines_keep : (a q : List RawLine) (begun : Bool) (f : Fault) → fault_from begun q ≡ Some f → fault_from begun (q ++ a) ≡ Some f
unfolding fault_from
lines_keep a [] begun f e = absurd cc
lines_keep a (l ∷ ls) begun f e = or_some (one_fault begun l) _ _ f (lines_keep a ls (begun || not (is_blank_line l)) f) e

or_none : (o x y : Option Fault) → (x ≡ None → y ≡ None) → or_else o x ≡ None → or_else o y ≡ None
or_none None x y h e = h e
or_none (Some g) x y h e = absurd cc

pub closing_keeps : (k : ℕ) (x : RawLine) → IsClosing k x → (q : List RawLine) (begun : Bool) → fault_from begun q ≡ None → fault_from begun (q ++ x ∷ []) ≡ None
unfolding fault_from
closing_keeps k x c [] begun e = rw (closing_clean k x c begun) refl
closing_keeps k x c (l ∷ ls) begun e = or_none (one_fault begun l) _ _ (closing_keeps k x c ls (begun || not (is_blank_line l))) e

-- ---- behind a first mark

pub start_behind : (a q : List RawLine) (y : RawLine) (ys : List RawLine) → without_start q ≡ y ∷ ys → without_start (q ++ a) ≡ without_start q ++ a
unfolding without_start
start_behind a [] y ys e = absurd cc
start_behind a (l ∷ ls) y ys e = by (is_blank_line l) (is_start l) (start_behind a ls y ys) e
  where
    by : (b c : Bool) → (without_start ls ≡ y ∷ ys → without_start (ls ++ a) ≡ without_start ls ++ a) → cond b (without_start ls) (cond c ls (l ∷ ls)) ≡ y ∷ ys
        → cond b (without_start (ls ++ a)) (cond c (ls ++ a) ((l ∷ ls) ++ a)) ≡ cond b (without_start ls) (cond c ls (l ∷ ls)) ++ a
    by true c h e = h e
    by false true h e = refl
    by false false h e = refl

pub nothing_read : (q : List RawLine) → q ≡ [] → (all_pieces q).fault ≡ None
unfolding pieces
nothing_read q e = ap (λ (ls : List RawLine). (all_pieces ls).fault) e

-- ---- the fault of alike pieces

pub same_in_tree : (k : ℕ) (xs qs : List Piece) → AllOn (λ m. m ≤ k) xs → Alike xs qs → fault_of (document xs) ≡ fault_of (document qs)
same_in_tree k xs qs on al =
    agree_same (λ m. m ≤ k) (length xs) (document xs) (document (qs ++ [])) (document_agrees (λ m. m ≤ k) (λ m. ⊥) [] tt xs qs al on) ∙ ap (λ (ps : List Piece). fault_of (document ps)) (append-nil qs)

-- ---- the first lines

-- What makes the first lines a text by themselves: nothing, or a line that closes a quote. Or else a node in them is too deep.
pub record Completed (k : ℕ) (p : List RawLine) : Type 0 where
  pub close : List RawLine
  pub is : (close ≡ []) ⊎ ((x : RawLine) × IsClosing k x × (close ≡ x ∷ []) × OpenIn k [] (without_start p) (all_pieces (without_start p)))
  pub so : (told (p ++ close) ≡ None) ⊎ ((g : Fault) × (told (p ++ close) ≡ Some g) × (in_tree p ≡ Some g) × (g.code ≡ Limit) × (g.line ≤ k))

-- a text without faults of lines and pieces has the one of its tree
told_tree : (ls : List RawLine) → line_fault ls ≡ None → (read_lines ls).fault ≡ None → told ls ≡ in_tree ls
told_tree ls e e' = rw (e, e') refl

module _ (k : ℕ) (p a : List RawLine) (early : AllIn (λ m. m ≤ k) p) (rises : Rises p) (late : AllLate k a) (become : Become k p (p ++ a))
    (not_here : (f : Fault) → told (p ++ a) ≡ Some f → k < f.line) where
  -- none of the three faults stands in the first lines
  each_late : (g : Fault) → (line_fault (p ++ a) ≡ Some g) ⊎ (((read_lines (p ++ a)).fault ≡ Some g) ⊎ (in_tree (p ++ a) ≡ Some g)) → g.line ≤ k → ⊥
  each_late g h le =
      let m = some_of (p ++ a) g h in
      let lt = not_here m.0 m.1 in
      elim (no_later_each (p ++ a) m.0 g m.1 h) [
        | inl lt' ↦ omega (arith, lt, lt', le)
        | inr q ↦ let e = q.0 in omega (arith, lt, e, le)
      ]

  on_first : (o : Option Fault) → OnFault (λ m. m ≤ k) o → (g : Fault) → o ≡ Some g → g.line ≤ k
  on_first None h g e = absurd cc
  on_first (Some f) h g e = subst (λ (z : Fault). z.line ≤ k) (some_is f g e) h

  alone_clear : (o : Option Fault) → line_fault p ≡ o → o ≡ None
  alone_clear None e = refl
  alone_clear (Some g) e = absurd (each_late g (inl (lines_keep a p false g e)) (on_first (line_fault p) (parts_on (λ m. m ≤ k) p early).alone g e))

  -- what the tree tells is that a node is too deep
  tree_so : (c : List RawLine) → told (p ++ c) ≡ in_tree p → (o : Option Fault) → in_tree p ≡ o
      → (told (p ++ c) ≡ None) ⊎ ((g : Fault) × (told (p ++ c) ≡ Some g) × (in_tree p ≡ Some g) × (g.code ≡ Limit) × (g.line ≤ k))
  tree_so c e None i = inl (e ∙ i)
  tree_so c e (Some g) i =
      let le = on_first (in_tree p) (parts_on (λ m. m ≤ k) p early).of_tree g i in
      elim (become.too_deep_only g i) [
        | inl j ↦ absurd (each_late g (inr (inr j)) le)
        | inr code ↦ inr (g, e ∙ i, i, code, le)
      ]

  abbrev First : List RawLine
  First = without_start p

  outcome : Outcome k [] First (all_pieces First)
  outcome = pieces_come k (suc (length First)) [] First (omega arith) (start_in (AllIn (λ m. m ≤ k)) (λ l rest i. i.1) p early, start_in Rises (λ l rest i. i.1) p rises, omega arith)

  -- no line is needed
  by_itself : line_fault p ≡ None → (read_lines p).fault ≡ None → Completed k p
  by_itself e e' =
      let same : told (p ++ []) ≡ in_tree p = ap told (append-nil p) ∙ told_tree p e e' in
      record { close = []; is = inl refl; so = tree_so [] same (in_tree p) refl }

  -- a line closes the quote
  by_closing : line_fault p ≡ None → (o : Fault) → (read_lines p).fault ≡ Some o → (x : RawLine) → IsClosing k x
      → ((n : ℕ) → length First < n → (qs : List Piece) × (pieces n [] (First ++ x ∷ []) ≡ found qs []) × Alike (all_pieces First).pieces qs) → OpenIn k [] First (all_pieces First) → Completed k p
  by_closing e o bad x c h q =
      let r = h (suc (length (First ++ x ∷ []))) (omega (arith, length-append First (x ∷ []))) in
      let is : without_start (p ++ x ∷ []) ≡ First ++ x ∷ [] = starts First refl in
      let here : read_lines (p ++ x ∷ []) ≡ found r.0 [] = ap all_pieces is ∙ r.1 in
      let on_first_lines : AllIn (λ m. m ≤ k) First = start_in (AllIn (λ m. m ≤ k)) (λ l rest i. i.1) p early in
      let d : Adds (λ m. m ≤ k) (AllIn (λ m. m ≤ k)) [] (all_pieces First) = adds_pieces (λ m. m ≤ k) (AllIn (λ m. m ≤ k)) (λ l rest i. i) (suc (length First)) [] First on_first_lines in
      let on : AllOn (λ m. m ≤ k) (all_pieces First).pieces = subst (λ (ps : List Piece). AllOn (λ m. m ≤ k) ps) (sym d.are) d.on_lines in
      let tree : in_tree (p ++ x ∷ []) ≡ in_tree p = ap (λ (f : Found). fault_of (document f.pieces)) here ∙ sym (same_in_tree k (all_pieces First).pieces r.0 on r.2) in
      let same : told (p ++ x ∷ []) ≡ in_tree p = told_tree (p ++ x ∷ []) (closing_keeps k x c p false e) (ap (λ (f : Found). f.fault) here) ∙ tree in
      record { close = x ∷ []; is = inr (x, c, refl, q); so = tree_so (x ∷ []) same (in_tree p) refl }
    where
      starts : (q : List RawLine) → First ≡ q → without_start (p ++ x ∷ []) ≡ First ++ x ∷ []
      starts [] i = absurd (let q : Some o ≡ None = sym bad ∙ nothing_read First i in cc)
      starts (y ∷ ys) i = start_behind (x ∷ []) p y ys i

  by_outcome : line_fault p ≡ None → (o : Option Fault) → (read_lines p).fault ≡ o → Outcome k [] First (all_pieces First) → Completed k p
  by_outcome e None i h = by_itself e i
  by_outcome e (Some o) i (is_clear none) = absurd (let q : Some o ≡ None = sym i ∙ none in cc)
  by_outcome e (Some o) i (is_closed x c h q) = by_closing e o i x c h q
  by_outcome e (Some o) i (is_lost h) =
      let s : Starts k First (without_start (p ++ a)) = start_follows k a late p in
      let v = h s.behind_them s.late (suc (length (First ++ s.behind_them))) (omega (arith, length-append First s.behind_them)) in
      absurd (each_late v.0 (inr (inl (ap (λ (ls : List RawLine). (all_pieces ls).fault) s.are ∙ v.1))) v.2)

  pub completed : Completed k p
  completed =
      let e : line_fault p ≡ None = alone_clear (line_fault p) refl in
      by_outcome e (read_lines p).fault refl outcome
