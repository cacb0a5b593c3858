-- Up to a line that is refused as no UTF-8, a text is in the loose notation.
use Rattle.std.proofs.Common.{◌≡◌, ℕ, suc, ◌≤◌, true, false, ◌||◌, ◌⊎◌, inl, inr, List, [], ◌∷◌, ◌++◌, length, take, drop, Option, Some, None, Err, refl, sym, ap, subst, ◌∙◌, arith, length-append}
use Rattle.std.specs.Prelude.{◌==◌}
use Rattle.std.proofs.lemmas.Bool.{eqb-true}
use Rattle.std.proofs.lemmas.List.{append-nil, length-take-le}
use Rattle.yaml_scan.specs.declared.line.RawLine.{RawLine}
use Rattle.yaml_scan.specs.declared.fault.Fault.{Fault}
use Rattle.yaml_scan.specs.declared.fault.Code.TheVariants.{RepeatedKey, NotUtf8}
use Rattle.yaml_scan.specs.Codes.{number_of}
use Rattle.yaml_scan.specs.Lines.{lines, line_fault, without_mark, without_start}
use Rattle.yaml_tree.specs.declared.node.Node.{Node}
use Rattle.yaml_tree.specs.declared.piece.Piece.{Piece}
use Rattle.yaml_tree.specs.Layout.{document}
use Rattle.yaml_tree.specs.Pieces.{Found, found, all_pieces}
use Rattle.yaml_tree.specs.Spelling.{none as no_byte, IsLines}
use Rattle.yaml_tree.specs.Tree.{tree, fault_of}
use Rattle.yaml_tree.proofs.LinesFound.{tested, lines_found}
use Rattle.yaml_laws.proofs.Closing.{IsClosing}
use Rattle.yaml_laws.proofs.Codes.{FewFault, few_pieces}
use Rattle.yaml_laws.proofs.Completed.{lines_keep, start_behind, nothing_read}
use Rattle.yaml_laws.proofs.Cuts.{no_later_each, early_lines, all_numbered, told_text, cut, on_a_line}
use Rattle.yaml_laws.proofs.FirstLine.{same_front}
use Rattle.yaml_laws.proofs.Followed.{Alike}
use Rattle.yaml_laws.proofs.FollowedScalars.{AllLate}
use Rattle.yaml_laws.proofs.FollowedLines.{Rises, Fits, Ahead, pieces_follow, start_in, faults_on, Starts, start_follows}
use Rattle.yaml_laws.proofs.Laid.{AllOn}
use Rattle.yaml_laws.proofs.Numbers.{Numbered, numbered_rises, numbered_front, numbered_behind}
use Rattle.yaml_laws.proofs.Outcomes.{Outcome, is_clear, is_lost, is_closed, pieces_come}
use Rattle.yaml_laws.proofs.Walked.{AllIn}
use Rattle.yaml_laws.proofs.WalkedPieces.{OnFault}
use Rattle.yaml_laws.proofs.Whole.{read_lines, in_tree, told}
use Rattle.yaml_laws.proofs.Written.{completed_text}
use Rattle.yaml_rules.specs.LooseText.{AreOrderly, IsLoosePieces}
use Rattle.yaml_rules.specs.Notation as n
use Rattle.yaml_rules.proofs.Firsts.{on_pieces}
use Rattle.yaml_rules.proofs.KeysAgain.{on_on}
use Rattle.yaml_rules.proofs.LooseLines.{orderly_found, closing_orderly, Whole, all_read, key_again, refused}
use Rattle.yaml_rules.proofs.Spelled.{Ascends, numbered_ascends}
use Rattle.yaml_codes.specs.OpenText.{GoesOnLoosely}
use Rattle.yaml_codes.proofs.ClosedLines.{alike_then, whole_of, early_closed, ascends_closed}
use Rattle.yaml_codes.proofs.Covered.{document_covers}
use Rattle.yaml_codes.proofs.FirstPieces.{alike_between, first_notation}

few_small : (m : ℕ) → (m == 2 || m == 3 || m == 4 || m == 12) ≡ true → m ≤ 12
few_small m e = elim (tested (m == 2)) [
  | inl h ↦ let q = eqb-true m 2 h in omega (arith, q)
  | inr h2 ↦ elim (tested (m == 3)) [
    | inl h ↦ let q = eqb-true m 3 h in omega (arith, q)
    | inr h3 ↦ elim (tested (m == 4)) [
      | inl h ↦ let q = eqb-true m 4 h in omega (arith, q)
      | inr h4 ↦ let q = eqb-true m 12 (rw (h2, h3, h4) at e) in omega (arith, q)
    ]
  ]
]

few_is : (o : Option Fault) (g : Fault) → FewFault o → o ≡ Some g → number_of g.code ≤ 12
few_is None g h e = absurd cc
few_is (Some d) g h e = let q : d ≡ g = cc in subst (λ (z : Fault). number_of z.code ≤ 12) q (few_small (number_of d.code) h)

module _ (text : List ℕ) (f : Fault) (e : tree text ≡ Err f) (code : f.code ≡ NotUtf8) where
  abbrev Front : List RawLine
  Front = take f.line (lines text)

  abbrev Behind : List RawLine
  Behind = drop f.line (lines text)

  abbrev All : List RawLine
  All = Front ++ Behind

  long : length Front ≡ f.line
  long = length-take-le f.line (lines text) (on_a_line text f e)

  numbered : Numbered 1 All
  numbered = all_numbered text All (cut f.line (lines text))

  late : AllLate (length Front) Behind
  late = numbered_behind 1 (length Front) Front Behind (omega arith) numbered

  all_told : told All ≡ Some f
  all_told = told_text text All f (cut f.line (lines text)) e

  early : AllIn (λ m. m ≤ length Front) Front
  early = early_lines Front Behind numbered

  rises : Rises Front
  rises = numbered_rises 1 Front (numbered_front 1 Front Behind numbered)

  up : Ascends 1 Front
  up = numbered_ascends 1 Front (numbered_front 1 Front Behind numbered)

  fits : Fits (length Front) (length (without_start Front)) (without_start Front)
  fits = (start_in (AllIn (λ m. m ≤ length Front)) (λ l rest i. i.1) Front early, start_in Rises (λ l rest i. i.1) Front rises, omega arith)

  on_front : AllOn (λ m. m ≤ length Front) (read_lines Front).pieces
  on_front = on_pieces (length Front) Front early rises

  -- a fault of these lines stands on the last of them, and its code is no lower one
  on_its : (g : Fault) → (line_fault All ≡ Some g) ⊎ (((read_lines All).fault ≡ Some g) ⊎ (in_tree All ≡ Some g)) → g.line ≤ length Front → (g.line ≡ length Front) × (13 ≤ number_of g.code)
  on_its g h le =
      let l = long in
      let thirteen : number_of f.code ≡ 13 = ap number_of code in
      elim (no_later_each All f g all_told h) [
        | inl lt ↦ absurd (omega (arith, lt, le, l))
        | inr r ↦ let same = r.0 in let more = r.1 in (omega (arith, same, l), omega (arith, more, thirteen))
      ]

  orderly : AreOrderly false Front
  orderly = orderly_found (length Front) Front false 1 up early (λ g h.
      (let le : g.line ≤ length Front = subst (OnFault (λ m. m ≤ length Front)) h (faults_on (λ m. m ≤ length Front) Front false early) in
      let r = on_its g (inl (lines_keep Behind Front false g h)) le in
      let high = r.1 in
      (r.0, omega (arith, high))))

  ahead : Ahead (length Front) (read_lines Front) (read_lines All)
  ahead =
      let k : ℕ = length Front in
      let s : Starts k (without_start Front) (without_start All) = start_follows k Behind late Front in
      let h : Ahead k (all_pieces (without_start Front)) (all_pieces (without_start Front ++ s.behind_them)) =
      pieces_follow k s.behind_them s.late (suc (length (without_start Front))) (suc (length (without_start Front ++ s.behind_them))) [] (without_start Front) (omega arith) (omega (arith, length-append (without_start Front) s.behind_them)) fits in
      subst (λ (ls : List RawLine). Ahead k (all_pieces (without_start Front)) (all_pieces ls)) (sym s.are) h

  -- their pieces are in the notation, since no fault of the tree stands on them
  ahead_tree : (x : Node) × n.IsNotation ahead.front x
  ahead_tree =
      elim (document_covers (λ m. m ≤ length Front) ahead.tail ahead.front (on_on (λ m. m ≤ length Front) ahead.alike on_front)) [
        | inl t ↦ t
        | inr g ↦
            let is : in_tree All ≡ Some g.0 = ap (λ (ps : List Piece). fault_of (document ps)) ahead.are ∙ ap fault_of g.1 in
            let r = on_its g.0 (inr (inr is)) g.2 in
            let high = r.1 in
            let low = g.3 in
            absurd (omega (arith, high, low))
      ]

  tree_of : (qs : List Piece) → Alike (read_lines Front).pieces qs → (x : Node) × n.IsNotation qs x
  tree_of qs al = first_notation [] ahead.front qs ahead_tree.0 (subst (λ (ps : List Piece). n.IsNotation ps ahead_tree.0) (sym (append-nil ahead.front)) ahead_tree.1) (alike_between ahead.alike al)

  -- a text of these lines, perhaps with one that closes a quote
  goes_on : (close : List RawLine) → (close ≡ []) ⊎ ((x : RawLine) × IsClosing (length Front) x × (close ≡ x ∷ [])) → AreOrderly false (Front ++ close) → (whole : List Piece) → IsLoosePieces [] (without_start (Front ++ close)) whole
      → Alike (read_lines Front).pieces whole → GoesOnLoosely f.line text
  goes_on close is o whole are al =
      let t = completed_text text Front Behind close (cut f.line (lines text)) is in
      let r = tree_of whole al in
      (t.0, r.0, same_front f.line text t.0 Front close refl long t.1, n.loosely (subst (λ (xs : List RawLine). IsLines 1 (without_mark t.0) xs) t.1 (lines_found (without_mark t.0) [] 1 no_byte)) o are r.1)

  by_itself : (read_lines Front).fault ≡ None → Whole (length Front) [] (without_start Front) (read_lines Front) → GoesOnLoosely f.line text
  by_itself clear (key_again m whole h a s any p) = absurd (let q : None ≡ Some (record { line = m; code = RepeatedKey }) = sym clear ∙ h in cc)
  by_itself clear (refused g h bars) = absurd (let q : None ≡ Some g = sym clear ∙ h in cc)
  by_itself clear (all_read whole h a sized are) =
      let same : Front ++ [] ≡ Front = append-nil Front in
      goes_on [] (inl refl) (subst (AreOrderly false) (sym same) orderly) whole (subst (λ (ls : List RawLine). IsLoosePieces [] (without_start ls) whole) (sym same) are) a

  by_close : (x : RawLine) → IsClosing (length Front) x → (qs : List Piece) → read_lines (Front ++ x ∷ []) ≡ found qs [] → Alike (read_lines Front).pieces qs → Whole (suc (length Front)) [] (without_start (Front ++ x ∷ [])) (read_lines (Front ++ x ∷ []))
      → GoesOnLoosely f.line text
  by_close x c qs is al (key_again m whole h a s any p) = absurd (let q : None ≡ Some (record { line = m; code = RepeatedKey }) = sym (ap (λ (g : Found). g.fault) is) ∙ h in cc)
  by_close x c qs is al (refused g h bars) = absurd (let q : None ≡ Some g = sym (ap (λ (g : Found). g.fault) is) ∙ h in cc)
  by_close x c qs is al (all_read whole h a sized are) =
      goes_on (x ∷ []) (inr (x, c, refl)) (closing_orderly (length Front) x c Front false orderly) whole are (alike_then al (subst (λ (ps : List Piece). Alike ps whole) (ap (λ (g : Found). g.pieces) is) a))

  by_outcome : (o : Option Fault) → (read_lines Front).fault ≡ o → Outcome (length Front) [] (without_start Front) (all_pieces (without_start Front)) → GoesOnLoosely f.line text
  by_outcome None is h = by_itself is (whole_of (length Front) Front orderly up early)
  by_outcome (Some v) is (is_clear clear) = absurd (let q : Some v ≡ None = sym is ∙ clear in cc)
  by_outcome (Some v) is (is_lost h) =
      let s : Starts (length Front) (without_start Front) (without_start All) = start_follows (length Front) Behind late Front in
      let w = h s.behind_them s.late (suc (length (without_start Front ++ s.behind_them))) (omega (arith, length-append (without_start Front) s.behind_them)) in
      let at : (read_lines All).fault ≡ Some w.0 = ap (λ (ls : List RawLine). (all_pieces ls).fault) s.are ∙ w.1 in
      let r = on_its w.0 (inr (inl at)) w.2 in
      let high = r.1 in
      let low = few_is (read_lines All).fault w.0 (few_pieces (suc (length (without_start All))) [] (without_start All)) at in
      absurd (omega (arith, high, low))
  by_outcome (Some v) is (is_closed x c h q) =
      let r = h (suc (length (without_start Front ++ x ∷ []))) (omega (arith, length-append (without_start Front) (x ∷ []))) in
      by_close x c r.0 (ap all_pieces (starts (without_start Front) refl) ∙ r.1) r.2
      (whole_of (suc (length Front)) (Front ++ x ∷ []) (closing_orderly (length Front) x c Front false orderly) (ascends_closed (length Front) x c Front 1 (omega arith) up early) (early_closed (length Front) x c Front early))
    where
      starts : (q : List RawLine) → without_start Front ≡ q → without_start (Front ++ x ∷ []) ≡ without_start Front ++ x ∷ []
      starts [] i = absurd (let q : Some v ≡ None = sym is ∙ nothing_read (without_start Front) i in cc)
      starts (y ∷ ys) i = start_behind (x ∷ []) Front y ys i

  pub not_utf8_loose : GoesOnLoosely f.line text
  not_utf8_loose = by_outcome (read_lines Front).fault refl (pieces_come (length Front) (suc (length (without_start Front))) [] (without_start Front) (omega arith) fits)
