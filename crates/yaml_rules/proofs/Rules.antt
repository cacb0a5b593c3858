-- What C4 and C12 tell of their line.
use Rattle.std.proofs.Common.{◌≡◌, ℕ, suc, ◌+◌, ◌≤◌, Bool, true, false, cond, ◌||◌, ◌&&◌, ◌⊎◌, inl, inr, List, [], ◌∷◌, ◌++◌, length, take, drop, Option, Some, None, Ok, Err, refl, sym, ap, subst, ◌∙◌, arith, length-append}
use Rattle.std.specs.Prelude.{◌==◌, not}
use Rattle.std.specs.Str.{is_utf8}
use Rattle.std.proofs.lemmas.Bool.{eqb-true}
use Rattle.std.proofs.lemmas.List.{append-nil, length-take-le}
use Rattle.yaml_scan.specs.declared.line.RawLine.{RawLine}
use Rattle.yaml_scan.specs.declared.fault.Fault.{Fault}
use Rattle.yaml_scan.specs.declared.fault.Code.{Code}
use Rattle.yaml_scan.specs.declared.fault.Code.TheVariants.{Structure, LeftOut, RepeatedKey, Limit, Tab, NotUtf8}
use Rattle.yaml_scan.specs.Codes.{number_of}
use Rattle.yaml_scan.specs.Words.{sees}
use Rattle.yaml_scan.specs.Lines.{lines, line_fault, without_mark, without_start, fault, tab_fault, mark_fault, utf8_fault, one_fault, or_else, least, fault_from, is_blank_line, is_mark, is_directive}
use Rattle.yaml_tree.specs.declared.node.Node.{Node}
use Rattle.yaml_tree.specs.declared.piece.Piece.{Piece}
use Rattle.yaml_tree.specs.Layout.{Answer, document}
use Rattle.yaml_tree.specs.Pieces.{Found, found, all_pieces}
use Rattle.yaml_tree.specs.Spelling.{none as no_byte, IsLines}
use Rattle.yaml_tree.specs.Tree.{tree, fault_of}
use Rattle.yaml_tree.proofs.LinesFound.{lines_found}
use Rattle.yaml_laws.specs.Refused.{NoLater}
use Rattle.yaml_laws.proofs.Closing.{IsClosing}
use Rattle.yaml_laws.proofs.Completed.{lines_keep, start_behind, nothing_read, same_in_tree}
use Rattle.yaml_laws.proofs.Cuts.{no_later_each, one_of, each_was, numbered_become, early_lines, all_numbered, told_text, cut, on_a_line}
use Rattle.yaml_laws.proofs.FirstLine.{same_front}
use Rattle.yaml_laws.proofs.Followed.{Alike, none as no_piece}
use Rattle.yaml_laws.proofs.FollowedScalars.{AllLate}
use Rattle.yaml_laws.proofs.FollowedLines.{Rises, gone, behind, later, Follows, comes, stays, deeper, closes, Ahead, pieces_follow, start_in, faults_on, Starts, start_follows}
use Rattle.yaml_laws.proofs.Laid.{AllOn, Lies, stops, document_lies}
use Rattle.yaml_laws.proofs.Numbers.{Numbered, numbered_rises, numbered_front, numbered_behind}
use Rattle.yaml_laws.proofs.Orders.{tested, same_code, least_in}
use Rattle.yaml_laws.proofs.Outcomes.{Outcome, is_clear, is_lost, is_closed, pieces_come}
use Rattle.yaml_laws.proofs.Walked.{AllIn}
use Rattle.yaml_laws.proofs.WalkedPieces.{OnFault}
use Rattle.yaml_laws.proofs.Whole.{read_lines, in_tree, told, Become}
use Rattle.yaml_laws.proofs.Written.{completed_text}
use Rattle.yaml_rules.specs.LooseText.{AreOrderly, IsLoosePieces}
use Rattle.yaml_rules.specs.Notation as n
use Rattle.yaml_rules.proofs.Chains.{AllSized}
use Rattle.yaml_rules.proofs.Firsts.{on_pieces, three_codes}
use Rattle.yaml_rules.proofs.Layouts.{Fit, IsTreeCode, Shows, document_shows, document_has}
use Rattle.yaml_signs.proofs.LeafSigns.{IsRule}
use Rattle.yaml_rules.proofs.Spelled.{Ascends, ascends_start, numbered_ascends, pieces_fit}
use Rattle.yaml_rules.proofs.LooseHeads.{AnyRepeats}
use Rattle.yaml_rules.proofs.KeysAgain.{notation_has, on_on, on_front, early_pieces, late_none}
use Rattle.yaml_rules.proofs.LooseLines.{start_orderly, orderly_found, closing_orderly, Whole, all_read, key_again, refused, pieces_whole}

-- ---- the first lines

fault_is : (r : Answer Node) (f : Fault) → fault_of r ≡ Some f → r ≡ Err f
fault_is (Ok x) f e = absurd cc
fault_is (Err g) f e = let q : g ≡ f = cc in ap (λ (z : Fault). Err z) q

err_fault : (r : Answer Node) (f : Fault) → r ≡ Err f → fault_of r ≡ Some f
err_fault r f e = ap fault_of e

on_line : (P : ℕ → Type 0) (m : ℕ) (r : Answer Node) (f : Fault) → Lies P m r → r ≡ Err f → P f.line
on_line P m (Ok x) f h e = absurd cc
on_line P m (Err g) f (stops p) e = let q : g ≡ f = cc in subst (λ (z : Fault). P z.line) q p

rule_of : (c : Code) → IsTreeCode c → IsRule c
rule_of c h = elim (tested (number_of c == 4)) [
  | inl e ↦ let q = eqb-true (number_of c) 4 e in omega (arith, q)
  | inr e ↦ let h' : (number_of c == 12) ≡ true = rw e at h in let q = eqb-true (number_of c) 12 h' in omega (arith, q)
]

breaks_by : (at : ℕ) (c : Code) (b : Bool) (root : Node) → (number_of c == 4) ≡ b → IsTreeCode c → Shows at c 64 root → n.Breaks at c root
breaks_by at c true root e code h =
    let is : c ≡ RepeatedKey = same_code c RepeatedKey (eqb-true (number_of c) 4 e) in
    let h' : n.Has (n.Repeats at) root = rw e at h in
    subst (λ (z : Code). n.Breaks at z root) (sym is) (n.repeats h')
breaks_by at c false root e code h =
    let code' : (number_of c == 12) ≡ true = rw e at code in
    let is : c ≡ Limit = same_code c Limit (eqb-true (number_of c) 12 code') in
    let h' : n.IsWithin at 64 root = rw e at h in
    subst (λ (z : Code). n.Breaks at z root) (sym is) (n.too_deep h')

-- no fault of a line alone has one of the two codes
if_code : (b : Bool) (d g : Fault) → (IsTreeCode d.code → ⊥) → cond b (Some d) None ≡ Some g → IsTreeCode g.code → ⊥
if_code true d g bars e code = let q : d ≡ g = cc in bars (subst (λ (z : Fault). IsTreeCode z.code) (sym q) code)
if_code false d g bars e code = absurd cc

unless_code : (b : Bool) (d g : Fault) → (IsTreeCode d.code → ⊥) → cond b None (Some d) ≡ Some g → IsTreeCode g.code → ⊥
unless_code false d g bars e code = let q : d ≡ g = cc in bars (subst (λ (z : Fault). IsTreeCode z.code) (sym q) code)
unless_code true d g bars e code = absurd cc

one_code : (begun : Bool) (l : RawLine) (g : Fault) → one_fault begun l ≡ Some g → IsTreeCode g.code → ⊥
one_code begun l g e code =
    elim (least_in (tab_fault l) (least (mark_fault begun l) (utf8_fault l)) g e) [
      | inl h ↦ if_code (sees 9 l.content) (fault l.line Tab) g (λ c. cc) h code
      | inr h ↦ elim (least_in (mark_fault begun l) (utf8_fault l) g h) [
        | inl i ↦ if_code (is_directive l || (begun && is_mark l)) (fault l.line LeftOut) g (λ c. cc) i code
        | inr i ↦ unless_code (is_utf8 l.content) (fault l.line NotUtf8) g (λ c. cc) i code
      ]
    ]

line_code : (ls : List RawLine) (begun : Bool) (g : Fault) → fault_from begun ls ≡ Some g → IsTreeCode g.code → ⊥
unfolding fault_from
line_code [] begun g e code = absurd cc
line_code (l ∷ ls) begun g e code = by (one_fault begun l) refl e (λ q. line_code ls (begun || not (is_blank_line l)) g q code)
  where
    by : (o : Option Fault) → one_fault begun l ≡ o → or_else o (fault_from (begun || not (is_blank_line l)) ls) ≡ Some g → (fault_from (begun || not (is_blank_line l)) ls ≡ Some g → ⊥) → ⊥
    by None is e more = more e
    by (Some h) is e more = one_code begun l g (is ∙ e) code

module _ (text : List ℕ) (f : Fault) (e : tree text ≡ Err f) (code : IsTreeCode f.code) where
  abbrev Front : List RawLine
  Front = take f.line (lines text)

  abbrev Others : List RawLine
  Others = drop f.line (lines text)

  abbrev All : List RawLine
  All = Front ++ Others

  long : length Front ≡ f.line
  long = length-take-le f.line (lines text) (on_a_line text f e)

  all_are : lines text ≡ All
  all_are = cut f.line (lines text)

  numbered : Numbered 1 All
  numbered = all_numbered text All all_are

  all_told : told All ≡ Some f
  all_told = told_text text All f all_are e

  early : AllIn (λ m. m ≤ length Front) Front
  early = early_lines Front Others numbered

  rises : Rises Front
  rises = numbered_rises 1 Front (numbered_front 1 Front Others numbered)

  up : Ascends 1 Front
  up = numbered_ascends 1 Front (numbered_front 1 Front Others numbered)

  late : AllLate (length Front) Others
  late = numbered_behind 1 (length Front) Front Others (omega arith) numbered

  become : Become (length Front) Front All
  become = numbered_become Front Others numbered

  rule : IsRule f.code
  rule = rule_of f.code code

  -- what stands on the line of the refusal or before it, and not before the refusal
  on_its : (g : Fault) → NoLater f g → g.line ≤ length Front → (g.line ≡ length Front) × IsRule g.code
  on_its g (inl lt) le = absurd (let l = long in omega (arith, lt, le, l))
  on_its g (inr h) le = let same = h.0 in let more = h.1 in let l = long in let r = rule in (omega (arith, same, l), omega (arith, more, r))

  orderly : AreOrderly false Front
  orderly = orderly_found (length Front) Front false 1 up early (λ g h.
      (let le : OnFault (λ m. m ≤ length Front) (line_fault Front) = faults_on (λ m. m ≤ length Front) Front false early in
      let le' : g.line ≤ length Front = subst (OnFault (λ m. m ≤ length Front)) h le in
      on_its g (no_later_each All f g all_told (inl (lines_keep Others Front false g h))) le'))

  on_them : AllOn (λ m. m ≤ length Front) (all_pieces (without_start Front)).pieces
  on_them = on_pieces (length Front) Front early rises

  -- the pieces of such lines
  whole_of : (k : ℕ) (ls : List RawLine) → AreOrderly false ls → Ascends 1 ls → AllIn (λ m. m ≤ k) ls → Whole k [] (without_start ls) (read_lines ls)
  whole_of k ls o u on =
      let c = start_orderly ls false o in
      pieces_whole k (suc (length (without_start ls))) [] [] c.0 (without_start ls) 1 (omega arith) (λ h. absurd cc) c.1 no_piece tt (start_in (Ascends 1) ascends_start ls u) (start_in (AllIn (λ m. m ≤ k)) (λ l rest i. i.1) ls on)

  fits : (ls : List RawLine) (whole : List Piece) → Ascends 1 ls → AllSized whole → IsLoosePieces [] (without_start ls) whole → AllOn (λ m. m ≤ length Front) whole → Fit (length Front) whole
  fits ls whole u sized are on = pieces_fit (length Front) are 1 (start_in (Ascends 1) ascends_start ls u) tt sized on tt

  -- a text of these lines
  text_of : (ls : List RawLine) (whole : List Piece) (root : Node) (other : List ℕ) → lines other ≡ ls → AreOrderly false ls → IsLoosePieces [] (without_start ls) whole → n.IsNotation whole root → n.IsLooseText other root
  text_of ls whole root other is o are h = n.loosely (subst (λ (xs : List RawLine). IsLines 1 (without_mark other) xs) is (lines_found (without_mark other) [] 1 no_byte)) o are h

  goes_on : (close : List RawLine) → (close ≡ []) ⊎ ((x : RawLine) × IsClosing (length Front) x × (close ≡ x ∷ [])) → (whole : List Piece) (root : Node) → AreOrderly false (Front ++ close) → IsLoosePieces [] (without_start (Front ++ close)) whole
      → n.IsNotation whole root → n.Breaks f.line f.code root → n.HasNotation f.line text (n.Breaks f.line f.code)
  goes_on close is whole root o are h breaks =
      let t = completed_text text Front Others close all_are is in
      (t.0, root, same_front f.line text t.0 Front close refl long t.1, text_of (Front ++ close) whole root t.0 t.1 o are h, breaks)

  by_itself : (whole : List Piece) (root : Node) → IsLoosePieces [] (without_start Front) whole → n.IsNotation whole root → n.Breaks f.line f.code root → n.HasNotation f.line text (n.Breaks f.line f.code)
  by_itself whole root are h breaks =
      let same : Front ++ [] ≡ Front = append-nil Front in
      goes_on [] (inl refl) whole root (subst (AreOrderly false) (sym same) orderly) (subst (λ (ls : List RawLine). IsLoosePieces [] (without_start ls) whole) (sym same) are) h breaks

  -- ---- a line behind them that closes a quote

  early_close : (x : RawLine) → IsClosing (length Front) x → AllIn (λ m. m ≤ suc (length Front)) (Front ++ x ∷ [])
  early_close x c = more Front early
    where
      more : (ls : List RawLine) → AllIn (λ m. m ≤ length Front) ls → AllIn (λ m. m ≤ suc (length Front)) (ls ++ x ∷ [])
      more [] h = (let q = c.0 in omega (arith, q), tt)
      more (l ∷ ls) h = (let le = h.0 in omega (arith, le), more ls h.1)

  ascends_close : (x : RawLine) → IsClosing (length Front) x → Ascends 1 (Front ++ x ∷ [])
  ascends_close x c = more Front 1 (omega arith) up early
    where
      more : (ls : List RawLine) (m : ℕ) → m ≤ suc (length Front) → Ascends m ls → AllIn (λ j. j ≤ length Front) ls → Ascends m (ls ++ x ∷ [])
      more [] m le h o = (let q = c.0 in omega (arith, q, le), tt)
      more (l ∷ ls) m le h o = (h.0, more ls (l.line + 1) (let k = o.0 in omega (arith, k)) h.1 o.1)

  -- ---- the fault is that of the tree

  tree_shows : (ps whole : List Piece) → AllOn (λ m. m ≤ length Front) ps → Alike ps whole → Fit (length Front) whole → fault_of (document ps) ≡ Some f → (root : Node) × n.IsNotation whole root × n.Breaks f.line f.code root
  tree_shows ps whole on alike fit t =
      let same : fault_of (document whole) ≡ Some f = sym (same_in_tree (length Front) ps whole on alike) ∙ t in
      let r = document_shows (length Front) whole f fit (fault_is (document whole) f same) (sym long) rule in
      let shows : Shows f.line f.code 64 r.0 = subst (λ (m : ℕ). Shows m f.code 64 r.0) long r.2 in
      (r.0, r.1, breaks_by f.line f.code (number_of f.code == 4) r.0 refl code shows)

  -- a fault of the pieces that stays
  lost_rule : (v w : Fault) → (read_lines All).fault ≡ Some w → w.line ≤ length Front → (o : Option Fault) → (read_lines Front).fault ≡ o → o ≡ Some v → Follows (length Front) o (read_lines All).fault → (v.line ≡ length Front) × IsRule v.code
  lost_rule v w is le o at i fol =
      let r = on_its w (no_later_each All f w all_told (inr (inl is))) le in
      by o (read_lines All).fault fol i is r
    where
      some_is : (g h : Fault) → Some g ≡ Some h → g ≡ h
      some_is g h q = cc

      by : (o x : Option Fault) → Follows (length Front) o x → o ≡ Some v → x ≡ Some w → (w.line ≡ length Front) × IsRule w.code → (v.line ≡ length Front) × IsRule v.code
      by o x (comes l) i is r = absurd cc
      by o x (stays {f = g}) i is r =
          let same : w ≡ v = sym (some_is g w is) ∙ some_is g v i in
          subst (λ (z : Fault). (z.line ≡ length Front) × IsRule z.code) same r
      by o x (deeper {f = g} {g = h} c lt) i is r = absurd (let q : h.line ≡ w.line = ap (λ (z : Fault). z.line) (some_is h w is) in let s = r.0 in omega (arith, lt, q, s))
      by o x (closes c gone) i is r = absurd cc
      by o x (closes c (behind {g = h} lt)) i is r = absurd (let q : h.line ≡ w.line = ap (λ (z : Fault). z.line) (some_is h w is) in let s = r.0 in omega (arith, lt, q, s))
      by o x (closes c (later {g = h} s l)) i is r = absurd
          (let q : h.code ≡ w.code = ap (λ (z : Fault). z.code) (some_is h w is) in
          let low : IsRule Structure = subst IsRule (sym q ∙ s) r.1 in
          omega (arith, low))

  of_tree_again : (whole : List Piece) → IsLoosePieces [] (without_start Front) whole → AllSized whole → Alike (read_lines Front).pieces whole → in_tree Front ≡ Some f → n.HasNotation f.line text (n.Breaks f.line f.code)
  of_tree_again whole are sized alike t =
      let on = on_on (λ m. m ≤ length Front) alike on_them in
      let r = tree_shows (read_lines Front).pieces whole on_them alike (fits Front whole up sized are on) t in
      by_itself whole r.0 are r.1 r.2

  of_tree : in_tree Front ≡ Some f → n.HasNotation f.line text (n.Breaks f.line f.code)
  of_tree t = by (read_lines Front).fault refl (whole_of (length Front) Front orderly up early) (pieces_come (length Front) (suc (length (without_start Front))) [] (without_start Front) (omega arith)
      (start_in (AllIn (λ m. m ≤ length Front)) (λ l rest i. i.1) Front early, start_in Rises (λ l rest i. i.1) Front rises, omega arith))
    where
      by_rule : (v : Fault) → (read_lines Front).fault ≡ Some v → (v.line ≡ length Front) × IsRule v.code → Whole (length Front) [] (without_start Front) (read_lines Front) → n.HasNotation f.line text (n.Breaks f.line f.code)
      by_rule v is r (all_read whole none a s p) = absurd (let q : None ≡ Some v = sym none ∙ is in cc)
      by_rule v is r (refused g h bars) = absurd (let q : Some g ≡ Some v = sym h ∙ is in let same : g ≡ v = cc in bars (subst (λ (z : Fault). IsRule z.code) (sym same) r.1))
      by_rule v is r (key_again m whole h a s any p) =
          let q : Some (record { line = m; code = RepeatedKey }) ≡ Some v = sym h ∙ is in
          let same : record { line = m; code = RepeatedKey } ≡ v = cc in
          let at : m ≡ length Front = ap (λ (z : Fault). z.line) same ∙ r.0 in
          of_tree_again whole (p at) s a t

      by_close : (x : RawLine) → IsClosing (length Front) x → (qs : List Piece) → read_lines (Front ++ x ∷ []) ≡ found qs [] → Alike (read_lines Front).pieces qs → Whole (suc (length Front)) [] (without_start (Front ++ x ∷ [])) (read_lines (Front ++ x ∷ []))
          → n.HasNotation f.line text (n.Breaks f.line f.code)
      by_close x c qs is a (key_again m whole h al s any p) = absurd (let q : None ≡ Some (record { line = m; code = RepeatedKey }) = sym (ap (λ (g : Found). g.fault) is) ∙ h in cc)
      by_close x c qs is a (refused g h bars) = absurd (let q : None ≡ Some g = sym (ap (λ (g : Found). g.fault) is) ∙ h in cc)
      by_close x c qs is a (all_read whole none al s p) =
          let are : (read_lines (Front ++ x ∷ [])).pieces ≡ qs = ap (λ (g : Found). g.pieces) is in
          let al' : Alike qs whole = subst (λ (xs : List Piece). Alike xs whole) are al in
          let on_qs : AllOn (λ m. m ≤ length Front) qs = on_on (λ m. m ≤ length Front) a on_them in
          let on_whole = on_on (λ m. m ≤ length Front) al' on_qs in
          let up_close : Ascends 1 (Front ++ x ∷ []) = ascends_close x c in
          let same : fault_of (document qs) ≡ Some f = sym (same_in_tree (length Front) (read_lines Front).pieces qs on_them a) ∙ t in
          let r = tree_shows qs whole on_qs al' (fits (Front ++ x ∷ []) whole up_close s p on_whole) same in
          goes_on (x ∷ []) (inr (x, c, refl)) whole r.0 (closing_orderly (length Front) x c Front false orderly) p r.1 r.2

      by : (o : Option Fault) → (read_lines Front).fault ≡ o → Whole (length Front) [] (without_start Front) (read_lines Front) → Outcome (length Front) [] (without_start Front) (all_pieces (without_start Front)) → n.HasNotation f.line text (n.Breaks f.line f.code)
      by None is (all_read whole none a s p) out = of_tree_again whole p s a t
      by None is (refused g h bars) out = absurd (let q : None ≡ Some g = sym is ∙ h in cc)
      by None is (key_again m whole h a s any p) out = absurd (let q : None ≡ Some (record { line = m; code = RepeatedKey }) = sym is ∙ h in cc)
      by (Some v) is w (is_clear none) = absurd (let q : Some v ≡ None = sym is ∙ none in cc)
      by (Some v) is w (is_lost h) =
          let s : Starts (length Front) (without_start Front) (without_start All) = start_follows (length Front) Others late Front in
          let l = h s.behind_them s.late (suc (length ((without_start Front) ++ s.behind_them))) (omega (arith, length-append (without_start Front) s.behind_them)) in
          let at : (read_lines All).fault ≡ Some l.0 = ap (λ (ls : List RawLine). (all_pieces ls).fault) s.are ∙ l.1 in
          by_rule v is (lost_rule v l.0 at l.2 (read_lines Front).fault refl is become.of_piece) w
      by (Some v) is w (is_closed x c h q) =
          let r = h (suc (length ((without_start Front) ++ x ∷ []))) (omega (arith, length-append (without_start Front) (x ∷ []))) in
          let starts_so : without_start (Front ++ x ∷ []) ≡ (without_start Front) ++ x ∷ [] = starts (without_start Front) refl in
          by_close x c r.0 (ap all_pieces starts_so ∙ r.1) r.2 (whole_of (suc (length Front)) (Front ++ x ∷ []) (closing_orderly (length Front) x c Front false orderly) (ascends_close x c) (early_close x c))
        where
          starts : (q : List RawLine) → (without_start Front) ≡ q → without_start (Front ++ x ∷ []) ≡ (without_start Front) ++ x ∷ []
          starts [] i = absurd (let q : Some v ≡ None = sym is ∙ nothing_read (without_start Front) i in cc)
          starts (y ∷ ys) i = start_behind (x ∷ []) Front y ys i

  -- ---- the fault is that of flow in which a key is repeated

  ahead : Ahead (length Front) (read_lines Front) (read_lines All)
  ahead =
      let k : ℕ = length Front in
      let s : Starts k (without_start Front) (without_start All) = start_follows k Others late Front in
      let h : Ahead k (all_pieces (without_start Front)) (all_pieces ((without_start Front) ++ s.behind_them)) =
      pieces_follow k s.behind_them s.late (suc (length (without_start Front))) (suc (length ((without_start Front) ++ s.behind_them))) [] (without_start Front) (omega arith) (omega (arith, length-append (without_start Front) s.behind_them))
      (start_in (AllIn (λ m. m ≤ k)) (λ l rest i. i.1) Front early, start_in Rises (λ l rest i. i.1) Front rises, omega arith) in
      subst (λ (ls : List RawLine). Ahead k (all_pieces (without_start Front)) (all_pieces ls)) (sym s.are) h

  -- it stays when lines follow
  stays_so : (m : ℕ) → record { line = m; code = RepeatedKey } ≡ f → (o x : Option Fault) → Follows (length Front) o x → o ≡ Some f → x ≡ Some f
  stays_so m is o x (comes l) i = absurd cc
  stays_so m is o x (stays {f = g}) i = i
  stays_so m is o x (deeper {f = g} c lt) i =
      let same : g ≡ f = cc in
      let q : Limit ≡ RepeatedKey = sym c ∙ ap (λ (z : Fault). z.code) (same ∙ sym is) in
      absurd cc
  stays_so m is o x (closes {f = g} c opened) i =
      let same : g ≡ f = cc in
      let q : Structure ≡ RepeatedKey = sym c ∙ ap (λ (z : Fault). z.code) (same ∙ sym is) in
      absurd cc

  no_tail : (read_lines All).fault ≡ Some f → ahead.tail ≡ []
  no_tail is =
      let up_all : Ascends 1 (without_start All) = start_in (Ascends 1) ascends_start All (numbered_ascends 1 All numbered) in
      let on : AllOn (λ j. j ≤ f.line) (read_lines All).pieces = early_pieces (suc (length (without_start All))) [] (without_start All) 1 up_all tt f is rule in
      let on' : AllOn (λ j. j ≤ f.line) (ahead.front ++ ahead.tail) = subst (λ (ps : List Piece). AllOn (λ j. j ≤ f.line) ps) ahead.are on in
      let on_tail : AllOn (λ j. j ≤ length Front) ahead.tail = subst (λ (m : ℕ). AllOn (λ j. j ≤ m) ahead.tail) (sym long) (on_front (λ j. j ≤ f.line) ahead.front ahead.tail on') in
      late_none (length Front) ahead.tail on_tail ahead.late

  same_tree : (read_lines All).fault ≡ Some f → in_tree All ≡ in_tree Front
  same_tree is =
      let none = no_tail is in
      let are : (read_lines All).pieces ≡ ahead.front = ahead.are ∙ ap (λ (qs : List Piece). ahead.front ++ qs) none ∙ append-nil ahead.front in
      ap (λ (ps : List Piece). fault_of (document ps)) are ∙ sym (same_in_tree (length Front) (read_lines Front).pieces ahead.front on_them ahead.alike)

  of_piece : (read_lines Front).fault ≡ Some f → n.HasNotation f.line text (n.Breaks f.line f.code)
  of_piece is = by (whole_of (length Front) Front orderly up early)
    where
      by : Whole (length Front) [] (without_start Front) (read_lines Front) → n.HasNotation f.line text (n.Breaks f.line f.code)
      by (all_read whole none a s p) = absurd (let q : None ≡ Some f = sym none ∙ is in cc)
      by (refused g h bars) = absurd (let q : Some g ≡ Some f = sym h ∙ is in let same : g ≡ f = cc in bars (subst (λ (z : Fault). IsRule z.code) (sym same) rule))
      by (key_again m whole h a s any p) =
          let q : Some (record { line = m; code = RepeatedKey }) ≡ Some f = sym h ∙ is in
          let same : record { line = m; code = RepeatedKey } ≡ f = cc in
          let at : m ≡ f.line = ap (λ (z : Fault). z.line) same in
          let are : IsLoosePieces [] (without_start Front) whole = p (at ∙ sym long) in
          let on = on_on (λ m. m ≤ length Front) a on_them in
          let all_is : (read_lines All).fault ≡ Some f = stays_so m same (read_lines Front).fault (read_lines All).fault become.of_piece is in
          let r = document_has (length Front) whole (fits Front whole up s are on) (λ g e.
          (let in_front : in_tree Front ≡ Some g = same_in_tree (length Front) (read_lines Front).pieces whole on_them a ∙ err_fault (document whole) g e in
          on_its g (no_later_each All f g all_told (inr (inr (same_tree all_is ∙ in_front)))) (on_line (λ m. m ≤ length Front) (length whole) (document whole) g (document_lies (λ m. m ≤ length Front) whole on) e))) in
          let again : n.Has (n.Repeats f.line) r.0 = notation_has f.line whole r.0 r.1 (subst (λ (l : ℕ). AnyRepeats l whole) at any) in
          by_itself whole r.0 are r.1 (subst (λ (c : Code). n.Breaks f.line c r.0) (ap (λ (z : Fault). z.code) same) (n.repeats again))

  was : (line_fault Front ≡ Some f) ⊎ (((read_lines Front).fault ≡ Some f) ⊎ (in_tree Front ≡ Some f))
  was =
      let le : f.line ≤ length Front = let l = long in omega (arith, l) in
      elim (each_was (length Front) Front All early become f le (one_of All f all_told)) [
        | inl h ↦ h
        | inr c ↦ absurd (let q : false ≡ true = subst IsTreeCode c code in cc)
      ]

  pub breaks : n.HasNotation f.line text (n.Breaks f.line f.code)
  breaks = elim was [
    | inl h ↦ absurd (line_code Front false f h code)
    | inr r ↦ elim r [ inl h ↦ of_piece h | inr h ↦ of_tree h ]
  ]

pub names_rule : (text : List ℕ) (f : Fault) → tree text ≡ Err f → (f.code ≡ RepeatedKey) ⊎ (f.code ≡ Limit) → n.HasNotation f.line text (n.Breaks f.line f.code)
names_rule text f e c = breaks text f e (three_codes f.code c)
