-- The pieces of all lines that are read are those of the notation but for what their flow holds, up to flow in which a key is repeated.
use Rattle.std.proofs.Common.{◌≡◌, ℕ, zero, suc, ◌+◌, ◌≤◌, ◌<◌, Bool, true, false, cond, ◌||◌, ◌&&◌, inl, inr, List, [], ◌∷◌, ◌++◌, length, Option, Some, None, refl, sym, ap, subst, ◌∙◌, arith}
use Rattle.std.specs.Prelude.{◌==◌, not}
use Rattle.std.proofs.lemmas.Bool.{eqb-true}
use Rattle.yaml_scan.specs.declared.line.RawLine.{RawLine}
use Rattle.yaml_scan.specs.declared.fault.Fault.{Fault}
use Rattle.yaml_scan.specs.declared.fault.Code.TheVariants.{Tab, LeftOut, RepeatedKey}
use Rattle.yaml_scan.specs.Codes.{number_of}
use Rattle.yaml_scan.specs.Words.{sees, is_empty}
use Rattle.yaml_scan.specs.Lines.{fault, tab_fault, mark_fault, utf8_fault, one_fault, or_else, least, fault_from, is_blank_line, is_mark, is_directive, is_start, without_start}
use Rattle.yaml_tree.specs.declared.piece.Piece.{Piece}
use Rattle.yaml_tree.specs.Pieces.{Found, found, floor, heads, line_heads, is_begun, is_over, go_on, pieces}
use Rattle.yaml_tree.proofs.LinesFound.{or_false, least_none}
use Rattle.yaml_tree.proofs.Shorter.{IsEnd, all, later, end_shorter}
use Rattle.yaml_laws.specs.Refused.{NoLater}
use Rattle.yaml_laws.proofs.Closing.{IsClosing}
use Rattle.yaml_laws.proofs.Followed.{Alike, none as no_piece, more as more_alike}
use Rattle.yaml_laws.proofs.FollowedLines.{go_none, go_some, one_on}
use Rattle.yaml_laws.proofs.Orders.{tested, least_left, least_right, least_some}
use Rattle.yaml_laws.proofs.Walked.{AllIn}
use Rattle.yaml_laws.proofs.WalkedPieces.{OnFault}
use Rattle.yaml_rules.specs.LooseText.{AreOrderly, none as no_line, line as one_line, IsLooseHeads, IsLoosePieces, none as no_pieces, line as a_line}
use Rattle.yaml_rules.proofs.Chains.{AllSized}
use Rattle.yaml_signs.proofs.LeafSigns.{IsRule}
use Rattle.yaml_rules.proofs.Spelled.{Ascends, ascends_end, loose_end}
use Rattle.yaml_rules.proofs.LooseHeads.{AnyRepeats, Ends, reads, again, other, heads_end}

-- ---- orderly lines

pub or_left : (a b : Bool) → a ≡ true → (a || b) ≡ true
or_left true b e = refl
or_left false b e = absurd cc

pub or_right : (a : Bool) → (a || true) ≡ true
or_right true = refl
or_right false = refl

abbrev Later : List RawLine → Bool → Type 0
Later ls begun = (after : Bool) × (begun ≡ true → after ≡ true) × AreOrderly after ls

pub still_orderly : {ls ls' : List RawLine} → IsEnd ls' ls → (begun : Bool) → AreOrderly begun ls → Later ls' begun
still_orderly all begun c = (begun, λ (e : begun ≡ true). e, c)
still_orderly (later {l = l} i) begun (one_line t d m r) =
    let s = still_orderly i (begun || not (is_blank_line l)) r in
    (s.0, λ (e : begun ≡ true). s.1 (or_left begun (not (is_blank_line l)) e), s.2)

abbrev Orderly : List RawLine → Type 0
Orderly ls = (after : Bool) × AreOrderly after ls

picked : (b s : Bool) (x y z : List RawLine) → Orderly x → Orderly y → Orderly z → Orderly (cond b x (cond s y z))
picked true s x y z p q r = p
picked false true x y z p q r = q
picked false false x y z p q r = r

pub start_orderly : (ls : List RawLine) (begun : Bool) → AreOrderly begun ls → Orderly (without_start ls)
unfolding without_start
start_orderly [] begun c = (begun, c)
start_orderly (l ∷ ls) begun (one_line t d m r) =
    picked (is_blank_line l) (is_start l) (without_start ls) ls (l ∷ ls) (start_orderly ls (begun || not (is_blank_line l)) r) (begun || not (is_blank_line l), r) (begun, one_line t d m r)

-- an orderly line ends no pieces
pub not_over : (ps : List Piece) (begun : Bool) (l : RawLine) (ls : List RawLine) → (is_begun ps ≡ true → begun ≡ true) → AreOrderly begun (l ∷ ls) → is_over ps l ≡ false
not_over ps begun l ls some (one_line t d m r) =
    elim (tested (is_begun ps)) [
      | inr h ↦ rw h refl
      | inl h ↦ marks begun (is_mark l) (is_directive l) (is_begun ps) (some h) m d
    ]
  where
    marks : (begun mark directive some : Bool) → begun ≡ true → (begun && mark) ≡ false → directive ≡ false → (some && (mark || directive)) ≡ false
    marks true mark true some b m d = absurd cc
    marks true true false some b m d = absurd cc
    marks true false false true b m d = refl
    marks true false false false b m d = refl
    marks false mark directive some b m d = absurd cc

pub orderly_line : {begun : Bool} {l : RawLine} {ls : List RawLine} → AreOrderly begun (l ∷ ls) → sees 9 l.content ≡ false
orderly_line (one_line t d m r) = t

pub orderly_behind : {begun : Bool} {l : RawLine} {ls : List RawLine} → AreOrderly begun (l ∷ ls) → AreOrderly (begun || not (is_blank_line l)) ls
orderly_behind (one_line t d m r) = r

no_such : (n : ℕ) (f g : Fault) → NoLater f g → f.line ≡ n → g.line ≡ n → 4 ≤ number_of f.code → number_of g.code ≤ 3 → ⊥
no_such n f g (inl lt) e e' le le' = omega (arith, lt, e, e')
no_such n f g (inr h) e e' le le' = let same = h.1 in omega (arith, same, le, le')

if_some : (b : Bool) (f : Fault) → (b ≡ true → ⊥) → b ≡ false
if_some true f h = absurd (h refl)
if_some false f h = refl

module _ (l : RawLine) (begun : Bool) (g : Fault) (is : one_fault begun l ≡ Some g) (rule : IsRule g.code) where
  on_it : g.line ≡ l.line
  on_it = let h : OnFault (λ m. m ≡ l.line) (Some g) = subst (OnFault (λ m. m ≡ l.line)) is (one_on (λ m. m ≡ l.line) begun l refl) in h

  no_tab : sees 9 l.content ≡ false
  no_tab = if_some (sees 9 l.content) g (λ e. no_such l.line g (fault l.line Tab) (least_left (tab_fault l) (least (mark_fault begun l) (utf8_fault l)) g (fault l.line Tab) is (rw e refl)) on_it refl rule (omega arith))

  no_mark : (is_directive l || (begun && is_mark l)) ≡ false
  no_mark = if_some (is_directive l || (begun && is_mark l)) g (λ e.
      (let here : mark_fault begun l ≡ Some (fault l.line LeftOut) = rw e refl in
      let both = least_some (mark_fault begun l) (utf8_fault l) (fault l.line LeftOut) (inl here) in
      let first = least_left (mark_fault begun l) (utf8_fault l) both.0 (fault l.line LeftOut) both.1 here in
      let least_is = least_right (tab_fault l) (least (mark_fault begun l) (utf8_fault l)) g both.0 is both.1 in
      no_third g both.0 least_is first refl))
    where
      no_third : (f d : Fault) → NoLater f d → NoLater d (fault l.line LeftOut) → f ≡ g → ⊥
      no_third f d (inl a) (inl b) e = let o = on_it in let s : f.line ≡ g.line = ap (λ (z : Fault). z.line) e in omega (arith, a, b, o, s)
      no_third f d (inl a) (inr b) e = let o = on_it in let s : f.line ≡ g.line = ap (λ (z : Fault). z.line) e in let t = b.0 in omega (arith, a, t, o, s)
      no_third f d (inr a) (inl b) e = let o = on_it in let s : f.line ≡ g.line = ap (λ (z : Fault). z.line) e in let t = a.0 in omega (arith, b, t, o, s)
      no_third f d (inr a) (inr b) e =
          let r : IsRule f.code = subst (λ (z : Fault). IsRule z.code) (sym e) rule in
          let t = a.1 in
          let u = b.1 in
          omega (arith, t, u, r)

-- where the least fault of lines alone is one of UTF-8 on the last line, they are orderly
pub orderly_found : (k : ℕ) (ls : List RawLine) (begun : Bool) (m : ℕ) → Ascends m ls → AllIn (λ j. j ≤ k) ls → ((g : Fault) → fault_from begun ls ≡ Some g → (g.line ≡ k) × IsRule g.code) → AreOrderly begun ls
unfolding fault_from
orderly_found k [] begun m up on only = no_line
orderly_found k (l ∷ ls) begun m up on only = by (one_fault begun l) refl only (orderly_found k ls (begun || not (is_blank_line l)) (l.line + 1) up.1 on.1)
  where
    none_behind : (xs : List RawLine) → Ascends (l.line + 1) xs → AllIn (λ j. j ≤ k) xs → l.line ≡ k → AreOrderly (begun || not (is_blank_line l)) xs
    none_behind [] u o e = no_line
    none_behind (x ∷ xs) u o e = absurd (let a = u.0 in let b = o.0 in omega (arith, a, b, e))

    by : (o : Option Fault) → one_fault begun l ≡ o → ((g : Fault) → or_else o (fault_from (begun || not (is_blank_line l)) ls) ≡ Some g → (g.line ≡ k) × IsRule g.code)
        → (((g : Fault) → fault_from (begun || not (is_blank_line l)) ls ≡ Some g → (g.line ≡ k) × IsRule g.code) → AreOrderly (begun || not (is_blank_line l)) ls) → AreOrderly begun (l ∷ ls)
    by None is only more =
        let a = least_none (tab_fault l) (least (mark_fault begun l) (utf8_fault l)) is in
        let b = least_none (mark_fault begun l) (utf8_fault l) a.1 in
        let h = or_false (is_directive l) (begun && is_mark l) (if_some (is_directive l || (begun && is_mark l)) (fault l.line LeftOut) (λ e. let q : Some (fault l.line LeftOut) ≡ None = rw e at b.0 in cc)) in
        one_line (if_some (sees 9 l.content) (fault l.line Tab) (λ e. let q : Some (fault l.line Tab) ≡ None = rw e at a.0 in cc)) h.0 h.1 (more only)
    by (Some g) is only more =
        let r = only g refl in
        let h = or_false (is_directive l) (begun && is_mark l) (no_mark l begun g is r.1) in
        one_line (no_tab l begun g is r.1) h.0 h.1 (none_behind ls up.1 on.1 (sym (on_it l begun g is r.1) ∙ r.0))

-- a line that closes a quote is orderly
pub closing_orderly : (k : ℕ) (x : RawLine) → IsClosing k x → (p : List RawLine) (begun : Bool) → AreOrderly begun p → AreOrderly begun (p ++ x ∷ [])
closing_orderly k x c [] begun h = elim c.1 [
  | inl e ↦ quote_line 34 e refl refl refl
  | inr e ↦ quote_line 39 e refl refl refl
]
  where
    and_none : (a : Bool) → (a && false) ≡ false
    and_none true = refl
    and_none false = refl

    quote_line : (b : ℕ) → x.content ≡ b ∷ [] → (b == 9) ≡ false → (b == 37) ≡ false → is_mark (record { line = x.line; indent = x.indent; content = b ∷ [] }) ≡ (x.indent == 0 && false) → AreOrderly begun (x ∷ [])
    quote_line b e t d m =
        let at : x ≡ record { line = x.line; indent = x.indent; content = b ∷ [] } = ap (λ (content : List ℕ). record { line = x.line; indent = x.indent; content = content }) e in
        subst (λ (y : RawLine). AreOrderly begun (y ∷ [])) (sym at)
        (one_line t (rw d (and_none (x.indent == 0))) (rw m (rw (and_none (x.indent == 0)) (and_none begun))) no_line)
closing_orderly k x c (l ∷ p) begun (one_line t d m r) = one_line t d m (closing_orderly k x c p (begun || not (is_blank_line l)) r)

-- ---- lists of pieces

alike_floor : {ps qs : List Piece} → Alike ps qs → floor ps ≡ floor qs
unfolding floor
alike_floor no_piece = refl
alike_floor (more_alike w no_piece) = refl
alike_floor (more_alike w (more_alike {line = l} {column = c} {w = x} {v = y} {ps = ps} {qs = qs} v a)) = alike_floor (more_alike {line = l} {column = c} {w = x} {v = y} {ps = ps} {qs = qs} v a)

alike_append : {ps qs xs ys : List Piece} → Alike ps qs → Alike xs ys → Alike (ps ++ xs) (qs ++ ys)
alike_append no_piece b = b
alike_append (more_alike w a) b = more_alike w (alike_append a b)

sized_append : (ps qs : List Piece) → AllSized ps → AllSized qs → AllSized (ps ++ qs)
sized_append [] qs a b = b
sized_append (p ∷ ps) qs a b = (a.0, sized_append ps qs a.1 b)

any_append : (n : ℕ) (ps qs : List Piece) → AnyRepeats n qs → AnyRepeats n (ps ++ qs)
any_append n [] qs h = h
any_append n (p ∷ ps) qs h = inr (any_append n ps qs h)

pub all_end : (P : ℕ → Type 0) {ls ls' : List RawLine} → IsEnd ls' ls → AllIn P ls → AllIn P ls'
all_end P all h = h
all_end P (later i) h = all_end P i h.1

-- a blank line has no pieces
pub blank_heads : (content : List ℕ) (ps : List Piece) (n column : ℕ) (ls : List RawLine) → (is_empty content || sees 35 content) ≡ true → heads ps n true column content ls ≡ found ps ls
unfolding heads
blank_heads [] ps n column ls e = refl
blank_heads (b ∷ rest) ps n column ls e = subst (λ (c : ℕ). heads ps n true column (c ∷ rest) ls ≡ found ps ls) (sym (eqb-true b 35 e)) refl

pub line_is : (ps : List Piece) (l : RawLine) (ls : List RawLine) → sees 9 l.content ≡ false → line_heads ps l ls ≡ heads ps l.line true l.indent l.content ls
unfolding line_heads
line_is ps l ls t = rw t refl

-- ---- all lines

-- what is found of lines behind these pieces of the notation
pub data Whole (k : ℕ) (before : List Piece) (ls : List RawLine) (f : Found) : Type 0 where
  all_read : (whole : List Piece) → f.fault ≡ None → Alike f.pieces whole → AllSized whole → IsLoosePieces before ls whole → Whole k before ls f
  key_again : (n : ℕ) (whole : List Piece) → f.fault ≡ Some (record { line = n; code = RepeatedKey }) → Alike f.pieces whole → AllSized whole → AnyRepeats n whole → (n ≡ k → IsLoosePieces before ls whole) → Whole k before ls f
  refused : (g : Fault) → f.fault ≡ Some g → (IsRule g.code → ⊥) → Whole k before ls f

module _ (k : ℕ) where
  line_behind : (before whole : List Piece) (l : RawLine) (ls ls' : List RawLine) (f : Found) → IsLooseHeads l.line (floor before) true l.indent l.content ls whole ls' → Whole k (before ++ whole) ls' f → Whole k before (l ∷ ls) f
  line_behind before whole l ls ls' f i (all_read w e a s h) = all_read w e a s (a_line i h)
  line_behind before whole l ls ls' f i (key_again n w e a s r h) = key_again n w e a s r (λ same. a_line i (h same))
  line_behind before whole l ls ls' f i (refused g e h) = refused g e h

  none_left : (l : RawLine) (xs : List RawLine) → Ascends (l.line + 1) xs → AllIn (λ j. j ≤ k) xs → l.line ≡ k → xs ≡ []
  none_left l [] u o e = refl
  none_left l (x ∷ xs) u o e = absurd (let a = u.0 in let b = o.0 in omega (arith, a, b, e))

  pub pieces_whole : (turns : ℕ) (ps before : List Piece) (begun : Bool) (ls : List RawLine) (m : ℕ) → length ls < turns → (is_begun ps ≡ true → begun ≡ true) → AreOrderly begun ls → Alike ps before → AllSized before → Ascends m ls → AllIn (λ j. j ≤ k) ls
      → Whole k before ls (pieces turns ps ls)
  unfolding pieces
  pieces_whole zero ps before begun ls m lt some c a sized up on = absurd (omega arith)
  pieces_whole (suc turns) ps before begun [] m lt some c a sized up on = all_read before refl a sized no_pieces
  pieces_whole (suc turns) ps before begun (l ∷ ls) m lt some c a sized up on =
      let over = not_over ps begun l ls some c in
      let f : Found = line_heads ps l ls in
      let is : f ≡ heads ps l.line true l.indent l.content ls = line_is ps l ls (orderly_line c) in
      rw over (by f (subst (Ends l.line (IsLooseHeads l.line (floor ps) true l.indent l.content ls) ps) (sym is) (heads_end l.line l.content ps true l.indent ls)) (λ blank. is ∙ blank_heads l.content ps l.line l.indent ls blank)
      (λ after qs whole ls' lt' some' c' a' sized' up' on'. pieces_whole turns (ps ++ qs) (before ++ whole) after ls' (l.line + 1) lt' some' c' a' sized' up' on'))
    where
      Go : Type 0
      Go = (after : Bool) (qs whole : List Piece) (ls' : List RawLine) → length ls' < turns → (is_begun (ps ++ qs) ≡ true → after ≡ true) → AreOrderly after ls' → Alike (ps ++ qs) (before ++ whole) → AllSized (before ++ whole) → Ascends (l.line + 1) ls' → AllIn (λ j. j ≤ k) ls'
          → Whole k (before ++ whole) ls' (pieces turns (ps ++ qs) ls')

      held : (whole : List Piece) (ls' : List RawLine) → IsLooseHeads l.line (floor ps) true l.indent l.content ls whole ls' → IsLooseHeads l.line (floor before) true l.indent l.content ls whole ls'
      held whole ls' i = subst (λ (r : ℕ). IsLooseHeads l.line r true l.indent l.content ls whole ls') (alike_floor a) i

      by : (f : Found) → Ends l.line (IsLooseHeads l.line (floor ps) true l.indent l.content ls) ps f → (is_blank_line l ≡ true → f ≡ found ps ls) → Go → Whole k before (l ∷ ls) (go_on f f.fault (pieces turns))
      by f (other g e h) blank go = subst (Whole k before (l ∷ ls)) (sym (go_some f f.fault g (pieces turns) e)) (refused g e h)
      by f (again qs whole e e' al s r i) blank go =
          let u = ascends_end (l.line + 1) (loose_end i) up.1 in
          let o = all_end (λ j. j ≤ k) (loose_end i) on.1 in
          subst (Whole k before (l ∷ ls)) (sym (go_some f f.fault (record { line = l.line; code = RepeatedKey }) (pieces turns) e'))
          (key_again l.line (before ++ whole) e' (subst (λ (xs : List Piece). Alike xs (before ++ whole)) (sym e) (alike_append a al)) (sized_append before whole sized s) (any_append l.line before whole r)
          (λ same. a_line (held whole f.rest i) (subst (λ (xs : List RawLine). IsLoosePieces (before ++ whole) xs (before ++ whole)) (sym (none_left l f.rest u o same)) no_pieces)))
      by f (reads qs whole ls' e al s i) blank go =
          let le = end_shorter (loose_end i) in
          let next = still_orderly (loose_end i) (begun || not (is_blank_line l)) (orderly_behind c) in
          let grows : is_begun (ps ++ qs) ≡ true → (begun || not (is_blank_line l)) ≡ true = λ h. elim (tested (is_blank_line l)) [
            | inr n ↦ rw n (or_right begun)
            | inl y ↦
                let same : found (ps ++ qs) ls' ≡ found ps ls = sym e ∙ blank y in
                let are : ps ++ qs ≡ ps = ap (λ (x : Found). x.pieces) same in
                or_left begun (not (is_blank_line l)) (some (ap is_begun (sym are) ∙ h))
          ] in
          let more = go next.0 qs whole ls' (omega (arith, le, lt)) (λ h. next.1 (grows h)) next.2 (alike_append a al) (sized_append before whole sized s)
          (ascends_end (l.line + 1) (loose_end i) up.1) (all_end (λ j. j ≤ k) (loose_end i) on.1) in
          let same : go_on f f.fault (pieces turns) ≡ pieces turns (ps ++ qs) ls' =
          go_none f f.fault (pieces turns) (ap (λ (x : Found). x.fault) e) ∙ ap (λ (x : Found). pieces turns x.pieces x.rest) e in
          subst (Whole k before (l ∷ ls)) (sym same) (line_behind before whole l ls ls' (pieces turns (ps ++ qs) ls') (held whole ls' i) more)
