-- All pieces of lines that may end within a quoted scalar.
use Rattle.std.proofs.Common.{◌≡◌, ℕ, zero, suc, ◌≤◌, ◌<◌, true, false, inl, inr, List, [], ◌∷◌, ◌++◌, length, Option, Some, None, refl, sym, ap, subst, ◌∙◌, arith}
use Rattle.std.proofs.lemmas.List.{append-nil}
use Rattle.yaml_scan.specs.declared.line.RawLine.{RawLine}
use Rattle.yaml_scan.specs.declared.fault.Fault.{Fault}
use Rattle.yaml_tree.specs.declared.piece.Piece.{Piece}
use Rattle.yaml_tree.specs.Nodes.{null}
use Rattle.yaml_tree.specs.Pieces.{Found, found, leaf, line_heads, is_over, go_on, pieces}
use Rattle.yaml_laws.specs.Refused.{IsOneOf, Opens}
use Rattle.yaml_laws.proofs.Followed.{Alike, alike_itself}
use Rattle.yaml_laws.proofs.WalkedPieces.{OnFault, adds_line, adds_pieces}
use Rattle.yaml_laws.proofs.FollowedScalars.{Late, AllLate}
use Rattle.yaml_laws.proofs.FollowedPieces.{Further, clean, spoilt, Beside, same_found, both_fail, runs_out, is_open, line_beside}
use Rattle.yaml_laws.proofs.FollowedLines.{Fits, fits_parts, go_none, go_some, pieces_none}
use Rattle.yaml_laws.proofs.Orders.{tested}
use Rattle.yaml_laws.proofs.Closing.{IsClosing, OwnLine}
use Rattle.yaml_laws.proofs.ClosingPieces.{OpenOn, Whole, clear, lost, closed, line_whole}

-- The quote that is open at the end of these lines (q) begins on one of them (l): the last piece (of f) is its leaf. Whatever lines follow,
-- a fault stands on that line or behind the first k.
pub record OpenIn (k : ℕ) (ps : List Piece) (q : List RawLine) (f : Found) : Type 0 where
  pub l : RawLine
  pub is_one : IsOneOf q l
  pub opens : Opens l.line l.content
  pub front : List Piece
  pub column : ℕ
  pub last : f.pieces ≡ front ++ leaf l.line column (null l.line) 1 false ∷ []
  pub others : (a : List RawLine) → AllLate k a → (n : ℕ) → length q < n → OnFault (OwnLine k l.line) (pieces n ps (q ++ a)).fault

-- what is found in these lines, and with a line behind them that closes the quote, or with any lines behind them
pub data Outcome (k : ℕ) (ps : List Piece) (q : List RawLine) (f : Found) : Type 0 where
  is_clear : f.fault ≡ None → Outcome k ps q f
  is_lost : ((a : List RawLine) → AllLate k a → (n : ℕ) → length q < n → (v : Fault) × ((pieces n ps (q ++ a)).fault ≡ Some v) × (v.line ≤ k)) → Outcome k ps q f
  is_closed : (x : RawLine) → IsClosing k x → ((n : ℕ) → length q < n → (qs : List Piece) × (pieces n ps (q ++ x ∷ []) ≡ found qs []) × Alike f.pieces qs) → OpenIn k ps q f → Outcome k ps q f

pub late_line : (k : ℕ) (x : RawLine) → IsClosing k x → AllLate k (x ∷ [])
late_line k x c = let e = c.0 in (omega (arith, e), tt)

next_pieces : (n : ℕ) (ps : List Piece) (l : RawLine) (ls : List RawLine) → is_over ps l ≡ false → pieces (suc n) ps (l ∷ ls) ≡ go_on (line_heads ps l ls) (line_heads ps l ls).fault (pieces n)
unfolding pieces
next_pieces n ps l ls over = rw over refl

last_pieces : (n : ℕ) (ps : List Piece) (l : RawLine) (ls : List RawLine) → is_over ps l ≡ true → pieces (suc n) ps (l ∷ ls) ≡ found ps (l ∷ ls)
unfolding pieces
last_pieces n ps l ls over = rw over refl

-- where lines are left and there is no fault, those that follow stand behind them
same_next : (k : ℕ) (a : List RawLine) (f g : Found) (y : RawLine) (ys : List RawLine) → f.fault ≡ None → f.rest ≡ y ∷ ys → Beside k a f g → g ≡ found f.pieces (f.rest ++ a)
same_next k a f g y ys e r (same_found e' i) = i
same_next k a f g y ys e r (both_fail {o = o} e' i j) = absurd (let q : None ≡ Some o = sym e ∙ e' in cc)
same_next k a f g y ys e r (runs_out e' er al fur) = absurd (let q : y ∷ ys ≡ [] = sym r ∙ er in cc)
same_next k a f g y ys e r (is_open {o = o} e' code al fur) = absurd (let q : None ≡ Some o = sym e ∙ e' in cc)

beside_alike : (k : ℕ) (a : List RawLine) (f g : Found) → Beside k a f g → Alike f.pieces g.pieces
beside_alike k a f g (same_found e e') = subst (λ (h : Found). Alike f.pieces h.pieces) (sym e') (alike_itself f.pieces)
beside_alike k a f g (both_fail e e' e'') = subst (λ (qs : List Piece). Alike f.pieces qs) (sym e'') (alike_itself f.pieces)
beside_alike k a f g (runs_out e er al fur) = al
beside_alike k a f g (is_open e code al fur) = al

module _ (k : ℕ) (n : ℕ) (ps : List Piece) (l : RawLine) (ls : List RawLine) (over : is_over ps l ≡ false) (fits : Fits k (length (l ∷ ls)) (l ∷ ls)) where
  abbrev Here : Found
  Here = line_heads ps l ls

  abbrev There : List RawLine → Found
  There a = line_heads ps l (ls ++ a)

  beside : (a : List RawLine) → AllLate k a → Beside k a Here (There a)
  beside a late = line_beside k a late l ps ls fits.0.0 fits.1.0

  left : Fits k (length ls) Here.rest
  left = (adds_line (λ m. m ≤ k) (Fits k (length ls)) (fits_parts k (length ls)) l ps ls fits.0.0 (fits.0.1, fits.1.1, omega arith)).left

  more_pieces : (a : List RawLine) (m : ℕ) → length (l ∷ ls) < m → (j : ℕ) × (length ls < j) × (pieces m ps ((l ∷ ls) ++ a) ≡ go_on (There a) (There a).fault (pieces j))
  more_pieces a zero lt = absurd (omega arith)
  more_pieces a (suc j) lt = (j, omega (arith, lt), next_pieces j ps l (ls ++ a) over)

  -- the first of the lines decides
  lost_here : ((a : List RawLine) → AllLate k a → (f : Fault) × ((There a).fault ≡ Some f) × (f.line ≤ k)) → Outcome k ps (l ∷ ls) (pieces (suc n) ps (l ∷ ls))
  lost_here h =
      is_lost (λ a late m lt.
      let f = h a late in
      let p = more_pieces a m lt in
      (f.0, ap (λ (g : Found). g.fault) (p.2 ∙ go_some (There a) (There a).fault f.0 (pieces p.0) f.1) ∙ f.1, f.2))

  -- lines behind the first k give no fault but behind them
  late_own : (ps : List Piece) (m n : ℕ) (rest : List RawLine) → AllLate k rest → OnFault (OwnLine k n) (pieces m ps rest).fault
  late_own ps m n rest late = on_own (pieces m ps rest).fault (adds_pieces (Late k) (AllLate k) (λ l ls h. h) m ps rest late).on_fault
    where
      on_own : (o : Option Fault) → OnFault (Late k) o → OnFault (OwnLine k n) o
      on_own None h = tt
      on_own (Some f) h = inr h

  same_on : (P : ℕ → Type 0) (f g : Found) → f ≡ g → OnFault P g.fault → OnFault P f.fault
  same_on P f g e h = subst (λ (r : Found). OnFault P r.fault) (sym e) h

  own_further : (m j : ℕ) (g : Found) → Further k (λ (f : Fault). OwnLine k m f.line) g → OnFault (OwnLine k m) (go_on g g.fault (pieces j)).fault
  own_further m j g (clean none late) = same_on (OwnLine k m) _ _ (go_none g g.fault (pieces j) none) (late_own g.pieces j m g.rest late)
  own_further m j g (spoilt {v = v} e own) =
      same_on (OwnLine k m) _ g (go_some g g.fault v (pieces j) e) (subst (λ (o : Option Fault). OnFault (OwnLine k m) o) (sym e) own)

  open_here : OpenOn k l.line There → Opens l.line l.content → (o : Fault) → Here.fault ≡ Some o → OpenIn k ps (l ∷ ls) (pieces (suc n) ps (l ∷ ls))
  open_here q opens o e =
      record {
        l = l;
        is_one = inl refl;
        opens = opens;
        front = q.front;
        column = q.column;
        last = ap (λ (f : Found). f.pieces) (next_pieces n ps l ls over ∙ go_some Here Here.fault o (pieces n) e) ∙ ap (λ (q : List RawLine). (line_heads ps l q).pieces) (sym (append-nil ls)) ∙ q.last;
        others = λ a late m lt.
            (let p = more_pieces a m lt in
            same_on (OwnLine k l.line) _ _ p.2 (own_further l.line p.0 (There a) (q.others a late)));
      }

  closed_here : (x : RawLine) → IsClosing k x → (There (x ∷ [])).fault ≡ None → (There (x ∷ [])).rest ≡ [] → OpenOn k l.line There → Opens l.line l.content → (o : Fault) → Here.fault ≡ Some o
      → Outcome k ps (l ∷ ls) (pieces (suc n) ps (l ∷ ls))
  closed_here x c none rest q opens o e =
      let here : pieces (suc n) ps (l ∷ ls) ≡ Here = next_pieces n ps l ls over ∙ go_some Here Here.fault o (pieces n) e in
      let g : Found = There (x ∷ []) in
      is_closed x c (λ m lt.
      let p = more_pieces (x ∷ []) m lt in (
        g.pieces,
        p.2 ∙ go_none g g.fault (pieces p.0) none ∙ ap (pieces p.0 g.pieces) rest ∙ pieces_none p.0 g.pieces,
        subst (λ (f : Found). Alike f.pieces g.pieces) (sym here) (beside_alike k (x ∷ []) Here g (beside (x ∷ []) (late_line k x c))),
      )) (open_here q opens o e)

  -- the lines that are left are some of these
  all_left : (z : RawLine) → IsOneOf Here.rest z → IsOneOf (l ∷ ls) z
  all_left = (adds_line (λ m. Unit {0}) (λ ys. (z : RawLine) → IsOneOf ys z → IsOneOf (l ∷ ls) z) (λ y ys h. (tt, λ z i. h z (inr i))) l ps ls tt (λ z i. inr i)).left

  open_there : Here.fault ≡ None → (y : RawLine) (ys : List RawLine) → Here.rest ≡ y ∷ ys → OpenIn k Here.pieces Here.rest (pieces n Here.pieces Here.rest) → OpenIn k ps (l ∷ ls) (pieces (suc n) ps (l ∷ ls))
  open_there none y ys er q =
      record {
        l = q.l;
        is_one = all_left q.l q.is_one;
        opens = q.opens;
        front = q.front;
        column = q.column;
        last = ap (λ (f : Found). f.pieces) (next_pieces n ps l ls over ∙ go_none Here Here.fault (pieces n) none) ∙ q.last;
        others = λ a late m lt.
            (let p = more_pieces a m lt in
            let le = left.2 in
            let lt' = p.1 in
            same_on (OwnLine k q.l.line) _ _ (p.2 ∙ ap (λ (g : Found). go_on g g.fault (pieces p.0)) (same_next k a Here (There a) y ys none er (beside a late)))
            (q.others a late p.0 (omega (arith, le, lt'))));
      }

  -- the lines behind the first decide
  then_outcome : Here.fault ≡ None → (rest : List RawLine) → Here.rest ≡ rest → Outcome k Here.pieces Here.rest (pieces n Here.pieces Here.rest) → Outcome k ps (l ∷ ls) (pieces (suc n) ps (l ∷ ls))
  then_outcome none [] er h =
      is_clear (ap (λ (f : Found). f.fault) (next_pieces n ps l ls over ∙ go_none Here Here.fault (pieces n) none ∙ ap (pieces n Here.pieces) er ∙ pieces_none n Here.pieces))
  then_outcome none (y ∷ ys) er (is_clear e) = is_clear (ap (λ (f : Found). f.fault) (next_pieces n ps l ls over ∙ go_none Here Here.fault (pieces n) none) ∙ e)
  then_outcome none (y ∷ ys) er (is_lost h) =
      is_lost (λ a late m lt.
      let p = more_pieces a m lt in
      let le = left.2 in
      let lt' = p.1 in
      let v = h a late p.0 (omega (arith, le, lt')) in
      (v.0, ap (λ (f : Found). f.fault) (p.2 ∙ ap (λ (g : Found). go_on g g.fault (pieces p.0)) (same_next k a Here (There a) y ys none er (beside a late))) ∙ v.1, v.2))
  then_outcome none (y ∷ ys) er (is_closed x c h q) =
      is_closed x c (λ m lt.
      let p = more_pieces (x ∷ []) m lt in
      let le = left.2 in
      let lt' = p.1 in
      let v = h p.0 (omega (arith, le, lt')) in (
        v.0,
        p.2 ∙ ap (λ (g : Found). go_on g g.fault (pieces p.0)) (same_next k (x ∷ []) Here (There (x ∷ [])) y ys none er (beside (x ∷ []) (late_line k x c))) ∙ v.1,
        subst (λ (f : Found). Alike f.pieces v.0) (sym (next_pieces n ps l ls over ∙ go_none Here Here.fault (pieces n) none)) v.2,
      )) (open_there none y ys er q)

  by_line : Outcome k Here.pieces Here.rest (pieces n Here.pieces Here.rest) → (o : Option Fault) → Here.fault ≡ o → Whole k l.line (Opens l.line l.content) There → Outcome k ps (l ∷ ls) (pieces (suc n) ps (l ∷ ls))
  by_line h None e w = then_outcome e Here.rest refl h
  by_line h (Some o) e (lost f) = lost_here f
  by_line h (Some o) e (closed x c none rest q opens) = closed_here x c none rest q opens o e
  by_line h (Some o) e (clear none) = absurd (let q : Some o ≡ None = sym e ∙ ap (λ (q : List RawLine). (line_heads ps l q).fault) (sym (append-nil ls)) ∙ none in cc)

pub pieces_come : (k n : ℕ) (ps : List Piece) (q : List RawLine) → length q < n → Fits k (length q) q → Outcome k ps q (pieces n ps q)
pieces_come k zero ps q lt fits = absurd (omega arith)
pieces_come k (suc n) ps [] lt fits = is_clear (ap (λ (f : Found). f.fault) (pieces_none (suc n) ps))
pieces_come k (suc n) ps (l ∷ ls) lt fits =
    elim (tested (is_over ps l)) [
      | inl h ↦ is_clear (ap (λ (f : Found). f.fault) (last_pieces n ps l ls h))
      | inr h ↦
          let f : Found = line_heads ps l ls in
          let d = left k n ps l ls h fits in
          let le = d.2 in
          by_line k n ps l ls h fits (pieces_come k n f.pieces f.rest (omega (arith, le, lt)) (d.0, d.1, omega arith)) f.fault refl (line_whole k l ps ls fits.0.0 fits.0.1)
    ]
