-- The pieces of all lines, read and in the grammar.
use Rattle.std.proofs.Common.{◌≡◌, ℕ, zero, suc, ◌<◌, Bool, true, false, cond, ◌||◌, ◌&&◌, ◌⊎◌, inl, inr, List, [], ◌∷◌, ◌++◌, length, Option, Some, None, refl, sym, ap, subst, ◌∙◌, arith}
use Rattle.std.specs.Prelude.{◌==◌, not}
use Rattle.std.proofs.lemmas.Bool.{eqb-true}
use Rattle.yaml_scan.specs.declared.line.RawLine.{RawLine}
use Rattle.yaml_scan.specs.declared.fault.Fault.{Fault}
use Rattle.yaml_scan.specs.Words.{sees, is_blank, is_empty, breaks}
use Rattle.yaml_scan.specs.Lines.{is_blank_line, is_mark, is_directive, is_start, without_start}
use Rattle.yaml_tree.specs.declared.piece.Piece.{Piece}
use Rattle.yaml_tree.specs.Pieces.{Found, floor, heads, line_heads, is_begun, is_over, go_on, pieces}
use Rattle.yaml_tree.specs.Keys.{IsKey}
use Rattle.yaml_tree.specs.Spelling.{IsAt, here, blank, is_dash, IsLeaf, IsHeads, nothing, dash as dash_is, leaf as leaf_is, key as key_is, key_value, IsPieces, none as no_line, line as a_line, AreClean, line as clean_line}
use Rattle.yaml_tree.proofs.LinesFound.{tested, and_true}
use Rattle.yaml_tree.proofs.Shorter.{IsEnd, all, later, end_shorter}
use Rattle.yaml_tree.proofs.LeafFound.{leaf_no_comment}
use Rattle.yaml_tree.proofs.PiecesFound.{Passes, Good, heads_found, heads_end}
use Rattle.yaml_tree.proofs.PiecesRead.{heads_read, key_no_comment}
use Rattle.yaml_tree.proofs.Low.{Low, low_parts, low_before, low_all}

or_left : (a b : Bool) → a ≡ true → (a || b) ≡ true
or_left true b e = refl
or_left false b e = absurd cc

or_right : (a : Bool) → (a || true) ≡ true
or_right true = refl
or_right false = refl

-- ---- clean lines

still_clean : {ls ls' : List RawLine} → IsEnd ls' ls → (begun : Bool) → AreClean begun ls → (after : Bool) × (begun ≡ true → after ≡ true) × AreClean after ls'
still_clean all begun c = (begun, λ (e : begun ≡ true). e, c)
still_clean (later {l = l} i) begun (clean_line t d m u r) =
    let s = still_clean i (begun || not (is_blank_line l)) r in
    (s.0, λ (e : begun ≡ true). s.1 (or_left begun (not (is_blank_line l)) e), s.2)

abbrev Clean : List RawLine → Type 0
Clean ls = (after : Bool) × AreClean after ls

picked_clean : (b s : Bool) (x y z : List RawLine) → Clean x → Clean y → Clean z → Clean (cond b x (cond s y z))
picked_clean true s x y z p q r = p
picked_clean false true x y z p q r = q
picked_clean false false x y z p q r = r

pub start_clean : (ls : List RawLine) (begun : Bool) → AreClean begun ls → Clean (without_start ls)
unfolding without_start
start_clean [] begun c = (begun, c)
start_clean (l ∷ ls) begun (clean_line t d m u r) =
    picked_clean (is_blank_line l) (is_start l) (without_start ls) ls (l ∷ ls) (start_clean ls (begun || not (is_blank_line l)) r) (begun || not (is_blank_line l), r) (begun, clean_line t d m u r)

-- A clean line ends no pieces.
not_over : (ps : List Piece) (begun : Bool) (l : RawLine) (ls : List RawLine) → (is_begun ps ≡ true → begun ≡ true) → AreClean begun (l ∷ ls) → is_over ps l ≡ false
not_over ps begun l ls some (clean_line t d m u r) =
    elim (tested (is_begun ps)) [
      | inr h ↦ rw h refl
      | inl h ↦ marks begun (is_mark l) (is_directive l) (is_begun ps) (some h) m d
    ]
  where
    marks : (begun mark directive some : Bool) → begun ≡ true → (begun && mark) ≡ false → directive ≡ false → (some && (mark || directive)) ≡ false
    marks true mark true some b m d = absurd cc
    marks true true false some b m d = absurd cc
    marks true false false true b m d = refl
    marks true false false false b m d = refl
    marks false mark directive some b m d = absurd cc

-- ---- a blank line has no pieces

at_sign : {column at b : ℕ} {bytes rest : List ℕ} → IsAt column (b ∷ bytes) at rest → (b == 35) ≡ true → rest ≡ b ∷ bytes
at_sign (here h) e = refl
at_sign (blank {b = b} h a) e = absurd (let q : true ≡ false = sym h ∙ ap is_blank (eqb-true b 35 e) in cc)

no_two : (b : Bool) → b ≡ true → b ≡ false → ⊥
no_two true e f = cc
no_two false e f = cc

comment_none : {n right column b : ℕ} {spaced : Bool} {bytes : List ℕ} {ls ls' : List RawLine} {qs : List Piece} → (b == 35) ≡ true → IsHeads n right spaced column (b ∷ bytes) ls qs ls' → is_begun qs ≡ false
comment_none e (nothing h) = refl
comment_none {b = b} {bytes = bytes} e (dash_is {b = c} {rest = rest} a d r) =
    let is : is_dash (b ∷ bytes) ≡ true = ap is_dash (sym (at_sign a e)) ∙ d in
    absurd (let q : 45 ≡ 35 = sym (eqb-true b 45 (and_true (b == 45) (breaks bytes) is).0) ∙ eqb-true b 35 e in omega (arith, q))
comment_none {n = n} {b = b} {bytes = bytes} {ls = ls} {ls' = ls'} e (leaf_is {right = right} {height = height} {x = x} a d l) =
    let l' : IsLeaf right n (b ∷ bytes) ls x height ls' = subst (λ (w : List ℕ). IsLeaf right n w ls x height ls') (at_sign a e) l in
    absurd (no_two (b == 35) e (leaf_no_comment right n b bytes ls x height ls' l'))
comment_none {n = n} {b = b} {bytes = bytes} e (key_is {at = at} {behind = behind} {k = k} {after = after} a d i h) =
    absurd (no_two (b == 35) e (key_no_comment (subst (λ (w : List ℕ). IsKey at w k behind after) (at_sign a e) i)))
comment_none {n = n} {b = b} {bytes = bytes} e (key_value {at = at} {behind = behind} {k = k} {after = after} a d i v l) =
    absurd (no_two (b == 35) e (key_no_comment (subst (λ (w : List ℕ). IsKey at w k behind after) (at_sign a e) i)))

no_bytes : {column at : ℕ} {rest : List ℕ} → IsAt column [] at rest → ⊥
no_bytes a = elim a [ ]

empty_none : {n right column : ℕ} {spaced : Bool} {ls ls' : List RawLine} {qs : List Piece} → IsHeads n right spaced column [] ls qs ls' → is_begun qs ≡ false
empty_none (nothing h) = refl
empty_none (dash_is a d r) = absurd (no_bytes a)
empty_none (leaf_is a d l) = absurd (no_bytes a)
empty_none (key_is a d k h) = absurd (no_bytes a)
empty_none (key_value a d k v l) = absurd (no_bytes a)

blank_none : (bytes : List ℕ) (n right column : ℕ) (spaced : Bool) (ls ls' : List RawLine) (qs : List Piece) → (is_empty bytes || sees 35 bytes) ≡ true → IsHeads n right spaced column bytes ls qs ls' → is_begun qs ≡ false
blank_none [] n right column spaced ls ls' qs e i = empty_none i
blank_none (b ∷ bytes) n right column spaced ls ls' qs e i = comment_none e i

begun_more : (ps qs : List Piece) → is_begun (ps ++ qs) ≡ true → (is_begun ps ≡ true) ⊎ (is_begun qs ≡ true)
begun_more [] qs e = inr e
begun_more (p ∷ ps) qs e = inl refl

next_clean : (ps qs : List Piece) (begun : Bool) (l : RawLine) (ls ls' : List RawLine) (right : ℕ) → (is_begun ps ≡ true → begun ≡ true) → AreClean begun (l ∷ ls) → IsHeads l.line right true l.indent l.content ls qs ls'
    → (after : Bool) × (is_begun (ps ++ qs) ≡ true → after ≡ true) × AreClean after ls'
next_clean ps qs begun l ls ls' right some (clean_line t d m u r) i =
    let s = still_clean (heads_end i) (begun || not (is_blank_line l)) r in
    let grows : is_begun (ps ++ qs) ≡ true → (begun || not (is_blank_line l)) ≡ true = λ e. elim (begun_more ps qs e) [
      | inl h ↦ or_left begun (not (is_blank_line l)) (some h)
      | inr h ↦ elim (tested (is_blank_line l)) [
        | inl k ↦ absurd (no_two (is_begun qs) h (blank_none l.content l.line right l.indent true ls ls' qs k i))
        | inr k ↦ rw k (or_right begun)
      ]
    ] in
    (s.0, λ (e : is_begun (ps ++ qs) ≡ true). s.1 (grows e), s.2)

-- ---- all lines

-- A clean line has no tab among its leading blanks.
clean_heads : (begun : Bool) (ps : List Piece) (l : RawLine) (ls ls' : List RawLine) → AreClean begun (l ∷ ls) → line_heads ps l ls' ≡ heads ps l.line true l.indent l.content ls'
unfolding line_heads
clean_heads begun ps l ls ls' (clean_line t d m u r) = rw t refl

abbrev Read : List Piece → List RawLine → Found → Type 0
Read ps ls f = Passes f → IsPieces ps ls f.pieces

went_on : (k : ℕ) (ps : List Piece) (l : RawLine) (ls : List RawLine) (f : Found) (o : Option Fault) → f.fault ≡ o
    → (Passes f → Good f ps (λ qs ls'. IsHeads l.line (floor ps) true l.indent l.content ls qs ls'))
    → ((qs : List Piece) (ls' : List RawLine) → IsHeads l.line (floor ps) true l.indent l.content ls qs ls' → Read (ps ++ qs) ls' (pieces k (ps ++ qs) ls')) → Read ps (l ∷ ls) (go_on f o (pieces k))
went_on k ps l ls f (Some fault) is good more e = absurd (let q : Some fault ≡ None = sym is ∙ e.0 in cc)
went_on k ps l ls f None is good more e =
    let g = good (is, low_before k f.pieces f.rest e.1) in
    let same : pieces k f.pieces f.rest ≡ pieces k (ps ++ g.0) g.1 = ap (λ (x : Found). pieces k x.pieces x.rest) g.2 in
    subst (λ (x : Found). IsPieces ps (l ∷ ls) x.pieces) (sym same) (a_line g.3 (more g.0 g.1 g.3 (subst Passes same e)))

pub pieces_found : (k : ℕ) (ps : List Piece) (begun : Bool) (ls : List RawLine) → length ls < k → (is_begun ps ≡ true → begun ≡ true) → AreClean begun ls → Read ps ls (pieces k ps ls)
unfolding pieces
pieces_found zero ps begun ls lt some c e = absurd (omega arith)
pieces_found (suc k) ps begun [] lt some c e = no_line
pieces_found (suc k) ps begun (l ∷ ls) lt some c e =
    let h = not_over ps begun l ls some c in
    let f : Found = line_heads ps l ls in
    let same = clean_heads begun ps l ls ls c in
    let good : Passes f → Good f ps (λ qs ls'. IsHeads l.line (floor ps) true l.indent l.content ls qs ls') =
    subst (λ (g : Found). Passes g → Good g ps (λ qs ls'. IsHeads l.line (floor ps) true l.indent l.content ls qs ls')) (sym same) (heads_found l.content ps l.line true l.indent ls) in
    let more : (qs : List Piece) (ls' : List RawLine) → IsHeads l.line (floor ps) true l.indent l.content ls qs ls' → Read (ps ++ qs) ls' (pieces k (ps ++ qs) ls') = λ qs ls' i.
    (let n = next_clean ps qs begun l ls ls' (floor ps) some c i in
    let le = end_shorter (heads_end i) in
    pieces_found k (ps ++ qs) n.0 ls' (omega arith) n.1 n.2) in
    rw h (went_on k ps l ls f f.fault refl good more (rw h at e))

pub pieces_read : (k : ℕ) (ps : List Piece) (begun : Bool) (ls : List RawLine) (whole : List Piece) → length ls < k → (is_begun ps ≡ true → begun ≡ true) → AreClean begun ls → IsPieces ps ls whole → Low whole → ((pieces k ps ls).pieces ≡ whole) × ((pieces k ps ls).fault ≡ None)
unfolding pieces
pieces_read zero ps begun ls whole lt some c p low = absurd (omega arith)
pieces_read (suc k) ps begun [] whole lt some c no_line low = (refl, refl)
pieces_read (suc k) ps begun (l ∷ ls) whole lt some c (a_line {ps = qs} {ls' = ls'} i r) low =
    let h = not_over ps begun l ls some c in
    let e = clean_heads begun ps l ls ls c ∙ heads_read i ps refl (low_parts ps qs (low_all r low)).1 in
    let n = next_clean ps qs begun l ls ls' (floor ps) some c i in
    let le = end_shorter (heads_end i) in
    let more = pieces_read k (ps ++ qs) n.0 ls' whole (omega arith) n.1 n.2 r low in
    let same : go_on (line_heads ps l ls) (line_heads ps l ls).fault (pieces k) ≡ pieces k (ps ++ qs) ls' = ap (λ (f : Found). go_on f f.fault (pieces k)) e in
    (rw h (ap (λ (f : Found). f.pieces) same ∙ more.0), rw h (ap (λ (f : Found). f.fault) same ∙ more.1))
