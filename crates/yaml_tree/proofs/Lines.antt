-- The pieces of lines, one line after the other, as a loop reads them.
use Rattle.std.proofs.Common.{◌≡◌, ℕ, zero, suc, ◌≤◌, ◌<◌, true, false, cond, ◌||◌, ◌&&◌, List, [], ◌∷◌, length, drop, Option, Some, None, Ok, refl, sym, ap, ◌∙◌, arith}
use Rattle.yaml_scan.specs.declared.fault.Fault.{Fault}
use Rattle.yaml_scan.specs.declared.line.RawLine.{RawLine}
use Rattle.yaml_scan.specs.Lines.{is_mark, is_directive}
use Rattle.yaml_scan.specs.Answers.{front_line}
use Rattle.yaml_tree.specs.declared.piece.Piece.{Piece}
use Rattle.yaml_scan.specs.Words.{is_some}
use Rattle.yaml_tree.specs.Pieces.{Found, IsFound, found, line_heads, go_on, is_begun, pieces}

-- what is left to read makes up the whole
pub record Continues (ps : List Piece) (ls : List RawLine) (total : Found) : Type 0 where
  pub turns : ℕ
  pub enough : length ls < turns
  pub reads : pieces turns ps ls ≡ total

pub begins : (ps : List Piece) (ls : List RawLine) → Continues ps ls (pieces (suc (length ls)) ps ls)
begins ps ls = record { turns = suc (length ls); enough = omega arith; reads = refl }

abbrev turned : (k : ℕ) (ps : List Piece) (l : RawLine) (ls : List RawLine) → Found
turned k ps l ls = cond (is_begun ps && (is_mark l || is_directive l)) (found ps (l ∷ ls)) (go_on (line_heads ps l ls) (line_heads ps l ls).fault (pieces k))

taken : (n : ℕ) (ps : List Piece) (l : RawLine) (ls rest : List RawLine) (total : Found) → front_line ls ≡ Some l → drop 1 ls ≡ rest → length ls < n → pieces n ps ls ≡ total → (k : ℕ) × (length rest < k) × (turned k ps l rest ≡ total)
unfolding pieces
taken zero ps l ls rest total f d lt so = absurd (omega arith)
taken (suc k) ps l [] rest total f d lt so = absurd cc
taken (suc k) ps l (x ∷ ls) rest total f d lt so =
    let same : x ≡ l = cc in
    let behind : ls ≡ rest = d in
    (k, omega (arith, ap length behind), sym (ap (λ (y : RawLine). turned k ps y rest) same) ∙ sym (ap (turned k ps x) behind) ∙ so)

-- a mark or directive ends them
pub marked : (ps : List Piece) (l : RawLine) (ls : List RawLine) (total : Found) → Continues ps ls total → front_line ls ≡ Some l → (is_begun ps && (is_mark l || is_directive l)) ≡ true → (total.pieces ≡ ps) × (total.fault ≡ None)
marked ps l ls total c f m =
    let t = taken c.turns ps l ls (drop 1 ls) total f refl c.enough c.reads in
    let e : found ps (l ∷ drop 1 ls) ≡ total = sym (rw m refl) ∙ t.2 in
    (sym (ap (λ (x : Found). x.pieces) e), sym (ap (λ (x : Found). x.fault) e))

-- what a line gave, where it has a fault
pub found_fault : (h : Found) (new : List Piece) (ls : List RawLine) (f : Option Fault) (E' : Type 0) → is_some f ≡ true → IsFound {E = E'} h (Ok f) new ls → (h.pieces ≡ new) × (h.fault ≡ f)
found_fault h new ls None E' s g = absurd cc
found_fault h new ls (Some f) E' s g = g

pub found_none : (h : Found) (new : List Piece) (ls : List RawLine) (f : Option Fault) (E' : Type 0) → is_some f ≡ false → IsFound {E = E'} h (Ok f) new ls → h ≡ found new ls
found_none h new ls None E' s g = g
found_none h new ls (Some f) E' s g = absurd cc

pub faulty : (ps : List Piece) (l : RawLine) (ls rest : List RawLine) (total : Found) (new : List Piece) (f : Option Fault) → Continues ps ls total → front_line ls ≡ Some l → drop 1 ls ≡ rest → (is_begun ps && (is_mark l || is_directive l)) ≡ false
    → is_some f ≡ true → ((line_heads ps l rest).pieces ≡ new) × ((line_heads ps l rest).fault ≡ f) → (total.pieces ≡ new) × (total.fault ≡ f)
faulty ps l ls rest total new None c fr d m s h = absurd cc
faulty ps l ls rest total new (Some f) c fr d m s h =
    let t = taken c.turns ps l ls rest total fr d c.enough c.reads in
    let e : line_heads ps l rest ≡ total = sym (rw (m, h.1) refl) ∙ t.2 in
    (sym (ap (λ (x : Found). x.pieces) e) ∙ h.0, sym (ap (λ (x : Found). x.fault) e) ∙ h.1)

-- a line without one
pub goes_on : (ps : List Piece) (l : RawLine) (ls rest : List RawLine) (total : Found) (new : List Piece) (behind : List RawLine) → Continues ps ls total → front_line ls ≡ Some l → drop 1 ls ≡ rest → (is_begun ps && (is_mark l || is_directive l)) ≡ false
    → line_heads ps l rest ≡ found new behind → length behind ≤ length rest → Continues new behind total
goes_on ps l ls rest total new behind c fr d m h shorter =
    let t = taken c.turns ps l ls rest total fr d c.enough c.reads in
    record { turns = t.0; enough = omega (arith, t.1, shorter); reads = sym (rw (m, h) refl) ∙ t.2 }

-- no line is left
none_left : (n : ℕ) (ps : List Piece) (ls : List RawLine) → front_line ls ≡ None → length ls < n → pieces n ps ls ≡ found ps []
unfolding pieces
none_left zero ps ls f lt = absurd (omega arith)
none_left (suc n) ps [] f lt = refl
none_left (suc n) ps (l ∷ ls) f lt = absurd cc

pub nothing : (ps : List Piece) (ls : List RawLine) (total : Found) → Continues ps ls total → front_line ls ≡ None → (total.pieces ≡ ps) × (total.fault ≡ None)
nothing ps ls total c f =
    let e : total ≡ found ps [] = sym c.reads ∙ none_left c.turns ps ls f c.enough in
    (ap (λ (x : Found). x.pieces) e, ap (λ (x : Found). x.fault) e)
