-- All pieces of some lines, and of these with further ones behind them.
use Rattle.std.proofs.Common.{◌≡◌, ℕ, zero, suc, ◌≤◌, ◌<◌, Bool, true, false, cond, ◌||◌, List, [], ◌∷◌, ◌++◌, length, Option, Some, None, refl, sym, ap, subst, ◌∙◌, arith}
use Rattle.std.specs.Prelude.{◌==◌, not, nat_lt, ◌&&◌}
use Rattle.std.proofs.lemmas.List.{append-nil}
use Rattle.std.specs.Str.{is_utf8}
use Rattle.yaml_scan.specs.declared.line.RawLine.{RawLine}
use Rattle.yaml_scan.specs.declared.fault.Fault.{Fault}
use Rattle.yaml_scan.specs.declared.fault.Code.TheVariants.{Structure, Limit}
use Rattle.yaml_scan.specs.Codes.{number_of}
use Rattle.yaml_scan.specs.Words.{sees}
use Rattle.yaml_scan.specs.Lines.{least, tab_fault, mark_fault, utf8_fault, one_fault, or_else, fault_from, is_blank_line, is_directive, is_mark, is_start, without_start}
use Rattle.yaml_tree.specs.declared.piece.Piece.{Piece}
use Rattle.yaml_tree.specs.Pieces.{Found, found, line_heads, is_over, go_on, pieces}
use Rattle.yaml_laws.proofs.Laid.{AllOn}
use Rattle.yaml_laws.proofs.Followed.{Alike, alike_itself}
use Rattle.yaml_laws.proofs.Walked.{AllIn}
use Rattle.yaml_laws.proofs.WalkedPieces.{OnFault, Adds, adds_line, adds_pieces}
use Rattle.yaml_laws.proofs.FollowedScalars.{Late, AllLate, From}
use Rattle.yaml_laws.proofs.FollowedPieces.{clean, spoilt, Beside, same_found, both_fail, runs_out, is_open, line_beside}

-- no line stands behind a later one
abbrev pub Rises : List RawLine → Type 0
Rises [] = Unit {0}
Rises (l ∷ ls) = From l.line ls × Rises ls

-- some of the first k lines, in their order, and so many at most
abbrev pub Fits : ℕ → ℕ → List RawLine → Type 0
Fits k m ls = AllIn (λ n. n ≤ k) ls × Rises ls × (length ls ≤ m)

pub fits_parts : (k m : ℕ) (l : RawLine) (ls : List RawLine) → Fits k m (l ∷ ls) → (l.line ≤ k) × Fits k m ls
fits_parts k m l ls f = let le = f.2 in (f.0.0, (f.0.1, f.1.1, omega (arith, le)))

-- What a fault of the first lines becomes when lines follow: it stays; one of a null that is too deep may be told of the node there; one
-- of an open quote may go, or move on. Where there is none, one that comes is told behind the first lines.
pub data Opened (k : ℕ) (f : Fault) : Option Fault → Type 0 where
  gone : Opened k f None
  behind : {g : Fault} → k < g.line → Opened k f (Some g)
  later : {g : Fault} → g.code ≡ Structure → f.line ≤ g.line → Opened k f (Some g)

pub data Follows (k : ℕ) : Option Fault → Option Fault → Type 0 where
  comes : {o : Option Fault} → OnFault (Late k) o → Follows k None o
  stays : {f : Fault} → Follows k (Some f) (Some f)
  deeper : {f g : Fault} → f.code ≡ Limit → k < g.line → Follows k (Some f) (Some g)
  closes : {f : Fault} {o : Option Fault} → f.code ≡ Structure → Opened k f o → Follows k (Some f) o

pub record Ahead (k : ℕ) (f g : Found) : Type 0 where
  pub front : List Piece
  pub tail : List Piece
  pub alike : Alike f.pieces front
  pub are : g.pieces ≡ front ++ tail
  pub late : AllOn (Late k) tail
  pub faults : Follows k f.fault g.fault

opened_late : (k : ℕ) (f : Fault) (o : Option Fault) → OnFault (Late k) o → Opened k f o
opened_late k f None h = gone
opened_late k f (Some g) h = behind h

pub pieces_none : (n : ℕ) (ps : List Piece) → pieces n ps [] ≡ found ps []
unfolding pieces
pieces_none zero ps = refl
pieces_none (suc n) ps = refl

pub go_none : (f : Found) (o : Option Fault) (go : List Piece → List RawLine → Found) → o ≡ None → go_on f o go ≡ go f.pieces f.rest
go_none f None go e = refl
go_none f (Some v) go e = absurd cc

pub go_some : (f : Found) (o : Option Fault) (v : Fault) (go : List Piece → List RawLine → Found) → o ≡ Some v → go_on f o go ≡ f
go_some f None v go e = absurd cc
go_some f (Some w) v go e = refl

module _ (k : ℕ) (a : List RawLine) (late : AllLate k a) where
  ahead_is : {f f' g g' : Found} → f ≡ f' → g ≡ g' → Ahead k f' g' → Ahead k f g
  ahead_is {f} {f'} {g} {g'} e e' h = subst (λ (x : Found). Ahead k x g) (sym e) (subst (λ (y : Found). Ahead k f' y) (sym e') h)

  either : (b : Bool) (f f' g g' : Found) → Ahead k f g → Ahead k f' g' → Ahead k (cond b f f') (cond b g g')
  either true f f' g g' p q = p
  either false f f' g g' p q = q

  late_parts : (l : RawLine) (ls : List RawLine) → AllLate k (l ∷ ls) → Late k l.line × AllLate k ls
  late_parts l ls h = h

  -- nothing but pieces of the lines behind is added
  behind_first : (n : ℕ) (f : Found) (ps : List Piece) (rest : List RawLine) → AllLate k rest → Alike f.pieces ps → ((o : Option Fault) → OnFault (Late k) o → Follows k f.fault o) → Ahead k f (pieces n ps rest)
  behind_first n f ps rest h al faults =
      let d : Adds (Late k) (AllLate k) ps (pieces n ps rest) = adds_pieces (Late k) (AllLate k) late_parts n ps rest h in
      record { front = ps; tail = d.new; alike = al; are = d.are; late = d.on_lines; faults = faults (pieces n ps rest).fault d.on_fault }

  as_it_is : (f g : Found) (ps : List Piece) → g.pieces ≡ ps → Alike f.pieces ps → Follows k f.fault g.fault → Ahead k f g
  as_it_is f g ps e al h = record { front = ps; tail = []; alike = al; are = e ∙ sym (append-nil ps); late = tt; faults = h }

  one_line : (n n' m : ℕ) (f g : Found) → Beside k a f g → Fits k m f.rest
      → ((ps : List Piece) (q : List RawLine) → Fits k m q → Ahead k (pieces n ps q) (pieces n' ps (q ++ a)))
      → Ahead k (go_on f f.fault (pieces n)) (go_on g g.fault (pieces n'))
  one_line n n' m f g (same_found e e') fits go =
      ahead_is (go_none f f.fault (pieces n) e) (ap (λ (x : Found). go_on x x.fault (pieces n')) e') (go f.pieces f.rest fits)
  one_line n n' m f g (both_fail {o = o} e e' e'') fits go =
      ahead_is (go_some f f.fault o (pieces n) e) (go_some g g.fault o (pieces n') e')
      (as_it_is f g f.pieces e'' (alike_itself f.pieces) (subst (λ (x : Option Fault). Follows k x g.fault) (sym e) (subst (λ (x : Option Fault). Follows k (Some o) x) (sym e') stays)))
  one_line n n' m f g (runs_out e er al (clean eg rest)) fits go =
      ahead_is (go_none f f.fault (pieces n) e ∙ ap (pieces n f.pieces) er ∙ pieces_none n f.pieces) (go_none g g.fault (pieces n') eg)
      (behind_first n' (found f.pieces []) g.pieces g.rest rest al (λ o h. comes h))
  one_line n n' m f g (runs_out e er al (spoilt {v = v} ev gv)) fits go =
      ahead_is (go_none f f.fault (pieces n) e ∙ ap (pieces n f.pieces) er ∙ pieces_none n f.pieces) (go_some g g.fault v (pieces n') ev)
      (as_it_is (found f.pieces []) g g.pieces refl al (subst (λ (x : Option Fault). Follows k None x) (sym ev) (comes gv)))
  one_line n n' m f g (is_open {o = o} e code al (clean eg rest)) fits go =
      ahead_is (go_some f f.fault o (pieces n) e) (go_none g g.fault (pieces n') eg)
      (behind_first n' f g.pieces g.rest rest al (λ x h. subst (λ (y : Option Fault). Follows k y x) (sym e) (closes code (opened_late k o x h))))
  one_line n n' m f g (is_open {o = o} e code al (spoilt {v = v} ev gv)) fits go =
      ahead_is (go_some f f.fault o (pieces n) e) (go_some g g.fault v (pieces n') ev)
      (as_it_is f g g.pieces refl al (subst (λ (y : Option Fault). Follows k y g.fault) (sym e) (subst (λ (x : Option Fault). Follows k (Some o) x) (sym ev) (closes code (later gv.0 gv.1)))))

  pub pieces_follow : (n n' : ℕ) (ps : List Piece) (q : List RawLine) → length q < n → length q < n' → Fits k (length q) q → Ahead k (pieces n ps q) (pieces n' ps (q ++ a))
  unfolding pieces
  pieces_follow zero n' ps q lt lt' fits = absurd (omega arith)
  pieces_follow (suc n) zero ps q lt lt' fits = absurd (omega arith)
  pieces_follow (suc n) (suc n') ps [] lt lt' fits = behind_first (suc n') (found ps []) ps a late (alike_itself ps) (λ o h. comes h)
  pieces_follow (suc n) (suc n') ps (l ∷ ls) lt lt' fits =
      let f : Found = line_heads ps l ls in
      let g : Found = line_heads ps l (ls ++ a) in
      let d : Adds (λ m. m ≤ k) (Fits k (length ls)) ps f = adds_line (λ m. m ≤ k) (Fits k (length ls)) (fits_parts k (length ls)) l ps ls fits.0.0 (fits.0.1, fits.1.1, omega arith) in
      either (is_over ps l) _ _ _ _ (as_it_is (found ps (l ∷ ls)) (found ps ((l ∷ ls) ++ a)) ps refl (alike_itself ps) (comes tt))
      (one_line n n' (length ls) f g (line_beside k a late l ps ls fits.0.0 fits.1.0) d.left
      (λ qs q h. let le = h.2 in pieces_follow n n' qs q (omega (arith, le, lt)) (omega (arith, le, lt')) (h.0, h.1, omega arith)))

-- ---- the faults of lines alone

least_on : (P : ℕ → Type 0) (x y : Option Fault) → OnFault P x → OnFault P y → OnFault P (least x y)
least_on P None y h i = i
least_on P (Some f) None h i = h
least_on P (Some f) (Some g) h i = by (nat_lt g.line f.line || (g.line == f.line && nat_lt (number_of g.code) (number_of f.code)))
  where
    by : (b : Bool) → OnFault P (cond b (Some g) (Some f))
    by true = i
    by false = h

tested_on : (P : ℕ → Type 0) (b : Bool) (f : Fault) → P f.line → OnFault P (cond b (Some f) None)
tested_on P true f h = h
tested_on P false f h = tt

utf8_on : (P : ℕ → Type 0) (b : Bool) (f : Fault) → P f.line → OnFault P (cond b None (Some f))
utf8_on P true f h = tt
utf8_on P false f h = h

pub one_on : (P : ℕ → Type 0) (begun : Bool) (l : RawLine) → P l.line → OnFault P (one_fault begun l)
one_on P begun l h =
    least_on P (tab_fault l) (least (mark_fault begun l) (utf8_fault l)) (tested_on P (sees 9 l.content) _ h)
    (least_on P (mark_fault begun l) (utf8_fault l) (tested_on P (is_directive l || (begun && is_mark l)) _ h) (utf8_on P (is_utf8 l.content) _ h))

or_on : (P : ℕ → Type 0) (x y : Option Fault) → OnFault P x → OnFault P y → OnFault P (or_else x y)
or_on P None y h i = i
or_on P (Some f) y h i = h

pub faults_on : (P : ℕ → Type 0) (ls : List RawLine) (begun : Bool) → AllIn P ls → OnFault P (fault_from begun ls)
unfolding fault_from
faults_on P [] begun h = tt
faults_on P (l ∷ ls) begun h = or_on P (one_fault begun l) (fault_from (begun || not (is_blank_line l)) ls) (one_on P begun l h.0) (faults_on P ls (begun || not (is_blank_line l)) h.1)

pub lines_follow : (k : ℕ) (a : List RawLine) → AllLate k a → (q : List RawLine) (begun : Bool) → Follows k (fault_from begun q) (fault_from begun (q ++ a))
unfolding fault_from
lines_follow k a late [] begun = comes (faults_on (Late k) a begun late)
lines_follow k a late (l ∷ ls) begun = by (one_fault begun l) _ _ (lines_follow k a late ls (begun || not (is_blank_line l)))
  where
    by : (o x y : Option Fault) → Follows k x y → Follows k (or_else o x) (or_else o y)
    by None x y h = h
    by (Some f) x y h = stays

-- ---- behind a first mark

pub start_in : (S : List RawLine → Type 0) → ((l : RawLine) (ls : List RawLine) → S (l ∷ ls) → S ls) → (ls : List RawLine) → S ls → S (without_start ls)
unfolding without_start
start_in S less [] s = s
start_in S less (l ∷ ls) s = by (is_blank_line l) (is_start l) (start_in S less ls (less l ls s)) (less l ls s) s
  where
    by : {x y z : List RawLine} (b c : Bool) → S x → S y → S z → S (cond b x (cond c y z))
    by true c p q r = p
    by false true p q r = q
    by false false p q r = r

-- the lines behind the first mark are those of the first lines, and some behind them
pub record Starts (k : ℕ) (q all : List RawLine) : Type 0 where
  pub behind_them : List RawLine
  pub are : all ≡ q ++ behind_them
  pub late : AllLate k behind_them

pub start_follows : (k : ℕ) (a : List RawLine) → AllLate k a → (q : List RawLine) → Starts k (without_start q) (without_start (q ++ a))
unfolding without_start
start_follows k a late [] = record { behind_them = without_start a; are = refl; late = start_in (AllLate k) (λ l ls h. h.1) a late }
start_follows k a late (l ∷ ls) = by (is_blank_line l) (is_start l) (start_follows k a late ls)
  where
    by : {x x' : List RawLine} (b c : Bool) → Starts k x x' → Starts k (cond b x (cond c ls (l ∷ ls))) (cond b x' (cond c (ls ++ a) ((l ∷ ls) ++ a)))
    by true c h = h
    by false true h = record { behind_them = a; are = refl; late = late }
    by false false h = record { behind_them = a; are = refl; late = late }
