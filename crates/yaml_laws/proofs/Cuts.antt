-- What a refusal tells of the lines that a text begins with.
use Rattle.std.proofs.Common.{◌≡◌, ◌≢◌, ℕ, ◌≤◌, ◌<◌, ◌⊎◌, inl, inr, List, ◌++◌, length, take, drop, Option, Some, None, Err, refl, sym, ap, subst, ◌∙◌, arith, length-take}
use Rattle.std.proofs.lemmas.List.{take-append-drop}
use Rattle.yaml_scan.specs.declared.line.RawLine.{RawLine}
use Rattle.yaml_scan.specs.declared.fault.Fault.{Fault}
use Rattle.yaml_scan.specs.declared.fault.Code.TheVariants.{Structure, Limit}
use Rattle.yaml_scan.specs.Codes.{number_of}
use Rattle.yaml_scan.specs.Lines.{lines, line_fault, least}
use Rattle.yaml_tree.specs.declared.node.Node.{Node}
use Rattle.yaml_tree.specs.Spelling.{IsText}
use Rattle.yaml_tree.specs.Tree.{tree}
use Rattle.yaml_tree.proofs.LinesFound.{least_none}
use Rattle.yaml_tree.proofs.TextFound.{text_read}
use Rattle.yaml_laws.specs.Refused.{NoLater, GoesOn, SameLines, MayMove}
use Rattle.yaml_laws.proofs.Walked.{AllIn}
use Rattle.yaml_laws.proofs.WalkedPieces.{OnFault}
use Rattle.yaml_laws.proofs.FollowedScalars.{Late}
use Rattle.yaml_laws.proofs.FollowedLines.{Opened, gone, behind, later, Follows, comes, stays, deeper, closes}
use Rattle.yaml_laws.proofs.Numbers.{Numbered, lines_numbered, numbered_rises, numbered_front, numbered_behind, numbered_below}
use Rattle.yaml_laws.proofs.Whole.{read_lines, in_tree, told, Parts, parts_on, Become, parts_become, err_told, told_err, ok_told}
use Rattle.yaml_laws.proofs.Orders.{less_or_same, no_later_than, both_no_later, least_in, least_left, least_right, least_some}

-- ---- one of the three faults

some_is : (f g : Fault) → Some f ≡ Some g → f ≡ g
some_is f g e = cc

-- a fault that is told behind the first lines
late_is : (k : ℕ) (o : Option Fault) (g : Fault) → OnFault (Late k) o → o ≡ Some g → k < g.line
late_is k (Some h) g l e = subst (λ (z : Fault). k < z.line) (some_is h g e) l
late_is k None g l e = absurd cc

moved : (f g : Fault) → f.code ≡ Structure → g.code ≡ Structure → f.line ≤ g.line → NoLater f g
moved f g c d le = by (less_or_same f.line g.line le)
  where
    by : (f.line < g.line) ⊎ (f.line ≡ g.line) → NoLater f g
    by (inl lt) = inl lt
    by (inr e) = inr (e, let same : number_of f.code ≡ number_of g.code = ap number_of (c ∙ sym d) in omega (arith, same))

open_moves : (k : ℕ) (f h g : Fault) (o : Option Fault) → f.line ≤ k → NoLater f h → h.code ≡ Structure → Opened k h o → o ≡ Some g → NoLater f g
open_moves k f h g None le n c gone e = absurd cc
open_moves k f h g (Some v) le n c (behind lt) e = subst (λ (z : Fault). NoLater f z) (some_is v g e) (inl (omega (arith, lt, le)))
open_moves k f h g (Some v) le n c (later d at) e = subst (λ (z : Fault). NoLater f z) (some_is v g e) (no_later_than f h v n (moved h v c d at))

one_moves : (k : ℕ) (f g : Fault) (a o : Option Fault) → f.line ≤ k → ((h : Fault) → a ≡ Some h → NoLater f h) → Follows k a o → o ≡ Some g → NoLater f g
one_moves k f g a o le n (comes l) e = let lt = late_is k o g l e in inl (omega (arith, lt, le))
one_moves k f g a o le n (stays {f = h}) e = subst (λ (z : Fault). NoLater f z) (some_is h g e) (n h refl)
one_moves k f g a o le n (deeper {g = v} c lt) e = subst (λ (z : Fault). NoLater f z) (some_is v g e) (inl (omega (arith, lt, le)))
one_moves k f g a o le n (closes {f = h} c opened) e = open_moves k f h g o le (n h refl) c opened e

pub one_comes : (k : ℕ) (g : Fault) (a o : Option Fault) → a ≡ None → Follows k a o → o ≡ Some g → k < g.line
one_comes k g a o n (comes l) e = late_is k o g l e
one_comes k g a o n stays e = absurd cc
one_comes k g a o n (deeper c lt) e = absurd cc
one_comes k g a o n (closes c opened) e = absurd cc

one_stays : (k : ℕ) (f : Fault) (a o : Option Fault) → (MayMove f.code → ⊥) → a ≡ Some f → Follows k a o → o ≡ Some f
one_stays k f a o fixed e (comes l) = absurd cc
one_stays k f a o fixed e stays = e
one_stays k f a o fixed e (deeper {f = h} c lt) = absurd (fixed (inr (subst (λ (z : Fault). z.code ≡ Limit) (some_is h f e) c)))
one_stays k f a o fixed e (closes {f = h} c opened) = absurd (fixed (inl (subst (λ (z : Fault). z.code ≡ Structure) (some_is h f e) c)))

pub one_remains : (k : ℕ) (f : Fault) (a o : Option Fault) → f.code ≢ Structure → a ≡ Some f → Follows k a o → o ≡ None → ⊥
one_remains k f a o fixed e (comes l) n = cc
one_remains k f a o fixed e stays n = cc
one_remains k f a o fixed e (deeper c lt) n = cc
one_remains k f a o fixed e (closes {f = h} c opened) n = fixed (subst (λ (z : Fault). z.code ≡ Structure) (some_is h f e) c)

-- a fault that stands in the first lines was one of theirs
open_back : (k : ℕ) (h f : Fault) (o : Option Fault) → f.line ≤ k → Opened k h o → o ≡ Some f → f.code ≡ Structure
open_back k h f None le gone e = absurd cc
open_back k h f (Some v) le (behind lt) e = absurd (let q = subst (λ (z : Fault). k < z.line) (some_is v f e) lt in omega (arith, q, le))
open_back k h f (Some v) le (later d at) e = subst (λ (z : Fault). z.code ≡ Structure) (some_is v f e) d

one_was : (k : ℕ) (f : Fault) (a o : Option Fault) → f.line ≤ k → Follows k a o → o ≡ Some f → (a ≡ Some f) ⊎ (f.code ≡ Structure)
one_was k f a o le (comes l) e = absurd (let q = late_is k o f l e in omega (arith, q, le))
one_was k f a o le stays e = inl e
one_was k f a o le (deeper {g = v} c lt) e = absurd (let q = subst (λ (z : Fault). k < z.line) (some_is v f e) lt in omega (arith, q, le))
one_was k f a o le (closes {f = h} c opened) e = inr (open_back k h f o le opened e)

-- ---- the three faults

-- a fault that is told is one of the three
pub one_of : (ls : List RawLine) (f : Fault) → told ls ≡ Some f → (line_fault ls ≡ Some f) ⊎ (((read_lines ls).fault ≡ Some f) ⊎ (in_tree ls ≡ Some f))
one_of ls f e =
    elim (least_in (line_fault ls) (least (read_lines ls).fault (in_tree ls)) f e) [
      | inl h ↦ inl h
      | inr h ↦ inr (least_in (read_lines ls).fault (in_tree ls) f h)
    ]

-- and comes after none of them
before_each : (ls : List RawLine) (f : Fault) → told ls ≡ Some f → Parts (λ o. (g : Fault) → o ≡ Some g → NoLater f g) ls
before_each ls f e =
    let inner = λ (g : Fault) (h : ((read_lines ls).fault ≡ Some g) ⊎ (in_tree ls ≡ Some g)).
    (let m = least_some (read_lines ls).fault (in_tree ls) g h in
    let n : NoLater f m.0 = least_right (line_fault ls) (least (read_lines ls).fault (in_tree ls)) f m.0 e m.1 in
    no_later_than f m.0 g n (elim h [ inl i ↦ least_left (read_lines ls).fault (in_tree ls) m.0 g m.1 i | inr i ↦ least_right (read_lines ls).fault (in_tree ls) m.0 g m.1 i ])) in
    record {
      alone = λ g i. least_left (line_fault ls) (least (read_lines ls).fault (in_tree ls)) f g e i;
      of_piece = λ g i. inner g (inl i);
      of_tree = λ g i. inner g (inr i);
    }

pub none_of : (ls : List RawLine) → told ls ≡ None → Parts (λ o. o ≡ None) ls
none_of ls e =
    let h = least_none (line_fault ls) (least (read_lines ls).fault (in_tree ls)) e in
    let i = least_none (read_lines ls).fault (in_tree ls) h.1 in
    record { alone = h.0; of_piece = i.0; of_tree = i.1 }

pub some_of : (ls : List RawLine) (g : Fault) → (line_fault ls ≡ Some g) ⊎ (((read_lines ls).fault ≡ Some g) ⊎ (in_tree ls ≡ Some g)) → (f : Fault) × (told ls ≡ Some f)
some_of ls g (inl h) = least_some (line_fault ls) (least (read_lines ls).fault (in_tree ls)) g (inl h)
some_of ls g (inr h) =
    let m = least_some (read_lines ls).fault (in_tree ls) g h in
    least_some (line_fault ls) (least (read_lines ls).fault (in_tree ls)) m.0 (inr m.1)

pub no_later_each : (ls : List RawLine) (f g : Fault) → told ls ≡ Some f → (line_fault ls ≡ Some g) ⊎ (((read_lines ls).fault ≡ Some g) ⊎ (in_tree ls ≡ Some g)) → NoLater f g
no_later_each ls f g e (inl h) = (before_each ls f e).alone g h
no_later_each ls f g e (inr (inl h)) = (before_each ls f e).of_piece g h
no_later_each ls f g e (inr (inr h)) = (before_each ls f e).of_tree g h

pub on_line : (P : ℕ → Type 0) (ls : List RawLine) (f : Fault) → AllIn P ls → told ls ≡ Some f → P f.line
on_line P ls f h e = by (one_of ls f e)
  where
    at : (o : Option Fault) → OnFault P o → o ≡ Some f → P f.line
    at (Some g) p e = subst (λ (z : Fault). P z.line) (some_is g f e) p
    at None p e = absurd cc

    by : (line_fault ls ≡ Some f) ⊎ (((read_lines ls).fault ≡ Some f) ⊎ (in_tree ls ≡ Some f)) → P f.line
    by (inl i) = at (line_fault ls) (parts_on P ls h).alone i
    by (inr (inl i)) = at (read_lines ls).fault (parts_on P ls h).of_piece i
    by (inr (inr i)) = at (in_tree ls) (parts_on P ls h).of_tree i

module _ (k : ℕ) (p q : List RawLine) (early : AllIn (λ m. m ≤ k) p) (become : Become k p q) where
  pub told_moves : (f g : Fault) → told p ≡ Some f → told q ≡ Some g → NoLater f g
  told_moves f g e i =
      let le : f.line ≤ k = on_line (λ m. m ≤ k) p f early e in
      let n = before_each p f e in
      elim (one_of q g i) [
        | inl h ↦ one_moves k f g (line_fault p) (line_fault q) le n.alone become.alone h
        | inr r ↦ elim r [
          | inl h ↦ one_moves k f g (read_lines p).fault (read_lines q).fault le n.of_piece become.of_piece h
          | inr h ↦ one_moves k f g (in_tree p) (in_tree q) le n.of_tree become.of_tree h
        ]
      ]

  pub told_comes : (g : Fault) → told p ≡ None → told q ≡ Some g → k < g.line
  told_comes g e i =
      let n = none_of p e in
      elim (one_of q g i) [
        | inl h ↦ one_comes k g (line_fault p) (line_fault q) n.alone become.alone h
        | inr r ↦ elim r [
          | inl h ↦ one_comes k g (read_lines p).fault (read_lines q).fault n.of_piece become.of_piece h
          | inr h ↦ one_comes k g (in_tree p) (in_tree q) n.of_tree become.of_tree h
        ]
      ]

  -- one of the three stays
  each_stays : (f : Fault) → (MayMove f.code → ⊥) → (line_fault p ≡ Some f) ⊎ (((read_lines p).fault ≡ Some f) ⊎ (in_tree p ≡ Some f))
      → (line_fault q ≡ Some f) ⊎ (((read_lines q).fault ≡ Some f) ⊎ (in_tree q ≡ Some f))
  each_stays f fixed (inl h) = inl (one_stays k f (line_fault p) (line_fault q) fixed h become.alone)
  each_stays f fixed (inr (inl h)) = inr (inl (one_stays k f (read_lines p).fault (read_lines q).fault fixed h become.of_piece))
  each_stays f fixed (inr (inr h)) = inr (inr (one_stays k f (in_tree p) (in_tree q) fixed h become.of_tree))

  each_remains : (f : Fault) → f.code ≢ Structure → (line_fault p ≡ Some f) ⊎ (((read_lines p).fault ≡ Some f) ⊎ (in_tree p ≡ Some f)) → told q ≡ None → ⊥
  each_remains f fixed (inl h) n = one_remains k f (line_fault p) (line_fault q) fixed h become.alone (none_of q n).alone
  each_remains f fixed (inr (inl h)) n = one_remains k f (read_lines p).fault (read_lines q).fault fixed h become.of_piece (none_of q n).of_piece
  each_remains f fixed (inr (inr h)) n = one_remains k f (in_tree p) (in_tree q) fixed h become.of_tree (none_of q n).of_tree

  pub each_was : (f : Fault) → f.line ≤ k → (line_fault q ≡ Some f) ⊎ (((read_lines q).fault ≡ Some f) ⊎ (in_tree q ≡ Some f))
      → ((line_fault p ≡ Some f) ⊎ (((read_lines p).fault ≡ Some f) ⊎ (in_tree p ≡ Some f))) ⊎ (f.code ≡ Structure)
  each_was f le (inl h) = elim (one_was k f (line_fault p) (line_fault q) le become.alone h) [ inl i ↦ inl (inl i) | inr i ↦ inr i ]
  each_was f le (inr (inl h)) = elim (one_was k f (read_lines p).fault (read_lines q).fault le become.of_piece h) [ inl i ↦ inl (inr (inl i)) | inr i ↦ inr i ]
  each_was f le (inr (inr h)) = elim (one_was k f (in_tree p) (in_tree q) le become.of_tree h) [ inl i ↦ inl (inr (inr i)) | inr i ↦ inr i ]

  pub told_stays : (f : Fault) → (MayMove f.code → ⊥) → told p ≡ Some f → told q ≡ Some f
  told_stays f fixed e =
      let h = each_stays f fixed (one_of p f e) in
      let g = some_of q f h in
      g.1 ∙ ap (λ (z : Fault). Some z) (both_no_later g.0 f (no_later_each q g.0 f g.1 h) (told_moves f g.0 e g.1))

  pub told_remains : (f : Fault) → f.code ≢ Structure → told p ≡ Some f → told q ≡ None → ⊥
  told_remains f fixed e n = each_remains f fixed (one_of p f e) n

-- ---- two texts with the same first lines

module _ (k : ℕ) (p a b : List RawLine) (early : AllIn (λ m. m ≤ k) p) (left : Become k p (p ++ a)) (right : Become k p (p ++ b)) where
  -- a fault of the first lines that no lines behind them change
  both_have : (f : Fault) → (MayMove f.code → ⊥) → f.line ≤ k → told (p ++ a) ≡ Some f
      → (line_fault (p ++ b) ≡ Some f) ⊎ (((read_lines (p ++ b)).fault ≡ Some f) ⊎ (in_tree (p ++ b) ≡ Some f))
  both_have f fixed le e =
      elim (each_was k p (p ++ a) early left f le (one_of (p ++ a) f e)) [
        | inl h ↦ each_stays k p (p ++ b) early right f fixed h
        | inr c ↦ absurd (fixed (inl c))
      ]

  pub told_lost : (f : Fault) → f.code ≢ Structure → f.line ≤ k → told (p ++ a) ≡ Some f → told (p ++ b) ≡ None → ⊥
  told_lost f fixed le e n =
      elim (each_was k p (p ++ a) early left f le (one_of (p ++ a) f e)) [
        | inl h ↦ each_remains k p (p ++ b) early right f fixed h n
        | inr c ↦ fixed c
      ]

  -- a fault of the second that stands before, or is the same
  other_fault : (f g : Fault) → told (p ++ a) ≡ Some f → NoLater g f → (x y : Option Fault) → Follows k x y → ((h : Fault) → y ≡ Some h → NoLater f h) → x ≡ Some g → (g ≡ f) ⊎ MayMove g.code
  other_fault f g e n x y (comes l) each i = absurd cc
  other_fault f g e n x y (stays {f = h}) each i = inl (both_no_later g f n (each g i))
  other_fault f g e n x y (deeper {f = h} c lt) each i = inr (inr (subst (λ (z : Fault). z.code ≡ Limit) (some_is h g i) c))
  other_fault f g e n x y (closes {f = h} c opened) each i = inr (inl (subst (λ (z : Fault). z.code ≡ Structure) (some_is h g i) c))

  pub told_place : (f g : Fault) → (MayMove f.code → ⊥) → f.line ≤ k → told (p ++ a) ≡ Some f → told (p ++ b) ≡ Some g → (g ≡ f) ⊎ (NoLater g f × MayMove g.code)
  told_place f g fixed le e i =
      let n : NoLater g f = no_later_each (p ++ b) g f i (both_have f fixed le e) in
      let at : g.line ≤ k = elim n [ inl lt ↦ omega (arith, lt, le) | inr q ↦ let same = q.0 in omega (arith, same, le) ] in
      let each = before_each (p ++ a) f e in
      let so : (g ≡ f) ⊎ MayMove g.code =
      elim (each_was k p (p ++ b) early right g at (one_of (p ++ b) g i)) [
        | inl h ↦ elim h [
          | inl j ↦ other_fault f g e n (line_fault p) (line_fault (p ++ a)) left.alone each.alone j
          | inr r ↦ elim r [
            | inl j ↦ other_fault f g e n (read_lines p).fault (read_lines (p ++ a)).fault left.of_piece each.of_piece j
            | inr j ↦ other_fault f g e n (in_tree p) (in_tree (p ++ a)) left.of_tree each.of_tree j
          ]
        ]
        | inr c ↦ inr (inl c)
      ] in
      elim so [ inl same ↦ inl same | inr m ↦ inr (n, m) ]

-- ---- texts

-- lines that are numbered from 1 on, and those behind the first of them
pub numbered_become : (p a : List RawLine) → Numbered 1 (p ++ a) → Become (length p) p (p ++ a)
numbered_become p a h =
    parts_become (length p) p a (numbered_below 1 (length p) p (omega arith) (numbered_front 1 p a h)) (numbered_rises 1 p (numbered_front 1 p a h)) (numbered_behind 1 (length p) p a (omega arith) h)

pub early_lines : (p a : List RawLine) → Numbered 1 (p ++ a) → AllIn (λ m. m ≤ length p) p
early_lines p a h = numbered_below 1 (length p) p (omega arith) (numbered_front 1 p a h)

pub all_numbered : (text : List ℕ) (ls : List RawLine) → lines text ≡ ls → Numbered 1 ls
all_numbered text ls e = subst (λ (x : List RawLine). Numbered 1 x) e (lines_numbered text)

pub told_text : (text : List ℕ) (ls : List RawLine) (f : Fault) → lines text ≡ ls → tree text ≡ Err f → told ls ≡ Some f
told_text text ls f e i = ap told (sym e) ∙ err_told (lines text) f i

pub read_text : (text : List ℕ) (ls : List RawLine) (root : Node) → lines text ≡ ls → IsText text root → told ls ≡ None
read_text text ls root e t = ap told (sym e) ∙ ok_told (lines text) root (text_read text root t)

pub what_follows_moves : (text other : List ℕ) (f g : Fault) → GoesOn text other → tree text ≡ Err f → tree other ≡ Err g → NoLater f g
what_follows_moves text other f g o e i =
    let h = all_numbered other (lines text ++ o.0) o.1 in
    told_moves (length (lines text)) (lines text) (lines text ++ o.0) (early_lines (lines text) o.0 h) (numbered_become (lines text) o.0 h) f g (err_told (lines text) f e) (told_text other (lines text ++ o.0) g o.1 i)

pub what_follows_comes : (text other : List ℕ) (root : Node) (g : Fault) → GoesOn text other → IsText text root → tree other ≡ Err g → length (lines text) < g.line
what_follows_comes text other root g o t i =
    let h = all_numbered other (lines text ++ o.0) o.1 in
    told_comes (length (lines text)) (lines text) (lines text ++ o.0) (early_lines (lines text) o.0 h) (numbered_become (lines text) o.0 h) g (read_text text (lines text) root refl t) (told_text other (lines text ++ o.0) g o.1 i)

pub refusal_stands : (text other : List ℕ) (f : Fault) → GoesOn text other → tree text ≡ Err f → (MayMove f.code → ⊥) → tree other ≡ Err f
refusal_stands text other f o e fixed =
    let h = all_numbered other (lines text ++ o.0) o.1 in
    told_err (lines other) f (ap told o.1 ∙ told_stays (length (lines text)) (lines text) (lines text ++ o.0) (early_lines (lines text) o.0 h) (numbered_become (lines text) o.0 h) f fixed (err_told (lines text) f e))

-- the first lines, and those behind them
pub cut : (n : ℕ) (ls : List RawLine) → ls ≡ take n ls ++ drop n ls
cut n ls = sym (take-append-drop n ls)

pub cut_same : (n : ℕ) (text other : List ℕ) → SameLines n text other → lines other ≡ take n (lines text) ++ drop n (lines other)
cut_same n text other s = cut n (lines other) ∙ ap (λ (x : List RawLine). x ++ drop n (lines other)) (sym s)

-- the line of a fault is one of the text's
pub on_a_line : (text : List ℕ) (f : Fault) → tree text ≡ Err f → f.line ≤ length (lines text)
on_a_line text f e = on_line (λ m. m ≤ length (lines text)) (lines text) f (numbered_below 1 (length (lines text)) (lines text) (omega arith) (lines_numbered text)) (err_told (lines text) f e)

pub lost_text : (text other : List ℕ) (f : Fault) (root : Node) → SameLines f.line text other → tree text ≡ Err f → f.code ≢ Structure → IsText other root → ⊥
lost_text text other f root s e fixed t =
    let n : ℕ = f.line in
    let p : List RawLine = take n (lines text) in
    let a : List RawLine = drop n (lines text) in
    let b : List RawLine = drop n (lines other) in
    let h = all_numbered text (p ++ a) (cut n (lines text)) in
    let h' = all_numbered other (p ++ b) (cut_same n text other s) in
    let le = on_a_line text f e in
    told_lost (length p) p a b (early_lines p a h) (numbered_become p a h) (numbered_become p b h') f fixed (omega (arith, le, length-take n (lines text)))
    (told_text text (p ++ a) f (cut n (lines text)) e) (read_text other (p ++ b) root (cut_same n text other s) t)

pub same_place : (text other : List ℕ) (f g : Fault) → SameLines f.line text other → tree text ≡ Err f → (MayMove f.code → ⊥) → tree other ≡ Err g → (g ≡ f) ⊎ (NoLater g f × MayMove g.code)
same_place text other f g s e fixed i =
    let n : ℕ = f.line in
    let p : List RawLine = take n (lines text) in
    let a : List RawLine = drop n (lines text) in
    let b : List RawLine = drop n (lines other) in
    let h = all_numbered text (p ++ a) (cut n (lines text)) in
    let h' = all_numbered other (p ++ b) (cut_same n text other s) in
    let le = on_a_line text f e in
    told_place (length p) p a b (early_lines p a h) (numbered_become p a h) (numbered_become p b h') f g fixed (omega (arith, le, length-take n (lines text)))
    (told_text text (p ++ a) f (cut n (lines text)) e) (told_text other (p ++ b) g (cut_same n text other s) i)
