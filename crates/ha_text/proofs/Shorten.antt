-- A line that no LF ends yet may be shortened: none of its lines changes, whatever follows.
use Rattle.std.proofs.Common.{◌≡◌, ℕ, ◌+◌, ◌-◌, ◌≤◌, ◌<◌, Bool, true, false, cond, not, ◌&&◌, List, [], ◌∷◌, ◌++◌, length, take, drop, refl, sym, ap, subst, ◌∙◌, append_assoc, length-append, length-drop, length-take, arith, get_or}
use Rattle.std.specs.Prelude.{◌==◌}
use Rattle.std.specs.List.{list_all}
use Rattle.std.proofs.lemmas.Bool.{eqb-true}
use Rattle.std.proofs.lemmas.List.{append-nil, drop-append-le, take-append-le, take_all, take_more, length-take-le}
use Rattle.std.proofs.Math.Seq.{take-add, drop-append_seam, drop-append-add}
use Rattle.std.proofs.lemmas.List.Folds.{list_all-append, drop_split}
use Rattle.ha_text.specs.Lines.{NoBreak, IsFront, is_open, longest, counted, is_blank, without_cr, whole_from, whole_lines, lines_from, lines_of, SameLines}
use Rattle.ha_value.proofs.ReturnLemmas.{cr_dropped, no_cr}
use Rattle.ha_text.proofs.LineLemmas.{whole_none}

-- ---- lines behind a front

-- bytes without a LF go on with the line
pub lines_front : (line p more : List ℕ) → NoBreak p → lines_from line (p ++ more) ≡ lines_from (line ++ p) more
unfolding lines_from
lines_front line [] more h = ap (λ (l : List ℕ). lines_from l more) (sym (append-nil line))
lines_front line (b ∷ p) more h = rw h.0 (lines_front (line ++ b ∷ []) p more h.1 ∙ ap (λ (l : List ℕ). lines_from l more) (append_assoc line (b ∷ []) p))

-- what gives the same lines behind every line gives them behind every text
pub lines_behind_text : (w r s line : List ℕ) → ((l : List ℕ) → lines_from l r ≡ lines_from l s) → lines_from line (w ++ r) ≡ lines_from line (w ++ s)
unfolding lines_from
lines_behind_text [] r s line f = f line
lines_behind_text (b ∷ w) r s line f =
    elim (b == 10) as (λ t. cond t (counted (without_cr line) ++ lines_from [] (w ++ r)) (lines_from (line ++ b ∷ []) (w ++ r)) ≡ cond t (counted (without_cr line) ++ lines_from [] (w ++ s)) (lines_from (line ++ b ∷ []) (w ++ s))) [
      | true ↦ ap (λ (l : List (List ℕ)). counted (without_cr line) ++ l) (lines_behind_text w r s [] f)
      | false ↦ lines_behind_text w r s (line ++ b ∷ []) f
    ]

-- ---- two lines that are kept alike: they have their first bytes in common, both are blank behind these or neither is, and their last byte is the same

blank_more : (b c : List ℕ) (x : ℕ) → list_all is_blank b ≡ list_all is_blank c → list_all is_blank (b ++ x ∷ []) ≡ list_all is_blank (c ++ x ∷ [])
blank_more b c x e = list_all-append is_blank b (x ∷ []) ∙ ap (λ (t : Bool). t && list_all is_blank (x ∷ [])) e ∙ sym (list_all-append is_blank c (x ∷ []))

counted_alike : (a b c : List ℕ) → longest ≤ length a → list_all is_blank b ≡ list_all is_blank c → counted (a ++ b) ≡ counted (a ++ c)
unfolding counted
counted_alike a b c long e =
    let blank : list_all is_blank (a ++ b) ≡ list_all is_blank (a ++ c) = list_all-append is_blank a b ∙ ap (λ (t : Bool). list_all is_blank a && t) e ∙ sym (list_all-append is_blank a c) in
    let kept : take longest (a ++ b) ≡ take longest (a ++ c) = take-append-le longest a b long ∙ sym (take-append-le longest a c long) in
    (λ i. cond (blank i) [] (kept i ∷ []))

counted_last : (a b c : List ℕ) (x : ℕ) → longest ≤ length a → list_all is_blank b ≡ list_all is_blank c → counted ((a ++ b) ++ x ∷ []) ≡ counted ((a ++ c) ++ x ∷ [])
counted_last a b c x long e = ap counted (append_assoc a b (x ∷ [])) ∙ counted_alike a (b ++ x ∷ []) (c ++ x ∷ []) long (blank_more b c x e) ∙ sym (ap counted (append_assoc a c (x ∷ [])))

ended_alike : (a b c : List ℕ) (x : ℕ) → longest ≤ length a → list_all is_blank b ≡ list_all is_blank c → counted (without_cr ((a ++ b) ++ x ∷ [])) ≡ counted (without_cr ((a ++ c) ++ x ∷ []))
ended_alike a b c x long e = by (x == 13) refl
  where
    by : (t : Bool) → (x == 13) ≡ t → counted (without_cr ((a ++ b) ++ x ∷ [])) ≡ counted (without_cr ((a ++ c) ++ x ∷ []))
    by true h =
        let cr : x ≡ 13 = eqb-true x 13 h in
        ap counted (ap (λ (y : ℕ). without_cr ((a ++ b) ++ y ∷ [])) cr ∙ cr_dropped (a ++ b)) ∙ counted_alike a b c long e ∙ sym (ap counted (ap (λ (y : ℕ). without_cr ((a ++ c) ++ y ∷ [])) cr ∙ cr_dropped (a ++ c)))
    by false h = ap counted (no_cr (a ++ b) x h) ∙ counted_last a b c x long e ∙ sym (ap counted (no_cr (a ++ c) x h))

pub lines_alike : (a b c : List ℕ) (x : ℕ) (more : List ℕ) → longest ≤ length a → list_all is_blank b ≡ list_all is_blank c → lines_from ((a ++ b) ++ x ∷ []) more ≡ lines_from ((a ++ c) ++ x ∷ []) more
unfolding lines_from
lines_alike a b c x [] long e = counted_last a b c x long e
lines_alike a b c x (y ∷ more) long e =
    let again : lines_from (((a ++ b) ++ x ∷ []) ++ y ∷ []) more ≡ lines_from (((a ++ c) ++ x ∷ []) ++ y ∷ []) more =
    ap (λ (l : List ℕ). lines_from (l ++ y ∷ []) more) (append_assoc a b (x ∷ [])) ∙ lines_alike a (b ++ x ∷ []) (c ++ x ∷ []) y more long (blank_more b c x e) ∙ sym (ap (λ (l : List ℕ). lines_from (l ++ y ∷ []) more) (append_assoc a c (x ∷ []))) in
    elim (y == 10) as (λ t. cond t (counted (without_cr ((a ++ b) ++ x ∷ [])) ++ lines_from [] more) (lines_from (((a ++ b) ++ x ∷ []) ++ y ∷ []) more) ≡ cond t (counted (without_cr ((a ++ c) ++ x ∷ [])) ++ lines_from [] more) (lines_from (((a ++ c) ++ x ∷ []) ++ y ∷ []) more)) [
      | true ↦ ap (λ (l : List (List ℕ)). l ++ lines_from [] more) (ended_alike a b c x long e)
      | false ↦ again
    ]

-- ---- lines without a LF, by test

pub open_line : (line : List ℕ) → is_open line ≡ true → NoBreak line
open_line [] h = tt
open_line (b ∷ line) h = by (b == 10) refl h (open_line line)
  where
    by : (t : Bool) → (b == 10) ≡ t → (not t && is_open line) ≡ true → (is_open line ≡ true → NoBreak line) → NoBreak (b ∷ line)
    by true e g more = absurd cc
    by false e g more = (e, more g)

pub open_test : (line : List ℕ) → NoBreak line → is_open line ≡ true
open_test [] h = refl
open_test (b ∷ line) h = rw h.0 (open_test line h.1)

pub open_front : (a b : List ℕ) → NoBreak (a ++ b) → NoBreak a
open_front [] b h = tt
open_front (x ∷ a) b h = (h.0, open_front a b h.1)

pub open_behind : (a b : List ℕ) → NoBreak (a ++ b) → NoBreak b
open_behind [] b h = h
open_behind (x ∷ a) b h = open_behind a b h.1

pub open_both : (a b : List ℕ) → NoBreak a → NoBreak b → NoBreak (a ++ b)
open_both [] b g h = h
open_both (x ∷ a) b g h = (g.0, open_both a b g.1 h)

-- ---- a text whose last line is shortened

-- the line a ++ b ++ x, which may become a ++ c ++ x
pub shortened : (p a b c : List ℕ) (x start : ℕ) → start ≤ length p → longest ≤ length a → NoBreak ((a ++ b) ++ x ∷ []) → NoBreak ((a ++ c) ++ x ∷ []) → list_all is_blank c ≡ list_all is_blank b
    → SameLines (drop start (p ++ ((a ++ c) ++ x ∷ []))) (drop start (p ++ ((a ++ b) ++ x ∷ [])))
shortened p a b c x start at long old new e more =
    let w = drop start p in
    let r = (a ++ c) ++ x ∷ [] in
    let s = (a ++ b) ++ x ∷ [] in
    let fit : (l y z : List ℕ) → l ++ ((y ++ z) ++ x ∷ []) ≡ ((l ++ y) ++ z) ++ x ∷ [] = λ l y z. sym (append_assoc l (y ++ z) (x ∷ [])) ∙ ap (λ (t : List ℕ). t ++ x ∷ []) (sym (append_assoc l y z)) in
    let each : (l : List ℕ) → lines_from l (r ++ more) ≡ lines_from l (s ++ more) = λ l.
    lines_front l r more new ∙ ap (λ (t : List ℕ). lines_from t more) (fit l a c) ∙ lines_alike (l ++ a) c b x more (omega (arith, length-append l a)) e
    ∙ sym (ap (λ (t : List ℕ). lines_from t more) (fit l a b)) ∙ sym (lines_front l s more old) in
    ap (λ (t : List ℕ). lines_of (t ++ more)) (drop-append-le start p r at) ∙ ap lines_of (append_assoc w r more) ∙ lines_behind_text w (r ++ more) (s ++ more) [] each
    ∙ sym (ap lines_of (append_assoc w s more)) ∙ sym (ap (λ (t : List ℕ). lines_of (t ++ more)) (drop-append-le start p s at))

-- ---- a front that ends before the line that no LF ends yet

whole_open : (line t p : List ℕ) → NoBreak p → whole_from line (t ++ p) ≡ whole_from line t
unfolding whole_from
whole_open line [] p h = whole_none line p h
whole_open line (b ∷ t) p h =
    elim (b == 10) as (λ s. cond s (counted (without_cr line) ++ whole_from [] (t ++ p)) (whole_from (line ++ b ∷ []) (t ++ p)) ≡ cond s (counted (without_cr line) ++ whole_from [] t) (whole_from (line ++ b ∷ []) t)) [
      | true ↦ ap (λ (l : List (List ℕ)). counted (without_cr line) ++ l) (whole_open [] t p h)
      | false ↦ whole_open (line ++ b ∷ []) t p h
    ]

front_then : (text last : List ℕ) (kept : List (List ℕ)) (long : ℕ) → NoBreak last → IsFront text kept long → IsFront (text ++ last) kept long
front_then text last kept long h f =
    let tail : drop long (text ++ last) ≡ drop long text ++ last = drop-append-le long text last f.within in
    record {
      within = omega (arith, f.within, length-append text last);
      some = f.some;
      lines = λ more. ap lines_of (append_assoc text last more) ∙ f.lines (last ++ more) ∙ ap (λ (t : List ℕ). kept ++ lines_of t) (sym (append_assoc (drop long text) last more)) ∙ ap (λ (t : List ℕ). kept ++ lines_of (t ++ more)) (sym tail);
      whole = whole_open [] text last h ∙ f.whole ∙ ap (λ (l : List (List ℕ)). kept ++ l) (sym (whole_open [] (drop long text) last h)) ∙ ap (λ (t : List ℕ). kept ++ whole_lines t) (sym tail);
    }

-- the slice from a place on up to another
pub slice_between : (now items : List ℕ) (start begun : ℕ) → now ≡ items → start ≤ begun → begun ≤ length items → drop start items ≡ take (begun - start) (drop start now) ++ drop begun items
slice_between now items start begun e order fits = drop_split items start begun order ∙ ap (λ (t : List ℕ). take (begun - start) (drop start t) ++ drop begun items) (sym e)

pub front_whole : (now items : List ℕ) (start begun : ℕ) (kept : List (List ℕ)) (long : ℕ) → now ≡ items → start ≤ begun → begun ≤ length items → is_open (drop begun items) ≡ true
    → IsFront (take (begun - start) (drop start now)) kept long → IsFront (drop start items) kept long × (start + long ≤ begun)
front_whole now items start begun kept long e order fits last f =
    let split = slice_between now items start begun e order fits in (
      subst (λ (t : List ℕ). IsFront t kept long) (sym split) (front_then (take (begun - start) (drop start now)) (drop begun items) kept long (open_line (drop begun items) last) f),
      omega (arith, f.within, length-take (begun - start) (drop start now)),
    )

pub none_whole : (now items : List ℕ) (start begun : ℕ) → now ≡ items → start ≤ begun → begun ≤ length items → is_open (drop begun items) ≡ true
    → NoBreak (take (begun - start) (drop start now)) → NoBreak (drop start items)
none_whole now items start begun e order fits last f =
    subst NoBreak (sym (slice_between now items start begun e order fits)) (open_both (take (begun - start) (drop start now)) (drop begun items) f (open_line (drop begun items) last))

-- ---- the bytes that are held

pub append_open : (old piece new : List ℕ) (before behind : ℕ) → new ≡ old ++ piece → before ≡ length old → is_open (drop behind piece) ≡ true → is_open (drop (before + behind) new) ≡ true
append_open old piece new before behind e long h =
    ap (λ (n : ℕ). is_open (drop (n + behind) new)) long ∙ ap (λ (t : List ℕ). is_open (drop (length old + behind) t)) e ∙ ap is_open (drop-append-add old piece behind) ∙ h

-- what the parts of the held bytes are: those before the line, its kept front, those between, and the last one
parts_of : (items : List ℕ) (begun front last x : ℕ) → front ≡ begun + longest → last + 1 ≡ length items → front ≤ last
    → items ≡ take begun items ++ ((take longest (drop begun items) ++ take (last - front) (drop front items)) ++ get_or items last x ∷ [])
parts_of items begun front last x f l order =
    let head : take front items ≡ take begun items ++ take longest (drop begun items) = ap (λ (n : ℕ). take n items) f ∙ take-add begun longest items in
    let split : front + (last - front) ≡ last = omega arith in
    let middle : take last items ≡ take front items ++ take (last - front) (drop front items) = sym (ap (λ (n : ℕ). take n items) split) ∙ take-add front (last - front) items in
    let all : take (last + 1) items ≡ items = take_all (last + 1) items (omega arith) in
    sym all ∙ take_more items last x (omega arith) ∙ ap (λ (t : List ℕ). t ++ get_or items last x ∷ []) (middle ∙ ap (λ (t : List ℕ). t ++ take (last - front) (drop front items)) head)
    ∙ ap (λ (t : List ℕ). t ++ get_or items last x ∷ []) (append_assoc (take begun items) (take longest (drop begun items)) (take (last - front) (drop front items)))
    ∙ append_assoc (take begun items) (take longest (drop begun items) ++ take (last - front) (drop front items)) (get_or items last x ∷ [])

new_parts : (items : List ℕ) (begun front mark x : ℕ) → front ≡ begun + longest
    → take front items ++ mark ∷ x ∷ [] ≡ take begun items ++ ((take longest (drop begun items) ++ mark ∷ []) ++ x ∷ [])
new_parts items begun front mark x f =
    let head : take front items ≡ take begun items ++ take longest (drop begun items) = ap (λ (n : ℕ). take n items) f ∙ take-add begun longest items in
    ap (λ (t : List ℕ). t ++ mark ∷ x ∷ []) head ∙ append_assoc (take begun items) (take longest (drop begun items)) (mark ∷ x ∷ []) ∙ ap (λ (t : List ℕ). take begun items ++ t) (sym (append_assoc (take longest (drop begun items)) (mark ∷ []) (x ∷ [])))

pub record IsShortened (view items : List ℕ) (start begun : ℕ) (new : List ℕ) : Type 0 where
  pub same : SameLines (drop start new) view
  pub fits : begun ≤ length new
  pub last : is_open (drop begun new) ≡ true

blank_one : (mark : ℕ) (t : Bool) → is_blank mark ≡ t → list_all is_blank (mark ∷ []) ≡ t
blank_one mark t e = ap (λ (b : Bool). b && true) e ∙ by t
  where
    by : (t : Bool) → (t && true) ≡ t
    by true = refl
    by false = refl

pub shortened_held : (view items now new : List ℕ) (start begun n front last mark x : ℕ) → view ≡ drop start items → start ≤ begun → begun ≤ length items → is_open (drop begun items) ≡ true
    → n ≡ longest → front ≡ begun + n → last + 1 ≡ length items → front < last → now ≡ items → is_blank mark ≡ list_all is_blank (take (last - front) (drop front now)) → (mark == 10) ≡ false
    → x ≡ get_or items last x → new ≡ take front items ++ mark ∷ x ∷ [] → IsShortened view items start begun new
shortened_held view items now new start begun n front last mark x seen order fits free same_n f0 l past e blank mark_free x_is new_is =
    let f : front ≡ begun + longest = f0 ∙ ap (λ (k : ℕ). begun + k) same_n in
    let p = take begun items in
    let a = take longest (drop begun items) in
    let b = take (last - front) (drop front items) in
    let long_p : length p ≡ begun = length-take-le begun items fits in
    let long_a : length a ≡ longest = length-take-le longest (drop begun items) (omega (arith, length-drop begun items)) in
    let parts = parts_of items begun front last x f l (omega arith) in
    let parts_x : items ≡ p ++ ((a ++ b) ++ x ∷ []) = parts ∙ ap (λ (y : ℕ). p ++ ((a ++ b) ++ y ∷ [])) (sym x_is) in
    let news : new ≡ p ++ ((a ++ mark ∷ []) ++ x ∷ []) = new_is ∙ new_parts items begun front mark x f in
    let seam : (r : List ℕ) → drop begun (p ++ r) ≡ r = λ r. ap (λ (k : ℕ). drop k (p ++ r)) (sym long_p) ∙ drop-append_seam p r in
    let old_line : NoBreak ((a ++ b) ++ x ∷ []) = subst NoBreak (ap (drop begun) parts_x ∙ seam ((a ++ b) ++ x ∷ [])) (open_line (drop begun items) free) in
    let new_line : NoBreak ((a ++ mark ∷ []) ++ x ∷ []) = open_both (a ++ mark ∷ []) (x ∷ []) (open_both a (mark ∷ []) (open_front a b (open_front (a ++ b) (x ∷ []) old_line)) (mark_free, tt)) (open_behind (a ++ b) (x ∷ []) old_line) in
    let blanks : list_all is_blank (mark ∷ []) ≡ list_all is_blank b = blank_one mark (list_all is_blank b) (blank ∙ ap (λ (t : List ℕ). list_all is_blank (take (last - front) (drop front t))) e) in
    record {
      same = λ more. ap (λ (t : List ℕ). lines_of (drop start t ++ more)) news ∙ shortened p a b (mark ∷ []) x start (omega arith) (omega arith) old_line new_line blanks more ∙ sym (ap (λ (t : List ℕ). lines_of (t ++ more)) (seen ∙ ap (drop start) parts_x));
      fits = omega (arith, ap length news, length-append p ((a ++ mark ∷ []) ++ x ∷ []));
      last = ap is_open (ap (drop begun) news ∙ seam ((a ++ mark ∷ []) ++ x ∷ [])) ∙ open_test ((a ++ mark ∷ []) ++ x ∷ []) new_line;
    }
