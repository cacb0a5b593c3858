-- Texts cut at their first LF.
use Rattle.std.proofs.Common.{◌≡◌, ℕ, suc, ◌+◌, ◌-◌, ◌≤◌, ◌<◌, Bool, true, false, cond, not, ◌⊎◌, List, [], ◌∷◌, ◌++◌, length, min, take, drop, Some, None, refl, sym, ap, subst, ◌∙◌, append_assoc, length-append, length-drop, arith, inl, inr}
use Rattle.std.specs.Prelude.{◌==◌, nat_lt}
use Rattle.std.specs.List.{list_all, position, position_or_len}
use Rattle.std.proofs.lemmas.Bool.{eqb-true, ltb-true, ltb-false}
use Rattle.std.proofs.lemmas.Grind.{common_steps}
use Rattle.std.proofs.lemmas.List.{append-nil, drop-drop}
use Rattle.std.proofs.Math.Seq.{take-append_seam, drop-append_seam}
use Rattle.ha_text.specs.Lines.{NoBreak, IsFront, IsNone, IsTaken, longest, counted, is_blank, without_cr, whole_from, whole_lines, lines_from, lines_of, SameLines}

abbrev pub is_break : ℕ → Bool
is_break b = b == 10

-- the first LF stands at this place
pub record IsBreak (text : List ℕ) (at : ℕ) : Type 0 where
  pub line : List ℕ
  pub behind : List ℕ
  pub parts : text ≡ line ++ 10 ∷ behind
  pub free : NoBreak line
  pub long : length line ≡ at

chosen_is : (b : Bool) → (b ≡ true) ⊎ (b ≡ false)
chosen_is true = inl refl
chosen_is false = inr refl

found_at : (text : List ℕ) → position_or_len is_break text < length text → IsBreak text (position_or_len is_break text)
found_at [] h = absurd (omega arith)
found_at (b ∷ text) h = go (is_break b) refl (found_at text) h where
  go : (c : Bool) → is_break b ≡ c → (position_or_len is_break text < length text → IsBreak text (position_or_len is_break text)) → cond (not c) (1 + position_or_len is_break text) 0 < suc (length text)
      → IsBreak (b ∷ text) (cond (not c) (1 + position_or_len is_break text) 0)
  go true e more h = record { line = []; behind = text; parts = ap (λ (x : ℕ). x ∷ text) (eqb-true b 10 e); free = tt; long = refl }
  go false e more h =
      let l = more (omega arith) in
      record { line = b ∷ l.line; behind = l.behind; parts = ap (λ (r : List ℕ). b ∷ r) l.parts; free = (e, l.free); long = omega (arith, l.long) }

none_at : (text : List ℕ) → length text ≤ position_or_len is_break text → NoBreak text
none_at [] h = tt
none_at (b ∷ text) h = go (is_break b) refl (none_at text) h where
  go : (c : Bool) → is_break b ≡ c → (length text ≤ position_or_len is_break text → NoBreak text) → suc (length text) ≤ cond (not c) (1 + position_or_len is_break text) 0 → NoBreak (b ∷ text)
  go true e more h = absurd (omega arith)
  go false e more h = (e, more (omega arith))

by_place : (n m at : ℕ) (c : Bool) → nat_lt n m ≡ c → cond c (Some n) None ≡ Some at → (n < m) × (n ≡ at)
by_place n m at true e h = (ltb-true n m e, (let k : n ≡ at = cc in k))
by_place n m at false e h = absurd cc

by_none : (n m : ℕ) (c : Bool) → nat_lt n m ≡ c → cond c (Some n) None ≡ None → m ≤ n
by_none n m true e h = absurd cc
by_none n m false e h = ltb-false n m e

-- what the search for a LF found
pub break_at : (text : List ℕ) (at : ℕ) → position is_break text ≡ Some at → IsBreak text at
break_at text at e =
    let p = by_place (position_or_len is_break text) (length text) at (nat_lt (position_or_len is_break text) (length text)) refl e in
    subst (λ (n : ℕ). IsBreak text n) p.1 (found_at text p.0)

pub no_break : (text : List ℕ) → position is_break text ≡ None → NoBreak text
no_break text e = none_at text (by_none (position_or_len is_break text) (length text) (nat_lt (position_or_len is_break text) (length text)) refl e)

pub break_line : (text : List ℕ) (at : ℕ) (b : IsBreak text at) → take at text ≡ b.line
break_line text at b = ap (λ (n : ℕ). take n text) (sym b.long) ∙ ap (take (length b.line)) b.parts ∙ take-append_seam b.line (10 ∷ b.behind)

pub break_behind : (text : List ℕ) (at : ℕ) (b : IsBreak text at) → drop 1 (drop at text) ≡ b.behind
break_behind text at b = ap (λ (n : ℕ). drop 1 (drop n text)) (sym b.long) ∙ ap (λ (t : List ℕ). drop 1 (drop (length b.line) t)) b.parts ∙ ap (drop 1) (drop-append_seam b.line (10 ∷ b.behind))

-- ---- lines of a text that is cut there

pub whole_cut : (front line text : List ℕ) → NoBreak line → whole_from front (line ++ 10 ∷ text) ≡ counted (without_cr (front ++ line)) ++ whole_lines text
unfolding whole_from
whole_cut front [] text h = ap (λ (l : List ℕ). counted (without_cr l) ++ whole_from [] text) (sym (append-nil front))
whole_cut front (b ∷ line) text h = rw h.0 (whole_cut (front ++ b ∷ []) line text h.1 ∙ ap (λ (l : List ℕ). counted (without_cr l) ++ whole_from [] text) (append_assoc front (b ∷ []) line))

pub lines_cut : (front line text : List ℕ) → NoBreak line → lines_from front (line ++ 10 ∷ text) ≡ counted (without_cr (front ++ line)) ++ lines_of text
unfolding lines_from
lines_cut front [] text h = ap (λ (l : List ℕ). counted (without_cr l) ++ lines_from [] text) (sym (append-nil front))
lines_cut front (b ∷ line) text h = rw h.0 (lines_cut (front ++ b ∷ []) line text h.1 ∙ ap (λ (l : List ℕ). counted (without_cr l) ++ lines_from [] text) (append_assoc front (b ∷ []) line))

pub whole_none : (front line : List ℕ) → NoBreak line → whole_from front line ≡ []
unfolding whole_from
whole_none front [] h = refl
whole_none front (b ∷ line) h = rw h.0 (whole_none (front ++ b ∷ []) line h.1)

pub lines_none : (front line : List ℕ) → NoBreak line → lines_from front line ≡ counted (front ++ line)
unfolding lines_from
lines_none front [] h = ap counted (sym (append-nil front))
lines_none front (b ∷ line) h = rw h.0 (lines_none (front ++ b ∷ []) line h.1 ∙ ap counted (append_assoc front (b ∷ []) line))

-- a text whose first LF is found: its lines, whatever follows
pub lines_behind : (text : List ℕ) (at : ℕ) (b : IsBreak text at) (more : List ℕ) → lines_of (text ++ more) ≡ counted (without_cr b.line) ++ lines_of (b.behind ++ more)
lines_behind text at b more = ap (λ (t : List ℕ). lines_of (t ++ more)) b.parts ∙ ap lines_of (append_assoc b.line (10 ∷ b.behind) more) ∙ lines_cut [] b.line (b.behind ++ more) b.free

pub whole_behind : (text : List ℕ) (at : ℕ) (b : IsBreak text at) → whole_lines text ≡ counted (without_cr b.line) ++ whole_lines b.behind
whole_behind text at b = ap whole_lines b.parts ∙ whole_cut [] b.line b.behind b.free

-- ---- the parts of lines

pub take_min : (n : ℕ) (line : List ℕ) → take (min (length line) n) line ≡ take n line
take_min n line = grind (arith, common_steps)

pub kept_bytes : (n m : ℕ) (line items : List ℕ) → n ≡ longest → list_all is_blank line ≡ false → m ≡ min (length line) n → items ≡ take m line → items ∷ [] ≡ counted line
unfolding counted
kept_bytes n m line items same h least e = rw h (ap (λ (l : List ℕ). l ∷ []) (e ∙ ap (λ (k : ℕ). take k line) least ∙ take_min n line ∙ ap (λ (k : ℕ). take k line) same))

pub no_bytes : (line : List ℕ) → list_all is_blank line ≡ true → [] ≡ counted line
unfolding counted
no_bytes line h = rw h refl

-- ---- a line that was taken from the front

pub front_of : (text line : List ℕ) (at : ℕ) (kept : List (List ℕ)) → IsBreak text at → line ≡ without_cr (take at text) → kept ≡ counted line → IsFront text kept (at + 1)
front_of text line at kept b l k =
    let parts : kept ≡ counted (without_cr b.line) = k ∙ ap counted (l ∙ ap without_cr (break_line text at b)) in
    let tail : drop (at + 1) text ≡ b.behind = sym (drop-drop 1 at text) ∙ break_behind text at b in
    record {
      within = omega (arith, ap length b.parts, length-append b.line (10 ∷ b.behind), b.long);
      some = omega arith;
      lines = λ more. lines_behind text at b more ∙ (λ i. sym parts i ++ lines_of (sym tail i ++ more));
      whole = whole_behind text at b ∙ (λ i. sym parts i ++ whole_lines (sym tail i));
    }

pub none_left : (old rest : List ℕ) → NoBreak rest → SameLines rest old → whole_lines rest ≡ whole_lines old → IsNone old rest
none_left old rest free same whole = record { none = sym whole ∙ whole_none [] rest free; still = whole_none [] rest free; same = same }

pub taken_one : (old rest : List ℕ) (kept : List (List ℕ)) (line : List ℕ) (long : ℕ) → SameLines rest old → whole_lines rest ≡ whole_lines old → IsFront rest kept long → kept ≡ line ∷ [] → IsTaken old line (drop long rest)
taken_one old rest kept line long same whole f e = record {
  first = λ more. sym (same more) ∙ f.lines more ∙ ap (λ (l : List (List ℕ)). l ++ lines_of (drop long rest ++ more)) e;
  whole = sym whole ∙ f.whole ∙ ap (λ (l : List (List ℕ)). l ++ whole_lines (drop long rest)) e;
}

pub passed_lines : (old rest : List ℕ) (kept : List (List ℕ)) (long : ℕ) → SameLines rest old → IsFront rest kept long → kept ≡ [] → SameLines (drop long rest) old
passed_lines old rest kept long same f e more = sym (f.lines more ∙ ap (λ (l : List (List ℕ)). l ++ lines_of (drop long rest ++ more)) e) ∙ same more

pub passed_whole : (old : List (List ℕ)) (rest : List ℕ) (kept : List (List ℕ)) (long : ℕ) → whole_lines rest ≡ old → IsFront rest kept long → kept ≡ [] → whole_lines (drop long rest) ≡ old
passed_whole old rest kept long whole f e = sym (f.whole ∙ ap (λ (l : List (List ℕ)). l ++ whole_lines (drop long rest)) e) ∙ whole

-- the last line
pub last_line : (rest : List ℕ) → NoBreak rest → lines_of rest ≡ counted rest
last_line rest free = lines_none [] rest free

both_empty : (a b : List (List ℕ)) → a ++ b ≡ [] → (a ≡ []) × (b ≡ [])
both_empty [] b e = (refl, e)
both_empty (x ∷ a) b e = absurd cc

pub front_passed : (items : List ℕ) (start long n : ℕ) (rest : List ℕ) (kept old : List (List ℕ)) → rest ≡ drop start items → IsFront rest kept n → n ≡ long → start ≤ length items → whole_lines (drop start items) ≡ [] → lines_of (drop start items) ≡ old
    → (start + long ≤ length items) × (lines_of (drop (start + long) items) ≡ old) × (whole_lines (drop (start + long) items) ≡ [])
front_passed items start long n rest kept old at f same_long within whole same =
    let f1 : IsFront (drop start items) kept long = subst (λ (t : List ℕ). IsFront t kept long) at (subst (λ (k : ℕ). IsFront rest kept k) same_long f) in
    let both = both_empty kept (whole_lines (drop long (drop start items))) (sym f1.whole ∙ whole) in
    let tail : drop long (drop start items) ≡ drop (start + long) items = drop-drop long start items in
    let lines0 : lines_of (drop start items) ≡ lines_of (drop long (drop start items)) =
    ap lines_of (sym (append-nil (drop start items))) ∙ f1.lines [] ∙ ap (λ (l : List (List ℕ)). l ++ lines_of (drop long (drop start items) ++ [])) both.0 ∙ ap lines_of (append-nil (drop long (drop start items))) in
    (omega (arith, f1.within, length-drop start items), ap lines_of (sym tail) ∙ sym lines0 ∙ same, ap whole_lines (sym tail) ∙ both.1)

take_whole : (l : List ℕ) → take (length l) l ≡ l
take_whole [] = refl
take_whole (x ∷ l) = ap (λ (r : List ℕ). x ∷ r) (take_whole l)

-- the slice from a place on
pub slice_rest : (now items : List ℕ) (start : ℕ) → now ≡ items → take (length now - start) (drop start now) ≡ drop start items
slice_rest now items start e = ap (λ (n : ℕ). take n (drop start now)) (sym (length-drop start now)) ∙ take_whole (drop start now) ∙ ap (drop start) e

pub rest_free : (now items : List ℕ) (start : ℕ) → now ≡ items → NoBreak (take (length now - start) (drop start now)) → NoBreak (drop start items)
rest_free now items start e h = subst NoBreak (slice_rest now items start e) h
