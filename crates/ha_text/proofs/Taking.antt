-- Lines taken one by one from the front of the bytes that are held.
use Rattle.std.proofs.Common.{◌≡◌, ℕ, ◌+◌, ◌-◌, ◌≤◌, true, false, List, [], ◌∷◌, length, take, drop, Option, Some, None, refl, sym, ap, subst, ◌∙◌}
use Rattle.std.specs.Prelude.{MatchOption, is_some}
use Rattle.std.specs.Global.{Vec}
use Rattle.std.proofs.lemmas.List.{drop-drop}
use Rattle.ha_text.specs.Lines.{NoBreak, IsFront, IsNone, IsTaken, is_open, kept_of, whole_lines, SameLines}
use Rattle.ha_text.proofs.LineLemmas.{none_left, taken_one, passed_lines, passed_whole}
use Rattle.ha_text.proofs.Shorten.{open_line, front_whole, none_whole}

-- at the line that no LF ends yet
pub at_begun : (old items : List ℕ) (start begun : ℕ) → start ≡ begun → is_open (drop begun items) ≡ true → SameLines (drop start items) old → whole_lines (drop start items) ≡ whole_lines old → IsNone old (drop start items)
at_begun old items start begun e last same whole = none_left old (drop start items) (subst (λ (n : ℕ). NoBreak (drop n items)) (sym e) (open_line (drop begun items) last)) same whole

-- no LF before it
pub none_before : (old now items : List ℕ) (start begun : ℕ) → now ≡ items → start ≤ begun → begun ≤ length items → is_open (drop begun items) ≡ true
    → NoBreak (take (begun - start) (drop start now)) → SameLines (drop start items) old → whole_lines (drop start items) ≡ whole_lines old → IsNone old (drop start items)
none_before old now items start begun e order fits last f same whole = none_left old (drop start items) (none_whole now items start begun e order fits last f) same whole

-- a line that counts
pub taken_or : (old now items : List ℕ) (start begun : ℕ) (line : Option (Vec ℕ)) (long : ℕ) → now ≡ items → start ≤ begun → begun ≤ length items → is_open (drop begun items) ≡ true
    → IsFront (take (begun - start) (drop start now)) (kept_of line) long → is_some line ≡ true → SameLines (drop start items) old → whole_lines (drop start items) ≡ whole_lines old
    → MatchOption line (IsNone old (drop (start + long) items)) (λ l. IsTaken old l.items (drop (start + long) items))
taken_or old now items start begun None long e order fits last f h same whole = absurd cc
taken_or old now items start begun (Some line) long e order fits last f h same whole =
    let all = front_whole now items start begun (line.items ∷ []) long e order fits last f in
    subst (λ (t : List ℕ). IsTaken old line.items t) (drop-drop long start items) (taken_one old (drop start items) (line.items ∷ []) line.items long same whole all.0 refl)

none_kept : (line : Option (Vec ℕ)) → is_some line ≡ false → kept_of line ≡ []
none_kept None h = refl
none_kept (Some line) h = absurd cc

-- a line that does not count
pub passed_one : (old now items : List ℕ) (start begun : ℕ) (line : Option (Vec ℕ)) (long : ℕ) → now ≡ items → start ≤ begun → begun ≤ length items → is_open (drop begun items) ≡ true
    → IsFront (take (begun - start) (drop start now)) (kept_of line) long → is_some line ≡ false → SameLines (drop start items) old → whole_lines (drop start items) ≡ whole_lines old
    → (start + long ≤ begun) × SameLines (drop (start + long) items) old × (whole_lines (drop (start + long) items) ≡ whole_lines old)
passed_one old now items start begun line long e order fits last f h same whole =
    let all = front_whole now items start begun (kept_of line) long e order fits last f in
    let tail = drop-drop long start items in (
      all.1,
      subst (λ (t : List ℕ). SameLines t old) tail (passed_lines old (drop start items) (kept_of line) long same all.0 (none_kept line h)),
      ap whole_lines (sym tail) ∙ passed_whole (whole_lines old) (drop start items) (kept_of line) long whole all.0 (none_kept line h),
    )
