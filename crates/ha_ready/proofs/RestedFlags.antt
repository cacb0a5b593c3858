-- The flags of the sources go on to say who is rested.
use Rattle.std.proofs.Common.{◌≡◌, ℕ, zero, suc, ◌+◌, ◌<◌, ◌≤◌, List, [], ◌∷◌, length, Bool, true, false, refl, sym, ◌∙◌, rules, arith}
use Rattle.std.specs.Prelude.{Option, Some, None, ◌||◌, nat_eq, slice_get, if◌then◌else◌}
use Rattle.std.specs.Option.{option_map_or}
use Rattle.ha_journal.specs.declared.entry.Entry.{Entry}
use Rattle.ha_journal.specs.declared.entry.Entry.TheVariants.{Boot, Line, Step, Again}
use Rattle.ha_journal.specs.Journal.{Journal, more}
use Rattle.ha_model.specs.Records.{Records}
use Rattle.ha_model.specs.RecordSteps.{records_after}
use Rattle.ha_model.specs.Lawful.{Right, is_line_of, is_quiet, is_rested}
use Rattle.ha_model.proofs.LawfulLaws.{same-after, rested-same}
use Rattle.ha_model.proofs.RestedLaws.{rested-more}
use Rattle.ha_ready.specs.RestedFlags.{flag_after, flags_from, source_of, IsKnown, RestedKept}

-- LAW: who is rested behind one more entry, by who was and whether the journal is quiet then
pub rested-after : (j : Journal) (rs : Records) (x : Entry) → Right j rs → (k : ℕ) → is_rested (records_after j rs x) k (more j x) ≡ flag_after (source_of x) (is_quiet (records_after j rs x) (more j x)) k (is_rested rs k j)
rested-after j rs x right k =
    let rs' : Records = records_after j rs x in
    rested-more rs' k j x
    ∙ (λ i. (if is_line_of k x then false else sym (rested-same (length j) rs rs' (same-after j rs x right.journal right.records_are) k j (omega arith)) i) || is_quiet rs' (more j x))
    ∙ (λ i. (if of-source x i then false else is_rested rs k j) || is_quiet rs' (more j x))
  where
    of-source : (x : Entry) → is_line_of k x ≡ option_map_or (λ s. nat_eq s k) (source_of x) false
    of-source (Boot text config stored start zone carry) = refl
    of-source (Again number start stored carry) = refl
    of-source (Line source number cmd) = refl
    of-source (Step worker serial branch item) = refl

flags-get : (source : Option ℕ) (quiet : Bool) (n : ℕ) (fs : List Bool) (i : ℕ) (f : Bool) → slice_get fs i ≡ Some f → slice_get (flags_from source quiet n fs) i ≡ Some (flag_after source quiet (n + i) f)
flags-get source quiet n [] i f e = absurd (let bad : ◌≡◌ {A = Option Bool} None (Some f) = e in cc)
flags-get source quiet n (y ∷ ys) zero f e = (let at : n ≡ n + 0 = omega arith in let same : y ≡ f = cc in λ i. Some (flag_after source quiet (at i) (same i)))
flags-get source quiet n (y ∷ ys) (suc i) f e = flags-get source quiet (suc n) ys i f e ∙ (let at : suc n + i ≡ n + suc i = omega arith in λ q. Some (flag_after source quiet (at q) f))

length-flags : (source : Option ℕ) (quiet : Bool) (n : ℕ) (fs : List Bool) → length (flags_from source quiet n fs) ≡ length fs
length-flags source quiet n [] = refl
length-flags source quiet n (f ∷ fs) = (λ i. suc (length-flags source quiet (suc n) fs i))

other-number : (a b : ℕ) → a < b → nat_eq a b ≡ false
other-number a b lt = search rules

-- LAW: the flags are kept
pub rested-kept : (j : Journal) (rs : Records) (x : Entry) (flags : List Bool) → Right j rs → IsKnown (source_of x) → RestedKept j rs flags
    → RestedKept (more j x) (records_after j rs x) (flags_from (source_of x) (is_quiet (records_after j rs x) (more j x)) 0 flags)
rested-kept j rs x flags right known kept =
    let quiet : Bool = is_quiet (records_after j rs x) (more j x) in
    record {
      count = length-flags (source_of x) quiet 0 flags ∙ kept.count;
      known = λ k lt. flags-get (source_of x) quiet 0 flags k (is_rested rs k j) (kept.known k lt)
          ∙ (let at : 0 + k ≡ k = omega arith in λ i. Some (flag_after (source_of x) quiet (at i) (is_rested rs k j)))
          ∙ (λ i. Some (sym (rested-after j rs x right k) i));
      others = λ k le. rested-after j rs x right k ∙ (λ i. flag_after (source_of x) quiet k (kept.others k le i)) ∙ still (source_of x) known k le quiet;
    }
  where
    still : (o : Option ℕ) → IsKnown o → (k : ℕ) → 16 ≤ k → (quiet : Bool) → flag_after o quiet k true ≡ true
    still None h k le quiet = refl
    still (Some s) h k le quiet = (let other = other-number s k (omega (arith, h, le)) in λ i. (if other i then false else true) || quiet)
