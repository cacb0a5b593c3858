-- The last number of each name, over all segments: what a segment took over, and then its own runs.
use Rattle.std.proofs.Common.{◌≡◌, ◌∙◌, ap, refl, sym, ℕ, zero, suc, ◌+◌, ◌<◌, inl, inr, Bool, true, false, cond, Option, List, [], ◌∷◌, ◌++◌, length, map, ◌||◌, arith, append_assoc}
use Rattle.std.specs.Prelude.{Some, None, ◌⊎◌, count_by, nat_eq, slice_get, slice_index_or, unwrap_or, if◌then◌else◌}
use Rattle.std.specs.List.{list_any}
use Rattle.std.specs.Option.{option_map_or}
use Rattle.std.proofs.lemmas.Bool.Decides.{nat_tests}
use Rattle.std.proofs.lemmas.List.{append-nil}
use Rattle.std.proofs.lemmas.List.Sums.{sum_by-append, sum_by-cons}
use Rattle.ha_config.specs.declared.config.Automation.{Automation}
use Rattle.ha_config.specs.Names.{name_of, names_of}
use Rattle.ha_config.specs.Sound.{are_in_name_order}
use Rattle.ha_config.specs.Words.{Text, or_else, same}
use Rattle.ha_config.proofs.EqualLemmas.{same-refl, same-sound}
use Rattle.ha_config.proofs.ListLemmas.{none-some, some-same, true-false}
use Rattle.ha_journal.specs.Entries.{Opening, boot_of}
use Rattle.ha_journal.specs.Journal.{Journal, units}
use Rattle.ha_model.specs.declared.record.Record.{Record}
use Rattle.ha_model.specs.Records.{Records, has_name, records_of}
use Rattle.ha_model.proofs.KnownLaws.{AllKnown, all-known}
use Rattle.ha_whole.specs.Named.{in_name_order, last_of_each, named}
use Rattle.ha_whole.specs.Segments.{carried_number}
use Rattle.ha_whole.specs.Whole.{numbers_carried, run_numbers}
use Rattle.switch_book.proofs.StoredLaws.{ordered-in_name_order}
use Rattle.whole_laws.proofs.NamedLemmas.{named-in-order}
use Rattle.segment_carry.specs.ByName.{numbers_with}
use Rattle.segment_carry.specs.Closing.{last_number, number_in}
use Rattle.segment_carry.specs.Hands.{Counted}
use Rattle.segment_carry.proofs.CountedLemmas.{counted-own}
use Rattle.segment_carry.proofs.NumberLemmas.{apart-distinct, apart-last, else-assoc, last-append, last-ordered, last_named, named-last, ordered-all, ordered-same, with-told}

-- what is carried for a name is what stands under it
pub carried-is : (s : Journal) (t : Text) → carried_number s t ≡ unwrap_or (named t (numbers_carried s)) 0
carried-is [] t = refl
carried-is (e ∷ es) t = by (boot_of e)
  where
    by : (o : Option Opening) → option_map_or (λ b. unwrap_or (named t b.carry.numbers) 0) o 0 ≡ unwrap_or (named t (option_map_or (λ b. b.carry.numbers) o [])) 0
    by None = refl
    by (Some b) = refl

more-zero : (n : ℕ) → nat_eq (suc n) 0 ≡ false
more-zero n = grind (arith, nat_tests)

is-zero : (m : ℕ) → nat_eq m 0 ≡ true → m ≡ 0
is-zero m h = grind (arith, nat_tests)

module _ (s : Journal) where
  abbrev count_of : Text → Records → ℕ
  count_of t rs = count_by (has_name s t) rs

  -- what a name has behind these runs, where it had that before
  abbrev told_by : Option ℕ → Text → Records → Option ℕ
  told_by d t rs = if nat_eq (count_of t rs) 0 then d else Some (carried_number s t + count_of t rs)

  count-snoc : (t : Text) (rs : Records) (r : Record) → count_of t (rs ++ (r ∷ [])) ≡ count_of t rs + cond (has_name s t r) 1 0
  count-snoc t rs r = sum_by-append (λ x. cond (has_name s t x) 1 0) rs (r ∷ []) ∙ (λ i. count_of t rs + plain (cond (has_name s t r) 1 0) i)
    where
      plain : (n : ℕ) → 0 + n ≡ n
      plain n = omega arith

  told-one : (d : Option ℕ) (t : Text) (before : Records) (r : Record) → r.number ≡ suc (count_of (name_of (units s) r.automation) before)
      → or_else (if has_name s t r then Some (carried_number s (name_of (units s) r.automation) + r.number) else None) (told_by d t before) ≡ told_by d t (before ++ (r ∷ []))
  told-one d t before r number = by (has_name s t r) refl
    where
      by : (b : Bool) → has_name s t r ≡ b
          → or_else (if has_name s t r then Some (carried_number s (name_of (units s) r.automation) + r.number) else None) (told_by d t before) ≡ told_by d t (before ++ (r ∷ []))
      by true e =
          (let same_name : name_of (units s) r.automation ≡ t = same-sound (name_of (units s) r.automation) t e in
          let plus : count_of t before + 1 ≡ suc (count_of t before) = omega arith in
          let count : count_of t (before ++ (r ∷ [])) ≡ suc (count_of t before) = count-snoc t before r ∙ (λ i. count_of t before + cond (e i) 1 0) ∙ plus in
          let own : r.number ≡ suc (count_of t before) = number ∙ (λ i. suc (count_of (same_name i) before)) in
          (λ i. or_else (if e i then Some (carried_number s (name_of (units s) r.automation) + r.number) else None) (told_by d t before))
          ∙ (λ i. Some (carried_number s (same_name i) + own i))
          ∙ (λ i. if sym (more-zero (count_of t before)) i then d else Some (carried_number s t + suc (count_of t before)))
          ∙ (λ i. if nat_eq (sym count i) 0 then d else Some (carried_number s t + sym count i)))
      by false e =
          (let plus : count_of t before + 0 ≡ count_of t before = omega arith in
          let count : count_of t (before ++ (r ∷ [])) ≡ count_of t before = count-snoc t before r ∙ (λ i. count_of t before + cond (e i) 1 0) ∙ plus in
          (λ i. or_else (if e i then Some (carried_number s (name_of (units s) r.automation) + r.number) else None) (told_by d t before))
          ∙ (λ i. if nat_eq (sym count i) 0 then d else Some (carried_number s t + sym count i)))

  told-runs : (d : Option ℕ) (t : Text) (before rs : Records) → Counted s before rs → or_else (last_named t (run_numbers s rs)) (told_by d t before) ≡ told_by d t (before ++ rs)
  told-runs d t before [] h = (λ i. told_by d t (sym (append-nil before) i))
  told-runs d t before (r ∷ rs) h =
      else-assoc (last_named t (run_numbers s rs)) (if has_name s t r then Some (carried_number s (name_of (units s) r.automation) + r.number) else None) (told_by d t before)
      ∙ (λ i. or_else (last_named t (run_numbers s rs)) (told-one d t before r h.0 i))
      ∙ told-runs d t (before ++ (r ∷ [])) rs h.1
      ∙ (λ i. told_by d t (append_assoc before (r ∷ []) rs i))

  abbrev rs : Records
  rs = records_of s

  -- the last number of a name, if it has one
  abbrev value_of : Text → Option ℕ
  value_of t = told_by (named t (numbers_carried s)) t rs

  module _ (o : are_in_name_order (numbers_carried s) ≡ true) where
    named-of-each : (t : Text) → named t (last_of_each (numbers_carried s ++ run_numbers s rs)) ≡ value_of t
    named-of-each t =
        named-last t (numbers_carried s ++ run_numbers s rs)
        ∙ last-append t (numbers_carried s) (run_numbers s rs)
        ∙ (λ i. or_else (last_named t (run_numbers s rs)) (last-ordered t (numbers_carried s) o i))
        ∙ told-runs (named t (numbers_carried s)) t [] rs (counted-own s)

    pub named-in-force : (t : Text) → named t (in_name_order (last_of_each (numbers_carried s ++ run_numbers s rs))) ≡ value_of t
    named-in-force t = named-in-order (last_of_each (numbers_carried s ++ run_numbers s rs)) t (apart-last (numbers_carried s ++ run_numbers s rs)) ∙ named-of-each t

    -- LAW: what is carried on for a name is the number of its last run
    pub number-goes-on : (t : Text) → unwrap_or (named t (in_name_order (last_of_each (numbers_carried s ++ run_numbers s rs)))) 0 ≡ last_number s t
    number-goes-on t = ap (λ v. unwrap_or v 0) (named-in-force t) ∙ by (nat_eq (count_of t rs) 0) refl
      where
        by : (b : Bool) → nat_eq (count_of t rs) 0 ≡ b → unwrap_or (if b then named t (numbers_carried s) else Some (carried_number s t + count_of t rs)) 0 ≡ last_number s t
        by true e =
            (let plus : carried_number s t ≡ carried_number s t + count_of t rs = (let z = is-zero (count_of t rs) e in omega (arith, z)) in
            sym (carried-is s t) ∙ plus)
        by false e = refl

  pub ordered-numbers : are_in_name_order (in_name_order (last_of_each (numbers_carried s ++ run_numbers s rs))) ≡ true
  ordered-numbers = ordered-in_name_order (last_of_each (numbers_carried s ++ run_numbers s rs)) (apart-distinct (last_of_each (numbers_carried s ++ run_numbers s rs)) (apart-last (numbers_carried s ++ run_numbers s rs)))

  -- ---- by the units

  full : (t : Text) → (last_number s t ≡ 0 → ⊥) → value_of t ≡ Some (last_number s t)
  full t some = by (nat_eq (count_of t rs) 0) refl
    where
      carried-so : (v : Option ℕ) → named t (numbers_carried s) ≡ v → count_of t rs ≡ 0 → named t (numbers_carried s) ≡ Some (last_number s t)
      carried-so None e z =
          absurd (some (let c : carried_number s t ≡ 0 = carried-is s t ∙ ap (λ v. unwrap_or v 0) e in omega (arith, c, z)))
      carried-so (Some n) e z =
          (let c : carried_number s t ≡ n = carried-is s t ∙ ap (λ v. unwrap_or v 0) e in
          let same_number : n ≡ last_number s t = omega (arith, c, z) in
          e ∙ ap (λ m. Some m) same_number)

      by : (b : Bool) → nat_eq (count_of t rs) 0 ≡ b → value_of t ≡ Some (last_number s t)
      by true e = (λ i. if e i then named t (numbers_carried s) else Some (carried_number s t + count_of t rs)) ∙ carried-so (named t (numbers_carried s)) refl (is-zero (count_of t rs) e)
      by false e = (λ i. if e i then named t (numbers_carried s) else Some (carried_number s t + count_of t rs))

  name-among : (all : List Automation) (a : ℕ) → a < length all → list_any (same (name_of all a)) (names_of all) ≡ true
  name-among [] a lt = absurd (omega (arith, lt))
  name-among (x ∷ all) zero lt = λ i. same-refl x.name i || list_any (same x.name) (names_of all)
  name-among (x ∷ all) (suc a) lt = (λ i. same (name_of all a) x.name || name-among all a (omega (arith, lt)) i) ∙ or-true (same (name_of all a) x.name)
    where
      or-true : (b : Bool) → (b || true) ≡ true
      or-true true = refl
      or-true false = refl

  counted-there : (t : Text) (xs : Records) → AllKnown (length (units s)) xs → nat_eq (count_of t xs) 0 ≡ false → list_any (same t) (names_of (units s)) ≡ true
  counted-there t [] known h = absurd (true-false h)
  counted-there t (x ∷ xs) known h = by (has_name s t x) refl (counted-there t xs known.1)
    where
      count : count_of t (x ∷ xs) ≡ cond (has_name s t x) 1 0 + count_of t xs
      count = sum_by-cons (λ y. cond (has_name s t y) 1 0) x xs

      by : (b : Bool) → has_name s t x ≡ b → (nat_eq (count_of t xs) 0 ≡ false → list_any (same t) (names_of (units s)) ≡ true) → list_any (same t) (names_of (units s)) ≡ true
      by true e rest = (λ i. list_any (same (sym (same-sound (name_of (units s) x.automation) t e) i)) (names_of (units s))) ∙ name-among (units s) x.automation known.0
      by false e rest =
          (let plus : count_of t (x ∷ xs) ≡ count_of t xs = (let c = count ∙ (λ i. cond (e i) 1 0 + count_of t xs) in omega (arith, c)) in
          rest ((λ i. nat_eq (sym plus i) 0) ∙ h))

  begin-told : (names : List Text) → names ≡ names_of (units s) → (t : Text) → (named t (numbers_carried s) ≡ value_of t) ⊎ ((list_any (same t) names ≡ true) × (last_number s t ≡ 0 → ⊥))
  begin-told names are t = by (nat_eq (count_of t rs) 0) refl
    where
      by : (b : Bool) → nat_eq (count_of t rs) 0 ≡ b → (named t (numbers_carried s) ≡ value_of t) ⊎ ((list_any (same t) names ≡ true) × (last_number s t ≡ 0 → ⊥))
      by true e = inl (λ i. if sym e i then named t (numbers_carried s) else Some (carried_number s t + count_of t rs))
      by false e = inr (
        (λ i. list_any (same t) (are i)) ∙ counted-there t rs (all-known s) e,
        λ z. (let none : count_of t rs ≡ 0 = omega (arith, z) in true-false ((λ i. nat_eq (sym none i) 0) ∙ e)),
      )

  mapped-at : (f : Text → ℕ) (names : List Text) (i : ℕ) (t : Text) → slice_get names i ≡ Some t → slice_index_or (map f names) i 0 ≡ f t
  mapped-at f [] i t is = absurd (none-some t is)
  mapped-at f (x ∷ names) zero t is = ap f (some-same x t is)
  mapped-at f (x ∷ names) (suc i) t is = mapped-at f names i t is

  -- LAW: what is made of the carried numbers and the last ones of all units is what the next segment takes over
  pub numbers-made : (names : List Text) (last : List ℕ) → names ≡ names_of (units s) → last ≡ map (last_number s) names → are_in_name_order (numbers_carried s) ≡ true
      → numbers_with (number_in last) 0 names (numbers_carried s) ≡ in_name_order (last_of_each (numbers_carried s ++ run_numbers s rs))
  numbers-made names last names_are last_are o =
      ordered-same (numbers_with (number_in last) 0 names (numbers_carried s)) (in_name_order (last_of_each (numbers_carried s ++ run_numbers s rs)))
      (ordered-all (number_in last) 0 names (numbers_carried s) o) ordered-numbers
      (λ t.
      with-told value_of (last_number s) full (number_in last) 0 names (numbers_carried s)
      (λ i u is. (let e : 0 + i ≡ i = omega arith in (λ k. slice_index_or (last_are k) (e k) 0) ∙ mapped-at (last_number s) names i u is))
      (begin-told names names_are) t
      ∙ sym (named-in-force o t))
