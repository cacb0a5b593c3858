-- Reading items one after the other, as a loop does.
use Rattle.std.proofs.Common.{◌≡◌, ℕ, suc, ◌<◌, Bool, true, false, cond, List, [], ◌∷◌, ◌++◌, length, drop, Ok, Err, refl, sym, ap, ◌∙◌, arith}
use Rattle.std.specs.Prelude.{codes}
use Rattle.reading.specs.declared.fault.Bad.{Bad}
use Rattle.reading.specs.declared.fault.Stop.{Stop}
use Rattle.reading.specs.declared.fault.Stop.TheVariants as stops
use Rattle.reading.specs.Answer.{◌>>=◌, Answer, Rule, Gives}
use Rattle.reading.specs.Bytes.{sees, skip, expect}
use Rattle.reading.specs.Rows.{repeat, after_item, row, closed_by}
use Rattle.reading.proofs.Bytes.{length-skip, expect_found}
use Rattle.reading.proofs.Turns as turns

-- ---- lists in brackets

-- what is left to read, behind what was found, makes up the whole
abbrev pub Continues : {C A : Type 0} → C → ℕ → (List A → Rule ℕ (Bad C) A) → List A → List ℕ → Answer ℕ (Bad C) (List A) → Type 0
Continues code end item = turns.Continues (row code end item)

module _ {C A : Type 0} (code : C) (end : ℕ) (item : List A → Rule ℕ (Bad C) A) where
  abbrev Total : Type 0
  Total = Answer ℕ (Bad C) (List A)

  -- an item, the blanks after it, a comma and the blanks after that are shorter
  pub goes_down : (rest after s u behind next : List ℕ) (c : Bool) → length after < length rest → s ≡ skip after → c ≡ false → u ≡ cond c (drop 1 s) s → expect code (codes ",") u ≡ Ok (tt, behind) → next ≡ skip behind
      → length next < length rest
  goes_down rest after s u behind next c less skipped no_end moved comma skipped_2 =
      let n : u ≡ s = moved ∙ ap (λ (b : Bool). cond b (drop 1 s) s) no_end in
      let taken : u ≡ 44 ∷ behind = expect_found code (codes ",") u tt behind comma in
      omega (arith, ap length n, ap length skipped, ap length taken, ap length skipped_2, length-skip after, length-skip behind)

  pub begins : (text : List ℕ) → sees end (skip text) ≡ false → Continues code end item [] (skip text) (closed_by code end item text)
  unfolding closed_by
  begins text h = turns.begins (row code end item) [] (skip text) (closed_by code end item text) (rw h refl)

  -- no item comes
  pub item_fails : (found : List A) (rest : List ℕ) (total : Total) (e : Stop (Bad C)) (new : List ℕ)
      → Continues code end item found rest total → Gives (item found rest) (Err e) new → Gives {A = List A} total (Err e) new
  unfolding row
  item_fails found rest total stops.Memory new so_far given = tt
  item_fails found rest total (stops.Fault f) new so_far given = turns.ends (row code end item) found rest total so_far (Err f) (λ n. rw given refl)

  module _ (found : List A) (rest : List ℕ) (total : Total) (x : A) (after : List ℕ) (so_far : Continues code end item found rest total) (given : item found rest ≡ Ok (x, after)) where
    after_one : (n : ℕ) → row code end item (suc n) found rest ≡ after_item code end (found ++ x ∷ []) (row code end item n (found ++ x ∷ [])) after
    unfolding row
    after_one n = rw given refl

    module _ (s : List ℕ) (skipped : s ≡ skip after) (r : Bool) (seen : r ≡ sees end s) where
      -- the end comes
      pub ends : (all : List A) (new : List ℕ) → all ≡ found ++ x ∷ [] → r ≡ true → new ≡ cond (sees end s) (drop 1 s) s → total ≡ Ok (all, new)
      ends all new e seen_end moved =
          let h : sees end (skip after) ≡ true = ap (sees end) (sym skipped) ∙ sym seen ∙ seen_end in
          let n : new ≡ drop 1 (skip after) = moved ∙ ap (λ (b : Bool). cond b (drop 1 s) s) (sym seen ∙ seen_end) ∙ ap (drop 1) skipped in
          rw (e, n) (turns.ends (row code end item) found rest total so_far (Ok (found ++ x ∷ [], drop 1 (skip after))) (λ k. after_one k ∙ rw h refl))

      -- neither the end nor a comma
      pub comma_fails : (e : Stop (Bad C)) (u new : List ℕ) → r ≡ false → u ≡ cond (sees end s) (drop 1 s) s → Gives (expect code (codes ",") u) (Err e) new → Gives {A = List A} total (Err e) new
      comma_fails stops.Memory u new h moved g = tt
      comma_fails (stops.Fault f) u new not_yet moved g =
          let h : sees end (skip after) ≡ false = ap (sees end) (sym skipped) ∙ sym seen ∙ not_yet in
          let n : u ≡ skip after = moved ∙ ap (λ (b : Bool). cond b (drop 1 s) s) (sym seen ∙ not_yet) ∙ skipped in
          turns.ends (row code end item) found rest total so_far (Err f) (λ k. after_one k ∙ rw (h, ← n, g) refl)

      -- a comma, and one more
      pub goes_on : (all : List A) (u behind next : List ℕ) → all ≡ found ++ x ∷ [] → r ≡ false → u ≡ cond (sees end s) (drop 1 s) s → expect code (codes ",") u ≡ Ok (tt, behind) → next ≡ skip behind
          → length next < length rest → Continues code end item all next total
      goes_on all u behind next e not_yet moved g then shorter =
          let h : sees end (skip after) ≡ false = ap (sees end) (sym skipped) ∙ sym seen ∙ not_yet in
          let n : u ≡ skip after = moved ∙ ap (λ (b : Bool). cond b (drop 1 s) s) (sym seen ∙ not_yet) ∙ skipped in
          let g' : expect code (codes ",") (skip after) ≡ Ok (tt, behind) = ap (expect code (codes ",")) (sym n) ∙ g in
          rw (e, then) (turns.goes_on (row code end item) found rest total so_far (found ++ x ∷ []) (skip behind) (λ k. after_one k ∙ rw (h, g') refl) (omega (arith, ap length then)))

-- ---- items as long as a test says so

-- what is left to read, behind what was found, makes up the whole
abbrev pub Repeats : {T F A : Type 0} → F → (List A → Rule T F Bool) → (List A → Rule T F A) → List A → List T → Answer T F (List A) → Type 0
Repeats over on item = turns.Continues (repeat over on item)

module _ {T F A : Type 0} (over : F) (on : List A → Rule T F Bool) (item : List A → Rule T F A) where
  pub repeat_begins : (n : ℕ) (rest : List T) → length rest < n → Repeats over on item [] rest (repeat over on item n [] rest)
  repeat_begins n rest enough = record { count = n; enough = enough; reads = refl }

  module _ (found : List A) (rest : List T) (total : Answer T F (List A)) (so_far : Repeats over on item found rest total) where
    -- the test fails
    pub test_fails : (e : Stop F) (new : List T) → Gives (on found rest) (Err e) new → Gives {A = List A} total (Err e) new
    unfolding repeat
    test_fails stops.Memory new g = tt
    test_fails (stops.Fault f) new g = turns.ends (repeat over on item) found rest total so_far (Err f) (λ n. rw g refl)

    -- no more
    pub no_more : (after : List T) → on found rest ≡ Ok (false, after) → total ≡ Ok (found, after)
    unfolding repeat
    no_more after g = turns.ends (repeat over on item) found rest total so_far (Ok (found, after)) (λ n. rw g refl)

    -- no item comes
    pub repeat_fails : (after : List T) (e : Stop F) (new : List T) → on found rest ≡ Ok (true, after) → Gives (item found after) (Err e) new → Gives {A = List A} total (Err e) new
    unfolding repeat
    repeat_fails after stops.Memory new g h = tt
    repeat_fails after (stops.Fault f) new g h = turns.ends (repeat over on item) found rest total so_far (Err f) (λ n. rw (g, h) refl)

    -- one more
    pub one_more : (after : List T) (x : A) (next : List T) → on found rest ≡ Ok (true, after) → item found after ≡ Ok (x, next) → length next < length rest
        → (all : List A) → all ≡ found ++ x ∷ [] → Repeats over on item all next total
    unfolding repeat
    one_more after x next g h less all e = rw e (turns.goes_on (repeat over on item) found rest total so_far (found ++ x ∷ []) next (λ n. rw (g, h) refl) less)
