-- What one more entry adds to the end of a journal and to the calls of its runs.
use Rattle.std.proofs.Common.{◌≡◌, ℕ, suc, ◌+◌, ◌-◌, ◌<◌, List, [], ◌∷◌, ◌++◌, length, Bool, false, cond, refl, sym, ap, ◌∙◌, rules, arith, Option}
use Rattle.std.specs.Prelude.{OnOk, Ok, Err, Result, Some, None, slice_get, nat_eq, fold, ◌&&◌}
use Rattle.std.specs.Option.{option_map_or}
use Rattle.ha_journal.specs.declared.entry.Entry.{Entry}
use Rattle.ha_journal.specs.declared.entry.Entry.TheVariants.{Boot, Line, Step, Again}
use Rattle.ha_config.specs.Words.{last_of, EachAfter, or_else}
use Rattle.ha_journal.specs.Journal.{Journal, more}
use Rattle.ha_model.specs.Records.{Records, last_is, is_call_of, calls_of}
use Rattle.ha_sight.specs.Items.{is_call}
use Rattle.ha_model.specs.Lawful.{IsRightEntry, Right}
use Rattle.ha_model.proofs.StepLaws.{serial-at}
use Rattle.std.proofs.lemmas.Option.{slice_get_within}

pub last-more : (j : Journal) (x : Entry) → last_of (more j x) ≡ Some x
last-more [] x = refl
last-more (e ∷ []) x = refl
last-more (e ∷ f ∷ es) x = last-more (f ∷ es) x

pub last-is : (test : Entry → Bool) (j : Journal) (x : Entry) → last_is test (more j x) ≡ test x
last-is test j x = (λ i. option_map_or test (last-more j x i) false)

pub or-none : {X : Type 0} (a : Option X) → or_else a None ≡ a
or-none None = refl
or-none (Some x) = refl

count-snoc : {X : Type 0} (p : X → Bool) (n : ℕ) (xs : List X) (x : X) → fold (λ m y. m + cond (p y) 1 0) n (xs ++ (x ∷ [])) ≡ fold (λ m y. m + cond (p y) 1 0) n xs + cond (p x) 1 0
count-snoc p n [] x = refl
count-snoc p n (y ∷ ys) x = count-snoc p (n + cond (p y) 1 0) ys x

-- the calls of a run with one more entry
pub calls-more : (j : Journal) (x : Entry) (serial : ℕ) → calls_of (more j x) serial ≡ calls_of j serial + cond (is_call_of serial x) 1 0
calls-more j x serial = count-snoc (is_call_of serial) 0 j x

not-equal : (a b : ℕ) → a < b → nat_eq a b ≡ false
not-equal a b lt = search rules

-- in a right journal no Step has a serial that no record has
pub no-calls : (j : Journal) (rs : Records) → Right j rs → (s : ℕ) → length rs < s → calls_of j s ≡ 0
no-calls j rs right s lt = go 0 [] j right.entries
  where
    is_none' : (before : Journal) (y : Entry) → IsRightEntry rs before y → is_call_of s y ≡ false
    is_none' before (Boot text config stored start zone carry) h = refl
    is_none' before (Again number start stored carry) h = refl
    is_none' before (Line source number cmd) h = refl
    is_none' before (Step worker t branch item) h =
        let within : t - 1 < length rs = slice_get_within rs (t - 1) h.0 h.1 in
        let numbered : h.0.serial ≡ suc (t - 1) = serial-at j (t - 1) h.0 (ap (λ l. slice_get l (t - 1)) (sym right.records_are) ∙ h.1) in
        let other : nat_eq t s ≡ false = not-equal t s (omega (arith, numbered, h.2)) in
        (λ i. other i && is_call item)

    go : (n : ℕ) (before xs : Journal) → EachAfter (IsRightEntry rs) before xs → fold (λ m y. m + cond (is_call_of s y) 1 0) n xs ≡ n
    go n before [] h = refl
    go n before (y ∷ ys) h =
        let e = is_none' before y h.0 in
        let same : n + cond (is_call_of s y) 1 0 ≡ n = (λ i. n + cond (e i) 1 0) ∙ omega arith in
        (λ i. fold (λ m y. m + cond (is_call_of s y) 1 0) (same i) ys) ∙ go n (before ++ (y ∷ [])) ys h.1

pub ok-then : {T E : Type 0} {P Q : Type 0} (r : Result T E) → (P → Q) → OnOk r P → OnOk r Q
ok-then (Ok x) f h = f h
ok-then (Err x) f h = h
