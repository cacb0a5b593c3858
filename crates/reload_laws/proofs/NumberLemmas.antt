-- Numbers of units and of runs: each is given once.
use Rattle.std.proofs.Common.{◌≡◌, ℕ, zero, suc, ◌+◌, ◌<◌, ◌≤◌, ◌⊎◌, inl, inr, Bool, true, false, cond, List, [], ◌∷◌, ◌++◌, length, refl, sym, ap, subst, ◌∙◌, arith, append_assoc}
use Rattle.std.specs.Prelude.{Option, Some, None, count_by, fold, nat_le, slice_get, if◌then◌else◌}
use Rattle.std.proofs.lemmas.Bool.Decides.{leb_tells}
use Rattle.std.specs.Option.{option_map_or}
use Rattle.ha_config.specs.declared.config.Automation.{Automation}
use Rattle.ha_config.specs.declared.config.Config.{Config}
use Rattle.ha_config.specs.Names.{name_of}
use Rattle.ha_config.specs.Words.{Text, same}
use Rattle.ha_config.proofs.EqualLemmas.{same-refl}
use Rattle.ha_config.proofs.ListLemmas.{append-nil, none-some, some-same, true-false}
use Rattle.ha_journal.specs.declared.entry.Entry.{Entry}
use Rattle.ha_journal.specs.Attempts.{Attempt, passing}
use Rattle.ha_journal.specs.Entries.{reload_in}
use Rattle.ha_journal.specs.Force.{force, has_unit}
use Rattle.ha_journal.specs.Journal.{HasEntry, Journal, last_place, more, units}
use Rattle.ha_journal.proofs.ForceLaws.{force-still, more-units, unit-more}
use Rattle.ha_model.specs.declared.record.Record.{Record}
use Rattle.ha_model.specs.Records.{Records, has_name, is_restart_mode, lets_in_after, mode_of, new_record, own_ends_on, records_of, spots}
use Rattle.ha_model.specs.RunSteps.{attempt_all, joined, own_ends, replace_all, settled}
use Rattle.ha_sight.specs.Scripts.{Spot}
use Rattle.ha_model.proofs.FoldLaws.{records-more}
use Rattle.ha_model.proofs.KnownLaws.{AllKnown, all-known}
use Rattle.reload_laws.specs.Kept.{is_kept}
use Rattle.reload_laws.proofs.KeptLemmas.{has-kept, kept-was}

-- ---- units

-- LAW: what a Reload brings, and does not keep, has a number that no unit had
pub new-behind : (j : Journal) (x : Entry) (c : Config) (a : ℕ) → HasEntry j → reload_in x ≡ Some c → has_unit (force (more j x)) a ≡ true → is_kept (force j) c a ≡ false → length (units j) ≤ a
new-behind j x c a some reloads there other = by (leb_tells (length (units j)) a)
  where
    by : ((nat_le (length (units j)) a ≡ true) × (length (units j) ≤ a)) ⊎ ((nat_le (length (units j)) a ≡ false) × (a < length (units j))) → length (units j) ≤ a
    by (inl (t, le)) = le
    by (inr (f, lt)) = absurd (true-false (sym (has-kept j x c some reloads a lt there) ∙ other))

-- a unit that is not in force is not with one more entry
gone-more : (j : Journal) (x : Entry) (a : ℕ) → a < length (units j) → has_unit (force j) a ≡ false → has_unit (force (more j x)) a ≡ false
gone-more [] x a lt out = absurd (omega (arith, lt))
gone-more (e ∷ es) x a lt out = by (reload_in x) refl
  where
    of : (c : Config) → reload_in x ≡ Some c → (b : Bool) → has_unit (force (more (e ∷ es) x)) a ≡ b → b ≡ false
    of c r true h = absurd (true-false (sym (kept-was (force (e ∷ es)) c a (has-kept (e ∷ es) x c tt r a lt h)) ∙ out))
    of c r false h = refl

    by : (o : Option Config) → reload_in x ≡ o → has_unit (force (more (e ∷ es) x)) a ≡ false
    by None r = (λ i. has_unit (sym (force-still (e ∷ es) x tt r) i) a) ∙ out
    by (Some c) r = of c r (has_unit (force (more (e ∷ es) x)) a) refl

-- LAW: a unit that went is never in force again
pub gone-longer : (j behind : Journal) (a : ℕ) → a < length (units j) → has_unit (force j) a ≡ false → has_unit (force (j ++ behind)) a ≡ false
gone-longer j [] a lt out = (λ i. has_unit (force (append-nil j i)) a) ∙ out
gone-longer j (x ∷ xs) a lt out =
    (λ i. has_unit (force (sym (append_assoc j (x ∷ []) xs) i)) a)
    ∙ gone-longer (more j x) xs a (omega (arith, lt, more-units j x)) (gone-more j x a lt out)

-- ---- runs that are counted

count-from : (p : Record → Bool) (n : ℕ) (rs : Records) (r : Record) → fold (λ m y. m + cond (p y) 1 0) n (rs ++ (r ∷ [])) ≡ fold (λ m y. m + cond (p y) 1 0) n rs + cond (p r) 1 0
count-from p n [] r = refl
count-from p n (y ∷ ys) r = count-from p (n + cond (p y) 1 0) ys r

count-snoc : (p : Record → Bool) (rs : Records) (r : Record) → count_by p (rs ++ (r ∷ [])) ≡ count_by p rs + cond (p r) 1 0
count-snoc p rs r = count-from p 0 rs r

-- the same units and numbers, in order
abbrev AreAlike : Records → Records → Type 0
AreAlike [] [] = Unit {0}
AreAlike [] (r' ∷ rs') = ⊥
AreAlike (r ∷ rs) [] = ⊥
AreAlike (r ∷ rs) (r' ∷ rs') = ((r.automation ≡ r'.automation) × (r.number ≡ r'.number)) × AreAlike rs rs'

alike-itself : (rs : Records) → AreAlike rs rs
alike-itself [] = tt
alike-itself (r ∷ rs) = ((refl, refl), alike-itself rs)

alike-snoc : (rs rs' : Records) (r r' : Record) → AreAlike rs rs' → r.automation ≡ r'.automation → r.number ≡ r'.number → AreAlike (rs ++ (r ∷ [])) (rs' ++ (r' ∷ []))
alike-snoc [] [] r r' h a n = ((a, n), tt)
alike-snoc [] (y' ∷ ys') r r' h a n = absurd h
alike-snoc (y ∷ ys) [] r r' h a n = absurd h
alike-snoc (y ∷ ys) (y' ∷ ys') r r' h a n = (h.0, alike-snoc ys ys' r r' h.1 a n)

count-alike : (test : ℕ → Bool) (m : ℕ) (rs rs' : Records) → AreAlike rs rs'
    → fold (λ n (r : Record). n + cond (test r.automation) 1 0) m rs ≡ fold (λ n (r : Record). n + cond (test r.automation) 1 0) m rs'
count-alike test m [] [] h = refl
count-alike test m [] (r' ∷ rs') h = absurd h
count-alike test m (r ∷ rs) [] h = absurd h
count-alike test m (r ∷ rs) (r' ∷ rs') h =
    (λ i. fold (λ n (r : Record). n + cond (test r.automation) 1 0) (m + cond (test (h.0.0 i)) 1 0) rs) ∙ count-alike test (m + cond (test r'.automation) 1 0) rs rs' h.1

-- each of these has the number that counts those of its name before it
abbrev Counted : Journal → Records → Records → Type 0
Counted j before [] = Unit {0}
Counted j before (r ∷ rs) = (r.number ≡ suc (count_by (has_name j (name_of (units j) r.automation)) before)) × Counted j (before ++ (r ∷ [])) rs

counted-alike : (j : Journal) (before before' rs rs' : Records) → AreAlike before before' → AreAlike rs rs' → Counted j before rs → Counted j before' rs'
counted-alike j before before' [] [] b h g = tt
counted-alike j before before' [] (r' ∷ rs') b h g = absurd h
counted-alike j before before' (r ∷ rs) [] b h g = absurd h
counted-alike j before before' (r ∷ rs) (r' ∷ rs') b h g = (
  sym h.0.1 ∙ g.0
      ∙ (λ i. suc (count_by (has_name j (name_of (units j) (h.0.0 i))) before))
      ∙ ap suc (count-alike (λ a. same (name_of (units j) a) (name_of (units j) r'.automation)) 0 before before' b),
  counted-alike j (before ++ (r ∷ [])) (before' ++ (r' ∷ [])) rs rs' (alike-snoc before before' r r' b h.0.0 h.0.1) h.1 g.1,
)

counted-snoc : (j : Journal) (before rs : Records) (r : Record) → Counted j before rs → r.number ≡ suc (count_by (has_name j (name_of (units j) r.automation)) (before ++ rs)) → Counted j before (rs ++ (r ∷ []))
counted-snoc j before [] r h e = (e ∙ (λ i. suc (count_by (has_name j (name_of (units j) r.automation)) (append-nil before i))), tt)
counted-snoc j before (y ∷ ys) r h e =
    (h.0, counted-snoc j (before ++ (y ∷ [])) ys r h.1 (e ∙ (λ i. suc (count_by (has_name j (name_of (units j) r.automation)) (sym (append_assoc before (y ∷ []) ys) i)))))

-- ---- what the steps of a table leave

own-alike : (places : ℕ → List Spot) (k : Journal) (rs : Records) → AreAlike rs (own_ends_on places k rs)
own-alike places k [] = tt
own-alike places k (r ∷ rs) = ((refl, refl), own-alike places k rs)

replaced-alike : (a p : ℕ) (rs : Records) → AreAlike rs (replace_all a p rs)
replaced-alike a p [] = tt
replaced-alike a p (r ∷ rs) = ((refl, refl), replaced-alike a p rs)

settled-alike : (k : Journal) (before rs : Records) → AreAlike rs (settled k before rs)
settled-alike k before [] = tt
settled-alike k before (r ∷ rs) = ((refl, refl), settled-alike k (r ∷ before) rs)

module _ (k : Journal) where
  counted-joined : (b : Bool) (rs : Records) (x : ℕ × Attempt) → Counted k [] rs → Counted k [] ((if b then replace_all x.1.automation (last_place k) rs else rs) ++ (new_record k rs x ∷ []))
  counted-joined false rs x h = counted-snoc k [] rs (new_record k rs x) h refl
  counted-joined true rs x h =
      let a = x.1.automation in
      let p = last_place k in
      counted-snoc k [] (replace_all a p rs) (new_record k rs x) (counted-alike k [] [] rs (replace_all a p rs) tt (replaced-alike a p rs) h)
      (ap suc (count-alike (λ u. same (name_of (units k) u) (name_of (units k) a)) 0 rs (replace_all a p rs) (replaced-alike a p rs)))

  counted-attempts : (rs : Records) (xs : List (ℕ × Attempt)) → Counted k [] rs → Counted k [] (attempt_all k rs xs)
  counted-attempts rs [] h = h
  counted-attempts rs (x ∷ xs) h =
      counted-attempts (if lets_in_after (units k) rs x.1.automation then joined (mode_of (units k) x.1.automation) x.1.automation (last_place k) rs (new_record k rs x) else rs) xs
      (by (lets_in_after (units k) rs x.1.automation))
    where
      by : (b : Bool) → Counted k [] (if b then joined (mode_of (units k) x.1.automation) x.1.automation (last_place k) rs (new_record k rs x) else rs)
      by true = counted-joined (is_restart_mode (mode_of (units k) x.1.automation)) rs x h
      by false = h

-- ---- with one more entry

name-more : (j : Journal) (x : Entry) (a : ℕ) → a < length (units j) → name_of (units (more j x)) a ≡ name_of (units j) a
name-more j x a lt = (λ i. option_map_or (λ (u : Automation). u.name) (unit-more j x a lt i) [])

module _ (j : Journal) (x : Entry) where
  known-count : (name : Text) (m : ℕ) (rs : Records) → AllKnown (length (units j)) rs
      → fold (λ n r. n + cond (has_name j name r) 1 0) m rs ≡ fold (λ n r. n + cond (has_name (more j x) name r) 1 0) m rs
  known-count name m [] h = refl
  known-count name m (r ∷ rs) h =
      (λ i. fold (λ n r. n + cond (has_name j name r) 1 0) (m + cond (same (sym (name-more j x r.automation h.0) i) name) 1 0) rs)
      ∙ known-count name (m + cond (has_name (more j x) name r) 1 0) rs h.1

  known-snoc : (rs : Records) (r : Record) → AllKnown (length (units j)) rs → r.automation < length (units j) → AllKnown (length (units j)) (rs ++ (r ∷ []))
  known-snoc [] r h lt = (lt, tt)
  known-snoc (y ∷ ys) r h lt = (h.0, known-snoc ys r h.1 lt)

  counted-more : (before rs : Records) → AllKnown (length (units j)) before → AllKnown (length (units j)) rs → Counted j before rs → Counted (more j x) before rs
  counted-more before [] b h g = tt
  counted-more before (r ∷ rs) b h g = (
    g.0
        ∙ (λ i. suc (count_by (has_name j (sym (name-more j x r.automation h.0) i)) before))
        ∙ ap suc (known-count (name_of (units (more j x)) r.automation) 0 before b),
    counted-more (before ++ (r ∷ [])) rs (known-snoc before r b h.0) h.1 g.1,
  )

  counted-step : Counted j [] (records_of j) → Counted (more j x) [] (records_of (more j x))
  counted-step h =
      let k = more j x in
      let rs = records_of j in
      let own = own_ends k rs in
      let all = attempt_all k own (passing k) in
      subst (Counted k []) (sym (records-more j x))
      (counted-alike k [] [] all (settled k [] all) tt (settled-alike k [] all)
      (counted-attempts k own (passing k)
      (counted-alike k [] [] rs own tt (own-alike (spots k) k rs) (counted-more [] rs tt (all-known j) h))))

counted-along : (before xs : Journal) → Counted before [] (records_of before) → Counted (before ++ xs) [] (records_of (before ++ xs))
counted-along before [] h = subst (λ l. Counted l [] (records_of l)) (sym (append-nil before)) h
counted-along before (x ∷ xs) h = subst (λ l. Counted l [] (records_of l)) (append_assoc before (x ∷ []) xs) (counted-along (more before x) xs (counted-step before x h))

counted-first : Counted [] [] (records_of [])
unfolding records_of
counted-first = tt

-- LAW: the number of a run counts the runs of its name before it
counted : (j : Journal) → Counted j [] (records_of j)
counted j = counted-along [] j counted-first

-- ---- the order of numbers

module _ (j : Journal) where
  abbrev name_at : Record → Text
  name_at r = name_of (units j) r.automation

  more-count : (p : Record → Bool) (rs : Records) (r : Record) → count_by p rs ≤ count_by p (rs ++ (r ∷ []))
  more-count p rs r = omega (arith, count-snoc p rs r)

  behind : (before rs : Records) (n : ℕ) (r : Record) → Counted j before rs → slice_get rs n ≡ Some r → count_by (has_name j (name_at r)) before < r.number
  behind before [] n r h e = absurd (none-some r e)
  behind before (y ∷ ys) zero r h e = (let same' = some-same y r e in subst (λ (z : Record). count_by (has_name j (name_at z)) before < z.number) same' (omega (arith, h.0)))
  behind before (y ∷ ys) (suc n) r h e = omega (arith, more-count (has_name j (name_at r)) before y, behind (before ++ (y ∷ [])) ys n r h.1 e)

  ordered : (before rs : Records) (m n : ℕ) (q r : Record) → Counted j before rs → m < n → slice_get rs m ≡ Some q → slice_get rs n ≡ Some r → name_at q ≡ name_at r → q.number < r.number
  ordered before [] m n q r h lt d e named = absurd (none-some q d)
  ordered before (y ∷ ys) m zero q r h lt d e named = absurd (omega (arith, lt))
  ordered before (y ∷ ys) (suc m) (suc n) q r h lt d e named = ordered (before ++ (y ∷ [])) ys m n q r h.1 (omega (arith, lt)) d e named
  ordered before (y ∷ ys) zero (suc n) q r h lt d e named =
      let own : y ≡ q = some-same y q d in
      let first : q.number ≡ suc (count_by (has_name j (name_at r)) before)
      = subst (λ (z : Record). z.number ≡ suc (count_by (has_name j (name_at z)) before)) own h.0 ∙ (λ i. suc (count_by (has_name j (named i)) before)) in
      let has : has_name j (name_at r) y ≡ true = (λ i. same (name_at (own i)) (name_at r)) ∙ (λ i. same (named i) (name_at r)) ∙ same-refl (name_at r) in
      let one : count_by (has_name j (name_at r)) (before ++ (y ∷ [])) ≡ count_by (has_name j (name_at r)) before + 1 = count-snoc (has_name j (name_at r)) before y ∙ (λ i. count_by (has_name j (name_at r)) before + cond (has i) 1 0) in
      omega (arith, first, one, behind (before ++ (y ∷ [])) ys n r h.1 e)

-- LAW: of two runs of units of one name the later one has the greater number
pub numbers-rise : (j : Journal) (m n : ℕ) (q r : Record) → m < n → slice_get (records_of j) m ≡ Some q → slice_get (records_of j) n ≡ Some r
    → name_of (units j) q.automation ≡ name_of (units j) r.automation → q.number < r.number
numbers-rise j m n q r lt d e named = ordered j [] (records_of j) m n q r (counted j) lt d e named
