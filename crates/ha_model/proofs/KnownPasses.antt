-- Records by passes are of units that were there at their places, and such a unit is the same in every longer journal.
use Rattle.std.proofs.Common.{◌≡◌, ℕ, zero, suc, ◌<◌, ◌≤◌, List, [], ◌∷◌, ◌++◌, length, Bool, true, false, cond, refl, sym, subst, arith}
use Rattle.std.specs.Prelude.{filter, slice_get, if◌then◌else◌}
use Rattle.std.specs.List.{enumerate_from}
use Rattle.std.specs.Option.{option_map_or}
use Rattle.ha_config.specs.declared.config.Automation.{Automation}
use Rattle.ha_config.specs.declared.config.Mode.{Mode}
use Rattle.ha_journal.specs.declared.entry.Entry.{Entry}
use Rattle.ha_journal.specs.Journal.{Journal, HasEntry, last_place, more, through, units}
use Rattle.ha_journal.specs.Attempts.{Attempt, attempts, passes, passing}
use Rattle.ha_journal.proofs.ForceLaws.{front-units, unit-between, unit-more}
use Rattle.ha_model.specs.declared.record.Record.{Record}
use Rattle.ha_model.specs.Records.{Records, lets_in_after, mode_of, new_record}
use Rattle.ha_model.proofs.Passes.{admitted, bare, bare_below, ended, with_ends}
use Rattle.ha_model.proofs.RecordLaws.{last-through}

-- ---- what passes

pub there : {X : Type 0} (test : X → Bool) (xs : List X) (n : ℕ) → option_map_or test (slice_get xs n) false ≡ true → n < length xs
there test [] n h = cc
there test (x ∷ xs) zero h = omega arith
there test (x ∷ xs) (suc n) h = (let lt = there test xs n h in omega (arith, lt))

-- each of these attempts is of one of so many units
abbrev pub AllNamed : ℕ → List (ℕ × Attempt) → Type 0
AllNamed n [] = Unit {0}
AllNamed n (x ∷ xs) = (x.1.automation < n) × AllNamed n xs

named-kept : (n : ℕ) (test : ℕ × Attempt → Bool) → ((x : ℕ × Attempt) → test x ≡ true → x.1.automation < n) → (xs : List (ℕ × Attempt)) → AllNamed n (filter test xs)
named-kept n test f [] = tt
named-kept n test f (x ∷ xs) = by (test x) refl (named-kept n test f xs)
  where
    by : (b : Bool) → test x ≡ b → AllNamed n (filter test xs) → AllNamed n (cond b (x ∷ filter test xs) (filter test xs))
    by true e rest = (f x e, rest)
    by false e rest = rest

-- LAW: an attempt that passes is of a unit that there is
pub passes-named : (k : Journal) (p : ℕ) (x : Attempt) → passes k p x ≡ true → x.automation < length (units k)
passes-named k p x h = there _ (units k) x.automation h

pub passing-named : (k : Journal) → AllNamed (length (units k)) (passing k)
passing-named k = named-kept (length (units k)) (λ x. passes k (last_place k) x.1) (λ x h. passes-named k (last_place k) x.1 h) (enumerate_from 0 (attempts k (last_place k)))

-- ---- the units of records

-- the record's unit was there at its place
abbrev pub IsKnownAt : Journal → Record → Type 0
IsKnownAt j r = r.automation < length (units (through j r.place))

abbrev pub AllKnownAt : Journal → Records → Type 0
AllKnownAt j [] = Unit {0}
AllKnownAt j (r ∷ rs) = IsKnownAt j r × AllKnownAt j rs

known-snoc : (j : Journal) (rs : Records) (r : Record) → AllKnownAt j rs → IsKnownAt j r → AllKnownAt j (rs ++ (r ∷ []))
known-snoc j [] r h one = (one, tt)
known-snoc j (y ∷ ys) r h one = (h.0, known-snoc j ys r h.1 one)

known-admitted : (j : Journal) (p : ℕ) → p < length j → (rs : Records) (xs : List (ℕ × Attempt)) → AllNamed (length (units (through j p))) xs → AllKnownAt j rs → AllKnownAt j (admitted (through j p) rs xs)
known-admitted j p lt rs [] named h = h
known-admitted j p lt rs (x ∷ xs) named h =
    known-admitted j p lt (if lets_in_after (units k) (with_ends k rs) x.1.automation then rs ++ (new_record k rs x ∷ []) else rs) xs named.1
    (by (lets_in_after (units k) (with_ends k rs) x.1.automation))
  where
    k : Journal
    k = through j p

    by : (b : Bool) → AllKnownAt j (if b then rs ++ (new_record k rs x ∷ []) else rs)
    by true = known-snoc j rs (new_record k rs x) h (subst (λ (q : ℕ). x.1.automation < length (units (through j q))) (sym (last-through j p lt)) named.0)
    by false = h

-- LAW: each record was admitted for a unit that there was
pub known-bare : (j : Journal) (n : ℕ) → n ≤ length j → AllKnownAt j (bare_below j n)
known-bare j zero le = tt
known-bare j (suc p) le =
    known-admitted j p (omega arith) (bare_below j p) (passing (through j p)) (passing-named (through j p)) (known-bare j p (omega arith))

known-ends : (j k : Journal) (rs : Records) → AllKnownAt j rs → AllKnownAt j (with_ends k rs)
known-ends j k [] h = tt
known-ends j k (r ∷ rs) h = (h.0, known-ends j k rs h.1)

-- ---- modes

-- the mode of a unit that was known at place p is the same from there on
pub mode-between : (k : Journal) (p q a : ℕ) → p ≤ q → a < length (units (through k p)) → mode_of (units (through k q)) a ≡ mode_of (units k) a
mode-between k p q a le lt = (λ i. option_map_or (λ (x : Automation). x.mode) (unit-between k p q a le lt i) Mode.Single)

-- the modes of these records' units are the same in both journals
abbrev pub AllModesKept : Journal → Journal → Records → Type 0
AllModesKept j k [] = Unit {0}
AllModesKept j k (r ∷ rs) = (mode_of (units j) r.automation ≡ mode_of (units k) r.automation) × AllModesKept j k rs

modes-kept : (j : Journal) (x : Entry) (rs : Records) → AllKnownAt j rs → AllModesKept j (more j x) rs
modes-kept j x [] h = tt
modes-kept j x (r ∷ rs) h =
    let grown : length (units (through j r.place)) ≤ length (units j) = front-units j (suc r.place) in
    let known : r.automation < length (units j) = omega (arith, h.0, grown) in (
      (λ i. option_map_or (λ (a : Automation). a.mode) (sym (unit-more j x r.automation known) i) Mode.Single),
      modes-kept j x rs h.1,
    )

-- LAW: the modes of all records' units stay with one more entry
pub modes-more : (j : Journal) (x : Entry) → HasEntry j → AllModesKept j (more j x) (ended j)
modes-more j x h = modes-kept j x (ended j) (known-ends j j (bare j) (known-bare j (length j) (omega arith)))
