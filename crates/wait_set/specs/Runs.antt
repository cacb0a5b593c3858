-- The waits of a run, found by pairs of its serial and their owners.
use Rattle.std.specs.Prelude.{◌≡◌, ◌≤◌, ◌<◌, ℕ, Bool, true, false, nat_eq, List, length, slice_index_or}
use Rattle.std.specs.BTreeSet.{BTreeSet, contains}
use Rattle.std.specs.List.{list_any}
use Rattle.std.specs.Ordering.{nat_cmp, ordering_then}
use Rattle.std.specs.declared.cmp.Ordering.{Ordering}
use Rattle.wait_set.specs.declared.asked.Asked.{Asked}

-- a run, by its serial, and the owner of a wait
abbrev pub Pair : Type 0
Pair = ℕ × ℕ

-- by serial, then owner
abbrev pub pair_cmp : Pair → Pair → Ordering
pair_cmp a b = ordering_then (nat_cmp a.0 b.0) (nat_cmp a.1 b.1)

-- the owner is listed with the run
abbrev pub has_pair : BTreeSet Pair → ℕ → ℕ → Bool
has_pair runs serial owner = contains pair_cmp runs (serial, owner)

-- the wait is listed with its run
abbrev pub IsPaired : BTreeSet Pair → Asked → Type 0
IsPaired runs a = has_pair runs a.ask.serial a.owner ≡ true

-- no wait of the run has a place from one to before another
abbrev pub HasNone : List Asked → ℕ → ℕ → ℕ → Type 0
HasNone asks serial from to = (n : ℕ) (d : Asked) → from ≤ n → n < to → n < length asks → nat_eq (slice_index_or asks n d).ask.serial serial ≡ false

-- a wait of the run has the place, if any has
abbrev pub IsOfRun : List Asked → ℕ → ℕ → Type 0
IsOfRun asks serial at = (d : Asked) → at < length asks → nat_eq (slice_index_or asks at d).ask.serial serial ≡ true

-- the test holds of each wait before a place
abbrev pub AllBefore : (Asked → Bool) → List Asked → ℕ → Type 0
AllBefore f asks to = (n : ℕ) (d : Asked) → n < to → n < length asks → f (slice_index_or asks n d) ≡ true

-- of the owners whose waits went none is listed any more, and none came: the waits before and after, and who was listed before and after
pub record AreUnlisted (asks asks' : List Asked) (listed listed' : ℕ → Bool) : Type 0 where
  pub gone : (o : ℕ) → list_any (λ a. nat_eq a.owner o) asks ≡ true → list_any (λ a. nat_eq a.owner o) asks' ≡ false → listed' o ≡ false
  pub fewer : (o : ℕ) → listed o ≡ false → listed' o ≡ false
