-- Which waits an entry concerns.
use Rattle.std.specs.Prelude.{◌≡◌, ◌<◌, ℕ, Bool, false, nat_eq, List, length, slice_index_or}
use Rattle.std.specs.List.{AllPairs, list_any}
use Rattle.std.specs.BTreeSet.{BTreeSet, contains}
use Rattle.std.specs.Ordering.{nat_cmp}
use Rattle.ha_journal.specs.declared.firing.Firing.{Firing}
use Rattle.ha_sight.specs.Sight.{Sight}
use Rattle.wait_set.specs.declared.asked.Asked.{Asked}
use Rattle.wait_set.specs.Asked.{ends_in, noted_one}

-- the number is in the set
abbrev pub has : BTreeSet ℕ → ℕ → Bool
has set n = contains nat_cmp set n

-- something fires for the owner
abbrev pub fires_for : List Firing → ℕ → Bool
fires_for fired owner = list_any (λ (f : Firing). nat_eq f.owner owner) fired

-- each owner is less than those of later waits
abbrev pub Ascend : List Asked → Type 0
Ascend asks = AllPairs (λ a b. a.owner < b.owner) asks

-- the fact holds of each wait whose place is not among these
abbrev pub OfOthers : (Asked → Type 0) → BTreeSet ℕ → List Asked → Type 0
OfOthers P places asks = (n : ℕ) (d : Asked) → n < length asks → has places n ≡ false → P (slice_index_or asks n d)

-- the entry leaves the wait as it is
pub record IsStill (q : ℕ) (s : Sight) (fired : List Firing) (a : Asked) : Type 0 where
  pub noted : noted_one q s fired a ≡ a
  pub ends : ends_in q s fired a ≡ false
