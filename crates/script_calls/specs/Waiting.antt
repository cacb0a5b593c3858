-- Who waits for which run.
use Rattle.std.specs.Prelude.{◌≡◌, ℕ, Bool, false, nat_eq, List, [], ◌∷◌, Option, Some, None, if◌then◌else◌}
use Rattle.std.specs.BTreeMap.{BTreeMap, get}
use Rattle.std.specs.BTreeSet.{BTreeSet}
use Rattle.std.specs.Ordering.{nat_cmp}
use Rattle.ha_sight.specs.Scripts.{Branch}
use Rattle.wait_set.specs.Runs.{Pair, has_pair}

-- the run that waits, by its serial, and the branch that made the call
abbrev pub Caller : Type 0
Caller = ℕ × Branch

-- each run that is waited for, by its serial, with its caller
abbrev pub Waiting : Type 0
Waiting = List (ℕ × Caller)

-- who waits for a run
abbrev pub caller_of : ℕ → Waiting → Option Caller
caller_of called [] = None
caller_of called (x ∷ xs) = if nat_eq called x.0 then Some x.1 else caller_of called xs

-- a caller that is not this run
abbrev pub unless_by : ℕ → Option Caller → Option Caller
unless_by caller None = None
unless_by caller (Some w) = if nat_eq caller w.0 then None else Some w

-- ---- as it is kept: a map by called runs, and the pairs of a caller and a run that it waits for, in the order of `wait_set`'s

-- who waits for a run, by the map
abbrev pub caller_in : BTreeMap ℕ Caller → ℕ → Option Caller
caller_in callers called = get nat_cmp callers called

-- the run is this caller
abbrev pub is_by : ℕ → Option Caller → Bool
is_by caller None = false
is_by caller (Some w) = nat_eq caller w.0

-- a caller and a run are listed exactly where the one waits for the other
abbrev pub AreListed : BTreeMap ℕ Caller → BTreeSet Pair → Type 0
AreListed callers pairs = (caller called : ℕ) → has_pair pairs caller called ≡ is_by caller (caller_in callers called)
