-- The last target of each automation that a step switches.
use Rattle.std.specs.Prelude.{◌≡◌, ℕ, Bool, true, false, not, ◌&&◌, is_some, List, [], ◌∷◌, ◌++◌, Some, None, if◌then◌else◌}
use Rattle.std.specs.BTreeSet.{BTreeSet, contains}
use Rattle.std.specs.Ordering.{nat_cmp}
use Rattle.ha_journal.specs.Switches.{switched}
use Rattle.ha_sight.specs.Sight.{Automations, switch_at}
use Rattle.engine_entry.specs.Turned.{AreOnce, Target, is_target}

-- an automation of this number is in force, by the switches
abbrev pub knows : Automations → ℕ → Bool
knows s a = is_some (switch_at s a)

-- each is of a known automation, and has the last new value that these targets give it
abbrev pub EachLast : (ℕ → Bool) → List Target → List Target → Type 0
EachLast known targets [] = Unit {0}
EachLast known targets (t ∷ ts) = (known t.0 ≡ true) × (switched t.0 targets ≡ Some t.1) × EachLast known targets ts

-- these are the last ones of these targets, once for each known automation that they name
pub record AreLasts (known : ℕ → Bool) (targets kept : List Target) : Type 0 where
  pub once : AreOnce kept
  pub last : EachLast known targets kept
  pub all : (a : ℕ) → known a ≡ true → is_target kept a ≡ false → switched a targets ≡ None

-- a target of a known automation that none of those kept is of
abbrev pub is_new : (ℕ → Bool) → List Target → Target → Bool
is_new known kept t = known t.0 && not (is_target kept t.0)

abbrev pub kept_with : (ℕ → Bool) → List Target → Target → List Target
kept_with known kept t = if is_new known kept t then kept ++ (t ∷ []) else kept

-- the set has the automations of these targets
abbrev pub AreSeen : BTreeSet ℕ → List Target → Type 0
AreSeen seen kept = (a : ℕ) → contains nat_cmp seen a ≡ is_target kept a
