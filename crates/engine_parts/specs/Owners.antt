-- Who has triggers attached for the automations, and the attempts that firings are.
use Rattle.std.specs.Prelude.{ℕ, suc, ◌<◌, ◌≤◌, Bool, false, ◌&&◌, nat_eq, nat_lt, List, [], ◌∷◌, filter, flat_map, map, if◌then◌else◌}
use Rattle.std.specs.List.{enumerate_from}
use Rattle.ha_config.specs.declared.config.Automation.{Automation}
use Rattle.ha_config.specs.Numbered.{has_number}
use Rattle.ha_journal.specs.declared.firing.Firing.{Firing}
use Rattle.ha_journal.specs.Journal.{Journal, in_force, through, units}
use Rattle.ha_journal.specs.Switches.{is_on, since}
use Rattle.ha_journal.specs.Attempts.{Attempt}
use Rattle.ha_past.specs.Firings.{Owner}
use Rattle.engine_parts.specs.Runs.{first_wait}

-- an automation that is in force and on after place p has its triggers attached under its number, since it is on
abbrev pub owner_on : Journal → ℕ → ℕ × Automation → List Owner
owner_on j p x =
    if has_number (in_force (through j p)) x.0 && is_on (through j p) x.0
    then record { owner = x.0; triggers = x.1.triggers; since = since (through j p) x.0 } ∷ []
    else []

-- by their numbers
abbrev pub owners_on : Journal → ℕ → List Owner
owners_on j p = flat_map (owner_on j p) (enumerate_from 0 (units (through j p)))

-- the attempt that a firing is
abbrev pub attempt_by : Firing → Attempt
attempt_by f = record { automation = f.owner; env = f.env; skip = false }

-- the owner, and the firing, is of an automation
abbrev pub is_automation : Owner → Bool
is_automation o = nat_lt o.owner first_wait

abbrev pub is_attempt : Firing → Bool
is_attempt f = nat_lt f.owner first_wait

abbrev pub attempts_by : List Firing → List Attempt
attempts_by fired = map attempt_by (filter is_attempt fired)

-- the firings of these owners, in this order
abbrev pub as_configured : List ℕ → List Firing → List Firing
as_configured numbers fired = flat_map (λ n. filter (λ f. nat_eq f.owner n) fired) numbers

-- the same, of firings in the order of their owners, where it is known whether the numbers ascend
abbrev pub ordered : Bool → List ℕ → List Firing → List Firing
ordered ascending numbers fired = if ascending then fired else as_configured numbers fired

-- the owners stand in the order of their numbers, from n on, each once
abbrev pub AreAscending : ℕ → List Owner → Type 0
AreAscending n [] = Unit {0}
AreAscending n (o ∷ os) = (n ≤ o.owner) × AreAscending (suc o.owner) os

-- each owner is below n
abbrev pub AreBelow : ℕ → List Owner → Type 0
AreBelow n [] = Unit {0}
AreBelow n (o ∷ os) = (o.owner < n) × AreBelow n os
