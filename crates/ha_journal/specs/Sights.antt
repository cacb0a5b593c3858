-- The switch of an automation in force, and whether the last entry changed one.
use Rattle.std.specs.Prelude.{ℕ, ◌-◌, ◌++◌, Bool, false, not, ◌||◌, nat_eq, Option, Some, None, length, take, if◌then◌else◌}
use Rattle.std.specs.List.{list_any}
use Rattle.std.specs.Option.{option_map_or}
use Rattle.ha_config.specs.Equal.{same_flag}
use Rattle.ha_config.specs.Numbered.{has_number}
use Rattle.ha_config.specs.Words.{last_of}
use Rattle.ha_journal.specs.Entries.{is_reload}
use Rattle.ha_journal.specs.Journal.{Journal, in_force}
use Rattle.ha_journal.specs.Switches.{is_on, same_switch, switch_named}

abbrev pub switch_of : Journal → ℕ → Option Bool
switch_of j a = if has_number (in_force j) a then Some (is_on j a) else None

-- one of the names that were in force, or are, has another switch than before, or has one no more, or now
abbrev pub renames : Journal → Journal → Bool
renames before j =
    list_any (λ p. not (same_switch (switch_named before p.1.name) (switch_named j p.1.name))) (in_force before ++ in_force j)

-- the last entry is the first, or it changed a switch: a Reload those of names, any other entry those of numbers
abbrev pub changes_switch : Journal → Bool
changes_switch j =
    nat_eq (length j) 1
    || (if option_map_or is_reload (last_of j) false
    then renames (take (length j - 1) j) j
    else list_any (λ p. not (same_flag (is_on (take (length j - 1) j) p.0) (is_on j p.0))) (in_force j))
