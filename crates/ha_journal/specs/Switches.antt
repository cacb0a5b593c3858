-- Switches: whether an automation is on, and since when.
use Rattle.std.specs.Prelude.{ℕ, suc, Bool, true, false, not, ◌&&◌, ◌||◌, nat_eq, nat_lt, List, [], ◌∷◌, Option, Some, None, length, take, slice_get, option_map, unwrap_or, if◌then◌else◌}
use Rattle.std.specs.Option.{option_map_or}
use Rattle.ha_config.specs.declared.config.Automation.{Automation}
use Rattle.ha_journal.specs.declared.entry.Entry.{Entry}
use Rattle.ha_journal.specs.Entries.{Turning, turning, opens_segment, reload_in}
use Rattle.ha_journal.specs.Force.{Force, first_force, force_after, reloaded}
use Rattle.ha_config.specs.Words.{Text, same, last_below}
use Rattle.ha_journal.specs.Journal.{Journal, in_force, units}
use Rattle.ha_config.specs.Names.{initial_of, name_of, named_among, stored_switch, unit_of}

-- the last new value that a Switched item gives to a
abbrev pub switched : ℕ → List (ℕ × Bool × Bool) → Option Bool
switched a [] = None
switched a (s ∷ ss) = else_this (switched a ss)
  where
    else_this : Option Bool → Option Bool
    else_this (Some b) = Some b
    else_this None = if nat_eq s.0 a then Some s.1 else None

module _ (all : List Automation) (a : ℕ) where
  -- the switch after an entry, from the one before it, of a unit that was in force before the entry
  abbrev pub on_turned : Bool → Turning → Bool
  on_turned before (Turning.Opens stored) =
      unwrap_or (initial_of all a) (unwrap_or (stored_switch (name_of all a) (unwrap_or stored [])) true)
  on_turned before Turning.Restarts = unwrap_or (initial_of all a) before
  on_turned before (Turning.Turns name on stop) = if same name (name_of all a) then on else before
  on_turned before (Turning.TurnsEach targets) = unwrap_or (switched a targets) before
  on_turned before Turning.Reloads = before
  on_turned before Turning.Leaves = before

  abbrev pub on_after : Bool → Entry → Bool
  on_after before x = on_turned before (turning x)

-- the switch with which one comes into force at a Reload: its initial state, else that of the automation of its name before, else on
abbrev pub on_entered : Force → (ℕ → Bool) → Automation → Bool
on_entered f on y = unwrap_or y.initial (option_map_or on (named_among f.rules y.name) true)

-- the switches after an entry, by number
abbrev pub switches_after : Force → (ℕ → Bool) → Entry → ℕ → Bool
switches_after f on x a =
    option_map_or
    (λ c. if nat_lt a (length f.units) then on a else option_map_or (on_entered f on) (unit_of (reloaded f c).units a) true)
    (reload_in x)
    (on_after f.units a (on a) x)

abbrev pub switches_from : Force → (ℕ → Bool) → List Entry → ℕ → Bool
switches_from f on [] = on
switches_from f on (x ∷ xs) = switches_from (force_after f x) (switches_after f on x) xs

abbrev pub is_on : Journal → ℕ → Bool
is_on [] a = true
is_on (e ∷ es) a = switches_from (first_force e) (λ b. on_after (first_force e).units b true e) es a

abbrev pub opens_at : Journal → ℕ → Bool
opens_at j n = option_map_or opens_segment (slice_get j n) false

-- automation a came into force with the entry at place n
abbrev pub enters_at : Journal → ℕ → ℕ → Bool
enters_at j a n = not (nat_lt a (length (units (take n j)))) && nat_lt a (length (units (take (suc n) j)))

-- the place of the latest of the last Boot or Restart, the Reload at which it came into force, and the last entry at which the switch
-- turned on
abbrev pub since : Journal → ℕ → ℕ
since j a =
    unwrap_or
    (last_below (λ n. opens_at j n || enters_at j a n || (not (is_on (take n j) a) && is_on (take (suc n) j) a)) (length j))
    0

-- the switch of the automation in force of this name, if there is one
abbrev pub switch_named : Journal → Text → Option Bool
switch_named j name = option_map (is_on j) (named_among (in_force j) name)

-- no switch, or the same one
abbrev pub same_switch : Option Bool → Option Bool → Bool
same_switch None None = true
same_switch (Some x) (Some y) = if x then y else not y
same_switch None (Some y) = false
same_switch (Some x) None = false

-- the place of the latest of the last Boot, the last Restart and the last entry that changed the switch of this name, or brought the name
-- into force
abbrev pub name_switched_at : Journal → Text → ℕ
name_switched_at j name =
    unwrap_or
    (last_below (λ n. opens_at j n || not (same_switch (switch_named (take n j) name) (switch_named (take (suc n) j) name))) (length j))
    0

abbrev pub switched_at : Journal → ℕ → ℕ
switched_at j a = name_switched_at j (name_of (units j) a)
