-- Switches by automation, and which journals they stand for.
use Rattle.std.specs.Prelude.{◌≡◌, Bool, false, true, ℕ, suc, List, [], ◌∷◌, map, fold, nat_eq, Option, Some, None, option_and_then, slice_get, unwrap_or, ◌&&◌, if◌then◌else◌}
use Rattle.std.specs.List.{enumerate_from}
use Rattle.std.specs.Option.{option_map_or}
use Rattle.ha_config.specs.declared.config.Automation.{Automation}
use Rattle.ha_config.specs.Words.{Text}
use Rattle.ha_config.specs.Names.{initial_of, stored_switch}
use Rattle.ha_journal.specs.Journal.{Journal}
use Rattle.ha_journal.specs.States.{switches_seen}
use Rattle.ha_sight.specs.Sight.{Automations, switch_at}
use Rattle.store_text.specs.Store.{AreStorable, Switches, by_names}

-- a switch by the number and the name of its automation
abbrev pub Switch : Type 0
Switch = ℕ × Text × Bool

-- a switch at the Boot: its initial state, else the stored one, else on
abbrev pub opening : Option Switches → Automation → Bool
opening stored a = unwrap_or a.initial (unwrap_or (stored_switch a.name (unwrap_or stored [])) true)

-- those at the Boot, where each automation's number is its place
abbrev pub restored : Option Switches → List Automation → Automations
restored stored all = map {A = ℕ × Automation} {B = Switch} (λ p. (p.0, p.1.name, opening stored p.1)) (enumerate_from 0 all)

-- the switch, where it has this number, is so
abbrev pub turned : ℕ → Bool → Switch → Switch
turned a on p = (p.0, p.1, if nat_eq p.0 a then on else p.2)

-- the switch of a number is so, and all others are as they were
abbrev pub with_switch : ℕ → Bool → Automations → Automations
with_switch a on s = map {A = Switch} {B = Switch} (turned a on) s

-- the switches of a Switched item's targets, set in turn
abbrev pub set_each : Automations → List (ℕ × Bool × Bool) → Automations
set_each s targets = fold (λ t x. with_switch x.0 x.1 t) s targets

-- each item by its place, from n on
abbrev pub each_from : {X : Type 0} → (ℕ → X → X) → ℕ → List X → List X
each_from f n [] = []
each_from f n (x ∷ xs) = f n x ∷ each_from f (suc n) xs

-- the switch of the automation at a place behind a Restart: its initial state, else what it was
abbrev pub reset : List Automation → ℕ → Switch → Switch
reset all at p = (p.0, p.1, unwrap_or (initial_of all at) p.2)

abbrev pub restarted : List Automation → Automations → Automations
restarted all s = each_from (reset all) 0 s

-- a switch behind a Reload: that of its number before, else its initial state, else that of its name before, else on
abbrev pub goes_on : Automations → ℕ × Automation → Bool
goes_on s p = unwrap_or (switch_at s p.0) (unwrap_or p.1.initial (unwrap_or (stored_switch p.1.name (by_names s)) true))

-- those behind a Reload with which these automations come into force, each with its number
abbrev pub reloaded : Automations → List (ℕ × Automation) → Automations
reloaded s all = map {A = ℕ × Automation} {B = Switch} (λ p. (p.0, p.1.name, goes_on s p)) all

-- ---- places by numbers

-- the switch at a place, where it has this number
abbrev pub on_there : Automations → ℕ → ℕ → Option Bool
on_there s a at = option_and_then (λ p. if nat_eq p.0 a then Some p.2 else None) (slice_get s at)

-- this place stands there
abbrev pub is_place : ℕ → Option ℕ → Bool
is_place n o = option_map_or (nat_eq n) o false

-- from place n on each switch has its place in a table, under its number
abbrev pub are_placed : List ℕ → ℕ → Automations → Bool
are_placed places n [] = true
are_placed places n (p ∷ s) = is_place n (slice_get places p.0) && are_placed places (suc n) s

-- the switches can be stored, and each one's place stands in the table under its number, so that no two have one number
pub record AreKept (s : Automations) (places : List ℕ) : Type 0 where
  pub storable : AreStorable (by_names s)
  pub placed : are_placed places 0 s ≡ true

-- switches stand for a journal: they are those of the automations in force, in the order of the configuration
abbrev pub StandsFor : Automations → Journal → Type 0
StandsFor s j = s ≡ switches_seen j
