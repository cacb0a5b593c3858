-- Attempts: what an entry asks to run.
use Rattle.std.specs.Prelude.{ℕ, suc, Bool, true, false, ◌||◌, List, [], ◌∷◌, ◌++◌, take, slice_get, map, flat_map, codes, if◌then◌else◌, filter}
use Rattle.std.specs.List.{enumerate_from}
use Rattle.std.specs.Option.{option_map_or}
use Rattle.ha_value.specs.declared.value.Value.{Value}
use Rattle.ha_value.specs.declared.value.Value.TheVariants.{Pairs as Map}
use Rattle.ha_config.specs.declared.config.Automation.{Automation}
use Rattle.ha_journal.specs.declared.entry.Entry.{Entry}
use Rattle.ha_journal.specs.Entries.{Asked, asked_in}
use Rattle.ha_config.specs.Words.{Pairs}
use Rattle.ha_journal.specs.Journal.{Journal, in_force, last_place, through, units}
use Rattle.ha_config.specs.Names.{named_among, unit_of}
use Rattle.ha_journal.specs.Switches.{is_on, since}
use Rattle.ha_sight.specs.Conditions.{hold_all}
use Rattle.ha_journal.specs.Triggers.{Fired, firings}
use Rattle.ha_journal.specs.Moves.{sight}

pub record Attempt : Type 0 where
  -- its unit
  pub automation : ℕ
  pub env : Pairs
  -- whether its conditions are skipped
  pub skip : Bool

abbrev pub by_hand : Pairs
by_hand = (codes "trigger", Map ((codes "platform", Value.Null) ∷ [])) ∷ []

-- the attempt that a firing of one of an automation's triggers makes
abbrev pub attempt_for : ℕ → Fired → Attempt
attempt_for a f = record { automation = a; env = (codes "trigger", f.variables) ∷ []; skip = false }

module _ (j : Journal) (p : ℕ) where
  -- the attempts by the triggers of one automation that is on, in order of trigger and entity
  abbrev pub fired_for : ℕ × Automation → List Attempt
  fired_for x = if is_on (take (suc p) j) x.0 then map (attempt_for x.0) (firings j x.1.triggers (since (take (suc p) j) x.0) p) else []

  abbrev pub fired : List Attempt
  fired = flat_map fired_for (in_force (through j p))

  abbrev pub attempts_asked : Asked → List Attempt
  attempts_asked (Asked.ByName name skip) =
      option_map_or (λ a. record { automation = a; env = by_hand; skip = skip } ∷ []) (named_among (in_force (through j p)) name) []
  attempts_asked (Asked.ByNumber chosen skip) = map (λ a. record { automation = a; env = by_hand; skip = skip }) chosen
  attempts_asked (Asked.OfScripts chosen fields) = map (λ a. record { automation = a; env = by_hand ++ fields; skip = true }) chosen
  attempts_asked Asked.Nobody = fired

  -- all attempts of an entry, in order
  abbrev pub attempts_of : Entry → List Attempt
  attempts_of x = attempts_asked (asked_in x)

  abbrev pub attempts : List Attempt
  attempts = option_map_or attempts_of (slice_get j p) []

  -- there is such a unit, and its conditions all hold after the entry or are skipped
  abbrev pub passes : Attempt → Bool
  passes x = option_map_or (λ a. x.skip || hold_all (sight j (suc p)) a.tests x.env) (unit_of (units j) x.automation) false

-- the attempts of the last entry that pass, each with its order there
abbrev pub passing : Journal → List (ℕ × Attempt)
passing j = filter (λ x. passes j (last_place j) x.1) (enumerate_from 0 (attempts j (last_place j)))
