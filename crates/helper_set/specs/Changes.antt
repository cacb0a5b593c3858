-- What changes make of the helpers that are kept.
use Rattle.std.specs.Prelude.{◌≡◌, ℕ, Bool, false, nat_eq, List, Option, Some, None, find, slice_get, option_map, option_and_then}
use Rattle.std.specs.Option.{option_map_or}
use Rattle.ha_sight.specs.declared.helped.HelperChange.{HelperChange}
use Rattle.ha_config.specs.Words.{same_entity}
use Rattle.ha_sight.specs.Known.{due_of}
use Rattle.timer_queue.specs.Timers.{Timer, due_of as timer_of}
use Rattle.helper_set.specs.declared.kept.Kept.{Kept}

-- the change of a helper among these
abbrev pub change_among : List HelperChange → Kept → Option HelperChange
change_among changes k = find (λ c. same_entity c.entity k.helper.entity) changes

-- a helper with its change, if it has one
abbrev pub kept_with : ℕ → Option HelperChange → Kept → Kept
kept_with at None k = k
kept_with at (Some c) k = record k { text = c.text; last = Some (record { change = c; at = at }) }

abbrev pub timer_with : ℕ → Option HelperChange → Option ℕ → Option ℕ
timer_with at None due = due
timer_with at (Some c) due = due_of (record { change = c; at = at })

-- the place is this one
abbrev pub is_at_place : Option ℕ → ℕ → Bool
is_at_place o n = option_map_or (λ p. nat_eq p n) o false

-- each helper is as its change says, if it has one among these
pub record Changes (at : ℕ) (changes : List HelperChange) (before after : List Timer) (old new : List Kept) : Type 0 where
  pub kept : (n : ℕ) → slice_get new n ≡ option_map (λ k. kept_with at (change_among changes k) k) (slice_get old n)
  pub timers : (n : ℕ) → timer_of n after ≡ timer_with at (option_and_then (change_among changes) (slice_get old n)) (timer_of n before)
