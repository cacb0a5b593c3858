-- What is kept of a trigger's hold, and what one more entry does to a trigger.
use Rattle.std.specs.Prelude.{ℕ, suc, ◌+◌, Bool, ◌&&◌, ◌||◌, nat_le, nat_lt, length, take}
use Rattle.std.specs.Prelude.{Option, Some, None, is_some, option_map, option_and_then, if◌then◌else◌}
use Rattle.ha_value.specs.declared.value.EntityId.{EntityId}
use Rattle.ha_value.specs.declared.value.Value.{Value}
use Rattle.ha_config.specs.declared.config.Trigger.{Trigger}
use Rattle.ha_journal.specs.declared.entry.Entry.{Entry}
use Rattle.ha_journal.specs.Entries.{is_moment}
use Rattle.ha_journal.specs.Journal.{Journal, now, more}
pub use Rattle.ha_config.specs.Words.{or_else}
use Rattle.ha_journal.specs.Moves.{sight, moves}
use Rattle.ha_sight.specs.Rules.{starts}
use Rattle.ha_journal.specs.Holds.{watches}
use Rattle.ha_journal.specs.Variables.{variables}
use Rattle.ha_past.specs.Holds.{pending}

-- what is kept of a hold: the moment at which it is over, and the variables that it will give
pub record Holding : Type 0 where
  pub due : ℕ
  pub value : Value

abbrev pub holding_of : Journal → Trigger → Option EntityId → ℕ → ℕ → Holding
holding_of j t e d i = record { due = now (take (suc i) j) + d; value = variables j t e i }

-- the pending hold of a trigger after a journal
abbrev pub standing : Journal → Trigger → Option EntityId → ℕ → Option Holding
standing j t e since = option_and_then (λ d. option_map (holding_of j t e d) (pending j t e since)) t.hold

-- a hold is over at a moment entry after which Now is its due or later
abbrev pub is_ripe : Entry → ℕ → Holding → Bool
is_ripe x at h = is_moment x && nat_le h.due at

module _ (j : Journal) (x : Entry) (t : Trigger) (e : Option EntityId) (since : ℕ) where
  -- what it watches stays as it was
  abbrev pub stays_watched : Bool
  stays_watched = watches (sight j (length j)) (sight (more j x) (suc (length j))) j (more j x) t.rule e

  -- it moves, after its since
  abbrev pub moves_here : Bool
  moves_here = nat_lt since (length j) && moves (more j x) t e (length j)

  -- it moves, after its since or as a start trigger
  abbrev pub moves_after : Bool
  moves_after = moves (more j x) t e (length j) && (nat_lt since (length j) || starts t.rule)

  -- the variables with which it moves
  abbrev pub moves_with : Option Value
  moves_with = if moves_after then Some (variables (more j x) t e (length j)) else None

  -- its hold once the entry has moved it, before the holds that are over fire
  abbrev pub arrived : Option Holding
  arrived =
      option_and_then (λ d. or_else (if stays_watched then standing j t e since else None)
      (if moves_here then Some (holding_of (more j x) t e d (length j)) else None)) t.hold

  -- what a trigger without `for` gives at the entry
  abbrev pub at_once : Option Value
  at_once = if is_some t.hold then None else moves_with

-- of a hold: what it gives if it is over, and that it is left if it is not
abbrev pub ripe_value : Entry → ℕ → Option Holding → Option Value
ripe_value x at o = option_and_then (λ h. if is_ripe x at h then Some h.value else None) o

abbrev pub unripe : Entry → ℕ → Option Holding → Option Holding
unripe x at o = option_and_then (λ h. if is_ripe x at h then None else Some h) o
