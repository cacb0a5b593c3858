-- The variables that a trigger gives.
use Rattle.std.specs.Prelude.{ℕ, Option, option_map}
use Rattle.ha_value.specs.declared.value.EntityId.{EntityId}
use Rattle.ha_value.specs.declared.value.Value.{Value}
use Rattle.ha_config.specs.declared.config.Trigger.{Trigger}
use Rattle.ha_config.specs.Words.{Text, Pairs}
use Rattle.ha_journal.specs.Journal.{Journal}
use Rattle.ha_journal.specs.Helpers.{event_for, events_at}
use Rattle.ha_journal.specs.Moves.{before, after}
use Rattle.ha_sight.specs.Rules.{given}

module _ (j : Journal) where
  -- the event of e at place i: of a timer, or of nobody
  abbrev pub event_at : Option EntityId → ℕ → Option (Text × Pairs)
  event_at e i = option_map (λ v. (v.kind, v.pairs)) (event_for e (events_at j i))

  -- the variables of trigger t that moved at place i for entity e
  abbrev pub variables : Trigger → Option EntityId → ℕ → Value
  variables t e i = given (before j i) (after j i) (event_at e i) t e
