-- What the templates of triggers read.
use Rattle.std.specs.Prelude.{◌≡◌, ℕ, List, MatchOption, Option, option_and_then, slice_get}
use Rattle.ha_value.specs.declared.value.EntityId.{EntityId}
use Rattle.ha_config.specs.declared.config.Trigger.{Trigger}
use Rattle.event_bus.specs.Subjects.{read_of}

-- what a list has at a place, if it is so long
abbrev pub read_at : List (Option (List EntityId)) → ℕ → Option (List EntityId)
read_at reads n = option_and_then (λ r. r) (slice_get reads n)

-- the list has, at the place of each trigger, the entities that its template reads, where it has one and they are known
abbrev pub AreRead : List Trigger → List (Option (List EntityId)) → Type 0
AreRead triggers reads = (n : ℕ) → MatchOption (slice_get triggers n) (Unit {0}) (λ t. read_at reads n ≡ read_of t.rule)
