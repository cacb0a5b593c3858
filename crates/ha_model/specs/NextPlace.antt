-- What a run gives at its next place.
use Rattle.std.specs.Prelude.{◌++◌, [], ◌∷◌, Option, option_and_then}
use Rattle.ha_sight.specs.declared.item.Item.{Item}
use Rattle.ha_model.specs.declared.record.EndCause.{EndCause}
use Rattle.ha_model.specs.declared.record.Record.{Record}
use Rattle.ha_config.specs.Words.{last_of}
use Rattle.ha_journal.specs.Journal.{Journal}
use Rattle.ha_sight.specs.Scripts.{Branch}
use Rattle.ha_model.specs.Records.{next_spot, ran_on, spots, script_end}

-- the item of a run's next place in this branch
abbrev pub next_item : Journal → Record → Branch → Option Item
next_item j r branch = option_and_then (λ o. last_of o.items) (ran_on j r (spots j r.serial ++ (next_spot j branch ∷ [])))

-- how the run ends at its next place in this branch, if it does
abbrev pub next_end : Journal → Record → Branch → Option EndCause
next_end j r branch = option_and_then (λ o. script_end o.status) (ran_on j r (spots j r.serial ++ (next_spot j branch ∷ [])))
