use Rattle.std.proofs.Common.{◌+◌, false}
use Rattle.ha_value.specs.declared.value.EntityId.{EntityId}
use Rattle.ha_journal.specs.Journal.{last_place}
use Rattle.engine_parts.specs.Runs.{first_wait}
use Rattle.engine_parts.proofs.tested.tested_for.Goals as goal

pub returns : goal.returns
returns c = c.in_ok-add_readers.ensures (first_wait + last_place c.args.journal.now) (λ (e : EntityId). false) c.in_ok-tested.ensures
