use Rattle.std.proofs.Common.{◌+◌}
use Rattle.ha_journal.specs.Journal.{last_place}
use Rattle.engine_parts.specs.Runs.{first_wait}
use Rattle.engine_parts.proofs.tested.tested_by.Goals as goal

pub returns : goal.returns
returns c = c.in_ok-add_listed.ensures (first_wait + last_place c.args.journal.now) c.in_ok-tested.ensures
