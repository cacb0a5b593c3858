use Rattle.std.proofs.Common.{ap, ◌∙◌}
use Rattle.std.specs.Prelude.{option_and_then}
use Rattle.ha_sight.specs.Sight.{switch_at}
use Rattle.engine_entry.proofs.reload.switch_before.Goals as goal

pub returns : goal.returns
returns c = c.switch_of.ensures ∙ ap (option_and_then (switch_at c.args.switches.now)) c.number_by-number.ensures
