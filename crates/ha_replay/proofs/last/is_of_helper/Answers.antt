use Rattle.std.proofs.Common.{◌∙◌}
use Rattle.ha_config.specs.Helpers.{is_helper}
use Rattle.ha_journal.specs.Journal.{helpers}
use Rattle.ha_replay.proofs.last.is_of_helper.Goals as goal

pub returns : goal.returns
returns g c = c.is_first_helper.ensures ∙ (λ i. is_helper (helpers (c.journal.ensures.value i)) c.args.entity.now)
