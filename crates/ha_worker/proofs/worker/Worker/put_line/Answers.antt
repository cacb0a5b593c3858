use Rattle.std.proofs.Common.{ap, ◌∙◌}
use Rattle.ha_config.specs.Fair.{shuts_source}
use Rattle.ha_model.proofs.LastEntry.{ok-then}
use Rattle.ha_worker.proofs.CmdLemmas.{read_open}
use Rattle.ha_worker.proofs.worker.Worker.put_line.Goals as goal

pub returns-in-Ok-clause-takes : goal.returns-in-Ok-clause-takes
returns-in-Ok-clause-takes g c = ok-then c.put_cmd.result (λ next. next (ap shuts_source c.in-Ok.ensures.exact ∙ read_open c.args.line.now)) c.put_cmd.ensures.takes
