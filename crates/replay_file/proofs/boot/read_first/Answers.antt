use Rattle.std.proofs.Common.{◌∙◌}
use Rattle.replay_file.proofs.BootLemmas.{unread_first, with_zone}
use Rattle.replay_file.proofs.boot.read_first.Goals as goal

pub returns-in-Err-clause-refused : goal.returns-in-Err-clause-refused
returns-in-Err-clause-refused c = unread_first c.args.line.now c.in-Err.fault c.in-Err.ensures

pub returns-clause-refused : goal.returns-clause-refused
returns-clause-refused c = c.with_config.ensures.refused c.args.line.now (with_zone c.args.line.now c.in-Ok.read c.in-Ok-read.zone (c.in-Ok-read.ensures.ok ∙ c.text.ensures.text) c.in-Ok.ensures)
