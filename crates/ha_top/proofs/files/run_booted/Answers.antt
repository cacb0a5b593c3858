use Rattle.ha_config.proofs.OrderLemmas.{moments-kept}
use Rattle.ha_top.proofs.files.run_booted.Goals as goal

pub run_core-status-requires-clause-boot : goal.run_core-status-requires-clause-boot
run_core-status-requires-clause-boot g c κs within = (_, c.in-Ok-boot.ensures.entries, (c.requires.in_time, (moments-kept c.args.config.automations c.args.taken.last c.requires.last).in_time))
