use Rattle.ha_clock.proofs.ZoneLemmas.{rule_offset_is}
use Rattle.ha_clock.proofs.laws.rule_offset_is_jiffs.Goals as goal

pub returns : goal.returns
returns c = λ n. rule_offset_is c.args.rule.now n
