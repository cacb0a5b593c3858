use Rattle.ha_clock.proofs.PassedLemmas.{passes_second-PassesSecond}
use Rattle.ha_clock.proofs.laws.passed_seconds_are_searched.Goals as goal

pub returns : goal.returns
returns c = λ zone test. passes_second-PassesSecond zone test c.args.from c.args.to
