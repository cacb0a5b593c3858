use Rattle.time_next.proofs.NextLemmas.{sleeps-not}
use Rattle.time_next.proofs.laws.a_rule_that_sleeps_passes_no_time.Goals as goal

pub returns : goal.returns
returns c = λ rule zone. sleeps-not c.args.from c.args.to rule zone
