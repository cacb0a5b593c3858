use Rattle.time_next.proofs.NextLemmas.{sleeps-on}
use Rattle.time_next.proofs.laws.a_rule_sleeps_on.Goals as goal

pub returns : goal.returns
returns c = λ rule zone. sleeps-on c.args.from c.args.to rule zone
