use Rattle.time_next.proofs.NextLemmas.{passed-there}
use Rattle.time_next.proofs.laws.a_time_passes_at_its_second.Goals as goal

pub returns : goal.returns
returns c = λ rule zone. passed-there c.args.from c.args.to rule zone
