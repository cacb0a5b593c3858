use Rattle.std.proofs.Common.{arith}
use Rattle.run_modes.proofs.runs.Runs.count.Goals as goal

pub returns-clause-few : goal.returns-clause-few
returns-clause-few c = omega (arith, c.len.ensures, c.self.inside.records.ok.0, c.self.inside.records.small)
