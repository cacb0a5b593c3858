use Rattle.yaml_laws.proofs.Cuts.{what_follows_comes, what_follows_moves}
use Rattle.yaml_laws.proofs.laws.what_follows_tells_no_earlier_fault.Goals as goal

pub returns-clause-refused : goal.returns-clause-refused
returns-clause-refused c = what_follows_moves

pub returns-clause-read : goal.returns-clause-read
returns-clause-read c = what_follows_comes
