use Rattle.ha_ready.proofs.ListedBranches.{allowed-is-listed}
use Rattle.ha_ready.proofs.laws.allowed_branches_are_listed.Goals as goal

pub returns : goal.returns
returns c = allowed-is-listed
