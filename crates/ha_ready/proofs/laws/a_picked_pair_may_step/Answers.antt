use Rattle.ha_ready.proofs.Picked.{picked}
use Rattle.ha_ready.proofs.laws.a_picked_pair_may_step.Goals as goal

pub returns : goal.returns
returns c = picked
