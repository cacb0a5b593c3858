use Rattle.reload_laws.proofs.LiveLemmas.{live-in-force}
use Rattle.reload_laws.proofs.laws.live_runs_are_of_units_in_force.Goals as goal

pub returns : goal.returns
returns c = live-in-force
