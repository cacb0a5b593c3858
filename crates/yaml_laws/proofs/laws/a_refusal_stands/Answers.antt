use Rattle.yaml_laws.proofs.Cuts.{refusal_stands}
use Rattle.yaml_laws.proofs.laws.a_refusal_stands.Goals as goal

pub returns : goal.returns
returns c = refusal_stands
