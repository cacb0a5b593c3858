use Rattle.yaml_laws.proofs.Cuts.{lost_text, same_place}
use Rattle.yaml_laws.proofs.laws.a_refusal_is_told_by_its_lines.Goals as goal

pub returns-clause-none : goal.returns-clause-none
returns-clause-none c = lost_text

pub returns-clause-place : goal.returns-clause-place
returns-clause-place c = same_place
