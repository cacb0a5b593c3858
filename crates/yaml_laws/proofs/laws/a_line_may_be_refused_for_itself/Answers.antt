use Rattle.yaml_laws.proofs.LineCodes.{refused_by, told_at}
use Rattle.yaml_laws.proofs.laws.a_line_may_be_refused_for_itself.Goals as goal

pub returns-clause-told : goal.returns-clause-told
returns-clause-told c = told_at

pub returns-clause-refused : goal.returns-clause-refused
returns-clause-refused c = refused_by
