use Rattle.yaml_laws.proofs.Indented.{same_texts, same_trees}
use Rattle.yaml_laws.proofs.laws.blocks_go_by_their_indent.Goals as goal

pub returns-clause-trees : goal.returns-clause-trees
returns-clause-trees c = same_trees

pub returns-clause-texts : goal.returns-clause-texts
returns-clause-texts c = same_texts
