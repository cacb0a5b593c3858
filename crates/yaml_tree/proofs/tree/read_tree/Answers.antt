use Rattle.yaml_tree.proofs.TextFound.{found_by, only_by}
use Rattle.yaml_tree.proofs.tree.read_tree.Goals as goal

pub returns-clause-found : goal.returns-clause-found
returns-clause-found c = found_by c.args.text.now c.tree.result c.tree.ensures

pub returns-clause-only : goal.returns-clause-only
returns-clause-only c = λ root is. only_by c.args.text.now c.tree.result root c.tree.ensures is
