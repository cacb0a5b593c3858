use Rattle.yaml_rules.proofs.Rules.{names_rule}
use Rattle.yaml_rules.proofs.laws.a_code_of_the_tree_names_its_rule.Goals as goal

pub returns : goal.returns
returns c = names_rule
