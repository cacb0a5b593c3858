use Rattle.yaml_tree.proofs.TextFound.{text_found, text_read}
use Rattle.yaml_laws.proofs.laws.a_text_has_the_tree_of_the_grammar.Goals as goal

pub returns : goal.returns
returns c = λ text root. (text_found text root, text_read text root)
