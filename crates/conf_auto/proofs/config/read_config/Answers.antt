use Rattle.conf_auto.proofs.ReadLemmas.{read_of}
use Rattle.conf_auto.proofs.config.read_config.Goals as goal

pub returns-in-Ok-clause-read : goal.returns-in-Ok-clause-read
returns-in-Ok-clause-read c = read_of c.args.text.now c.in-Ok.root c.of_tree.result c.in-Ok.ensures.found c.of_tree.ensures.exact c.of_tree.ensures.small
