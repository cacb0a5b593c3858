use Rattle.conf_auto.proofs.ReadLemmas.{small_one}
use Rattle.conf_auto.proofs.config.of_tree.Goals as goal

pub returns-then-is_small-clause-exact : goal.returns-then-is_small-clause-exact
returns-then-is_small-clause-exact c = c.of_root.ensures

pub returns-then-is_small-clause-small : goal.returns-then-is_small-clause-small
returns-then-is_small-clause-small c = small_one c.args.root.now c.of_root.result (c.is_small.ensures c.if-is_small.true)
