use Rattle.std.proofs.Common.{◌≡◌, drop}
use Rattle.ha_config.specs.Words as words
use Rattle.tpl_eval.proofs.parts.first_pair.Given as goal

abbrev pub invariant-loop-pair : goal.invariant-loop-pair
invariant-loop-pair l = words.first_pair l.name l.pairs ≡ words.first_pair l.name (drop l.pair-index l.pairs)
