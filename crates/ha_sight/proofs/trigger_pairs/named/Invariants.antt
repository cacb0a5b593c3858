use Rattle.std.proofs.Common.{◌≡◌, drop}
use Rattle.ha_config.specs.Words as words
use Rattle.ha_sight.proofs.trigger_pairs.named.Given as goal

abbrev pub invariant-loop-pair : goal.invariant-loop-pair
invariant-loop-pair l = words.first_pair l.name l.pairs ≡ words.first_pair l.name (drop l.pair-index l.pairs)
