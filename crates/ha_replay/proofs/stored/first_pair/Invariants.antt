use Rattle.std.proofs.Common.{◌≡◌, drop}
use Rattle.ha_config.specs.Words as words
use Rattle.ha_replay.proofs.stored.first_pair.Given as goal

abbrev pub invariant-loop-pair : goal.invariant-loop-pair
invariant-loop-pair l = words.first_pair l.key l.pairs ≡ words.first_pair l.key (drop l.pair-index l.pairs)
