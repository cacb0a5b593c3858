use Rattle.std.proofs.Common.{◌≡◌, ◌++◌, drop, true}
use Rattle.std.specs.Prelude.{option_map}
use Rattle.ha_replay.specs.Boots as boots
use Rattle.ha_replay.proofs.stored.moments_of.Given as goal

abbrev pub invariant-loop-pair : goal.invariant-loop-pair
invariant-loop-pair l = record {
  value : boots.moments_of l.pairs ≡ option_map (λ (rest : boots.Moments). l.moments ++ rest) (boots.moments_of (drop l.pair-index l.pairs));
  bound : boots.are_in_time l.moments ≡ true;
}
