use Rattle.std.proofs.Common.{◌≡◌, ◌++◌, drop}
use Rattle.std.specs.Prelude.{option_map}
use Rattle.ha_replay.specs.Boots as boots
use Rattle.ha_replay.proofs.stored.switches_of.Given as goal

abbrev pub invariant-loop-pair : goal.invariant-loop-pair
invariant-loop-pair l = boots.switches_of l.pairs ≡ option_map (λ (rest : boots.Switches). l.switches ++ rest) (boots.switches_of (drop l.pair-index l.pairs))
