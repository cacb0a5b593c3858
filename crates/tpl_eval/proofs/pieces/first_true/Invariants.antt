use Rattle.std.proofs.Common.{◌++◌}
use Rattle.ha_sight.specs.Sight.{Sight}
use Rattle.ha_config.specs.Words.{Pairs}
use Rattle.tpl_eval.specs.Pieces.{Alike}
use Rattle.tpl_eval.specs.Seen.{Sees}
use Rattle.tpl_eval.proofs.ArmLemmas.{Passes}
use Rattle.tpl_eval.proofs.pieces.first_true.Given as goal

-- the arms before this place are not chosen
abbrev pub invariant-loop-i : goal.invariant-loop-i
invariant-loop-i l = (sight : Sight) → Sees sight l.states → (whole : Pairs) → Alike whole (l.env ++ l.set) → Passes sight l.arms whole l.i
