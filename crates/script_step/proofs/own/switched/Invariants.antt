use Rattle.std.proofs.Common.{◌≡◌, map, take}
use Rattle.std.specs.Prelude.{not, unwrap_or}
use Rattle.ha_sight.specs.Calls.{switched_to, was_on}
use Rattle.script_step.proofs.own.switched.Given as goal

abbrev pub invariant-loop-i : goal.invariant-loop-i
invariant-loop-i g l = l.all ≡ map (λ a. switched_to (unwrap_or l.to (not (was_on (g.A.Answers.sight l.answers).automations a))) l.pairs a) (take l.i l.found)
