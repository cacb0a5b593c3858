use Rattle.std.proofs.Common.{◌≡◌, take}
use Rattle.ha_sight.specs.Calls.{automations_of}
use Rattle.script_step.proofs.OwnLemmas.{AreSeen}
use Rattle.script_step.proofs.own.automations_of.Given as goal

abbrev pub invariant-loop-i : goal.invariant-loop-i
invariant-loop-i g l = record {
  found : l.found ≡ automations_of (g.A.Answers.sight l.answers).automations (take l.i l.targets);
  known : AreSeen (g.A.Answers.sight l.answers).automations l.found;
}
