use Rattle.std.proofs.Common.{◌≡◌, drop}
use Rattle.ha_sight.specs.Scripts.{set_all}
use Rattle.script_step.proofs.choices.set_all.Given as goal

abbrev pub invariant-loop-i : goal.invariant-loop-i
invariant-loop-i g l = set_all l.pairs (g.A.Answers.sight l.answers) l.initial.scopes ≡ set_all (drop l.i l.pairs) (g.A.Answers.sight l.answers) l.scopes
