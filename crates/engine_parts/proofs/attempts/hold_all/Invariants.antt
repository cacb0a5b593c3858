use Rattle.std.proofs.Common.{◌≡◌, drop}
use Rattle.ha_sight.specs.Conditions.{hold_all}
use Rattle.engine_parts.proofs.attempts.hold_all.Given as goal

abbrev pub invariant-tests : goal.invariant-tests
invariant-tests g l = hold_all (g.A.Answers.sight l.answers) l.all l.env ≡ hold_all (g.A.Answers.sight l.answers) (drop l.test-index l.all) l.env
