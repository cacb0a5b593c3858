use Rattle.std.proofs.Common.{sym, ◌∙◌}
use Rattle.run_tests.proofs.TestLemmas.{runs-here}
use Rattle.run_tests.proofs.modes.may_end.Goals as goal

pub returns-in-Some : goal.returns-in-Some
returns-in-Some c = λ h. runs-here c.args.records.now c.args.serial c.in-Some.found.now (sym c.in-Some.ensures) (sym c.is_running.ensures ∙ h)
