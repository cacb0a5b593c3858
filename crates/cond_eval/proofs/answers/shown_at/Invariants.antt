use Rattle.std.proofs.Common.{◌≡◌, drop}
use Rattle.std.specs.Prelude.{zip}
use Rattle.ha_sight.specs.Sight.{switch_at}
use Rattle.cond_eval.specs.Seen.{shown_of}
use Rattle.cond_eval.proofs.answers.shown_at.Given as goal

abbrev pub invariant-loop-i : goal.invariant-loop-i
invariant-loop-i l = switch_at (shown_of l.states (zip l.numbers l.automations)) l.number ≡ switch_at (shown_of l.states (zip (drop l.i l.numbers) (drop l.i l.automations))) l.number
