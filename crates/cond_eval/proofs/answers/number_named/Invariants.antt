use Rattle.std.proofs.Common.{◌≡◌, drop}
use Rattle.std.specs.Prelude.{zip}
use Rattle.ha_config.specs.Names.{named_among}
use Rattle.cond_eval.proofs.answers.number_named.Given as goal

abbrev pub invariant-loop-i : goal.invariant-loop-i
invariant-loop-i l = named_among (zip l.numbers l.automations) l.name ≡ named_among (zip (drop l.i l.numbers) (drop l.i l.automations)) l.name
