use Rattle.conf_field.proofs.DigitSteps.{Progress}
use Rattle.conf_field.proofs.count.digits.Given as goal

abbrev pub invariant-loop-byte : goal.invariant-loop-byte
invariant-loop-byte l = Progress l.most l.text l.number l.byte-index
