use Rattle.ha_clock.proofs.SpanLemmas.{Progress}
use Rattle.ha_clock.proofs.span.number.Given as goal

abbrev pub invariant-loop-byte : goal.invariant-loop-byte
invariant-loop-byte l = Progress l.text l.number l.byte-index
