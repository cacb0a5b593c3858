use Rattle.std.proofs.Common.{◌≡◌, length}
use Rattle.reading.specs.Bytes.{skip}
use Rattle.reading.proofs.reader.Reader.skip_blanks.Given as goal

abbrev pub invariant-loop-b : goal.invariant-loop-b
invariant-loop-b l = skip l.self ≡ skip l.fn.self

abbrev pub decreases-loop-b : goal.decreases-loop-b
decreases-loop-b l = length l.self
