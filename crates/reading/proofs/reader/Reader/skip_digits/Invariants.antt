use Rattle.std.proofs.Common.{◌≡◌, ◌≤◌, length}
use Rattle.reading.specs.Bytes.{skip_digits}
use Rattle.reading.proofs.reader.Reader.skip_digits.Given as goal

abbrev pub invariant-loop-b : goal.invariant-loop-b
invariant-loop-b l = (skip_digits l.self ≡ skip_digits l.fn.self) × (length l.self ≤ length l.fn.self)

abbrev pub decreases-loop-b : goal.decreases-loop-b
decreases-loop-b l = length l.self
