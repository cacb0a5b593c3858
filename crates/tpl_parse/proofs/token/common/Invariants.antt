use Rattle.std.proofs.Common.{◌≡◌, ◌+◌, length}
use Rattle.tpl_parse.specs.Token.{common}
use Rattle.tpl_parse.proofs.token.common.Given as goal

abbrev pub invariant-bytes : goal.invariant-bytes
invariant-bytes l = (l.long + common l.a l.b ≡ common l.fn.a l.fn.b) × (l.long + length l.a ≡ length l.fn.a) × (l.long + length l.b ≡ length l.fn.b)

abbrev pub decreases-bytes : goal.decreases-bytes
decreases-bytes l = length l.a
