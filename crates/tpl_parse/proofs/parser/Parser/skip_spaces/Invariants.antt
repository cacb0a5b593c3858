use Rattle.std.proofs.Common.{◌≡◌, ◌≤◌, length}
use Rattle.tpl_parse.specs.Token.{spaces}
use Rattle.tpl_parse.proofs.parser.Parser.skip_spaces.Given as goal

abbrev pub invariant-loop-b : goal.invariant-loop-b
invariant-loop-b l = (spaces l.self ≡ spaces l.fn.self) × (length l.self ≤ length l.fn.self)

abbrev pub decreases-loop-b : goal.decreases-loop-b
decreases-loop-b l = length l.self
