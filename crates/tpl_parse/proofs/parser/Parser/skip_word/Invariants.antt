use Rattle.std.proofs.Common.{◌≡◌, ◌≤◌, length}
use Rattle.tpl_parse.specs.Literal.{skip_word}
use Rattle.tpl_parse.proofs.parser.Parser.skip_word.Given as goal

abbrev pub invariant-loop-b : goal.invariant-loop-b
invariant-loop-b l = (skip_word l.self ≡ skip_word l.fn.self) × (length l.self ≤ length l.fn.self)

abbrev pub decreases-loop-b : goal.decreases-loop-b
decreases-loop-b l = length l.self
