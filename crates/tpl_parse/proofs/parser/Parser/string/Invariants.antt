use Rattle.std.proofs.Common.{length}
use Rattle.tpl_parse.specs.Literal.{string}
use Rattle.reading.proofs.Turns.{Continues}
use Rattle.tpl_parse.proofs.Strings.{turn}
use Rattle.tpl_parse.proofs.parser.Parser.string.Given as goal

abbrev pub invariant-characters : goal.invariant-characters
invariant-characters l = Continues (turn l.quote) l.text l.self (string l.quote l.fn.self)

abbrev pub decreases-characters : goal.decreases-characters
decreases-characters l = length l.self
