use Rattle.std.proofs.Common.{length}
use Rattle.tpl_parse.specs.Pieces.{template}
use Rattle.reading.proofs.Turns.{Continues}
use Rattle.tpl_parse.proofs.Texts.{piece_turn}
use Rattle.tpl_parse.proofs.parser.Parser.template.Given as goal

abbrev pub invariant-pieces : goal.invariant-pieces
invariant-pieces l = Continues piece_turn l.found l.self (template l.fn.self)

abbrev pub decreases-pieces : goal.decreases-pieces
decreases-pieces l = length l.self
