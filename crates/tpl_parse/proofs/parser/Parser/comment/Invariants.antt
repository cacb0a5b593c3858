use Rattle.std.proofs.Common.{length}
use Rattle.tpl_parse.specs.Pieces.{comment}
use Rattle.reading.proofs.Turns.{Continues}
use Rattle.tpl_parse.proofs.Texts.{comment_turn}
use Rattle.tpl_parse.proofs.parser.Parser.comment.Given as goal

abbrev pub invariant-characters : goal.invariant-characters
invariant-characters l = Continues comment_turn tt l.self (comment l.fn.self)

abbrev pub decreases-characters : goal.decreases-characters
decreases-characters l = length l.self
