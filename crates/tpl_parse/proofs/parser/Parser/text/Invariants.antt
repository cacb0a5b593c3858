use Rattle.std.proofs.Common.{length}
use Rattle.tpl_parse.specs.Pieces.{text}
use Rattle.reading.proofs.Turns.{Continues}
use Rattle.tpl_parse.proofs.Utf8.{Chars}
use Rattle.tpl_parse.proofs.Texts.{text_turn}
use Rattle.tpl_parse.proofs.parser.Parser.text.Given as goal

abbrev pub invariant-characters : goal.invariant-characters
invariant-characters l = record { reads : Continues text_turn tt l.self (text l.fn.self); chars : Chars l.fn.self l.self }

abbrev pub decreases-characters : goal.decreases-characters
decreases-characters l = length l.self
