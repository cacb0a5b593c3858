use Rattle.line_laws.proofs.LineFound.{line_found, line_read}
use Rattle.line_laws.proofs.laws.a_line_is_a_map_of_the_grammar.Goals as goal

pub returns : goal.returns
returns c = λ line pairs. (line_found line pairs, line_read line pairs)
