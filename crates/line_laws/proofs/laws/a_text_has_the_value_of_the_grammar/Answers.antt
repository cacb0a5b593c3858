use Rattle.std.specs.Prelude.{[]}
use Rattle.std.proofs.Common.{sym, ◌∙◌}
use Rattle.reading.proofs.Basics.{ok_parts}
use Rattle.flow_line.proofs.ByteRanges.{Fault}
use Rattle.flow_line.proofs.Whole.{document_found, document_read, nothing_left}
use Rattle.line_laws.proofs.laws.a_text_has_the_value_of_the_grammar.Goals as goal

pub returns : goal.returns
returns c = record {
  reads = λ text value. (document_found text value [], document_read text value);
  whole = λ text rest value e. (ok_parts {F = Fault} (value, rest) (value, []) (sym e ∙ nothing_left text value rest e)).1;
}
