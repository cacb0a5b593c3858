use Rattle.std.specs.Prelude.{[]}
use Rattle.tpl_parse.proofs.FoundPieces.{template_found}
use Rattle.tpl_parse.proofs.OnlyPieces.{template_read}
use Rattle.tpl_laws.proofs.laws.a_text_has_the_tree_of_the_grammar.Goals as goal

pub returns : goal.returns
returns c = record {
  reads = λ text tree. (λ e. (template_found text tree [] e).0, template_read text tree);
  whole = λ text rest tree e. (template_found text tree rest e).1;
}
