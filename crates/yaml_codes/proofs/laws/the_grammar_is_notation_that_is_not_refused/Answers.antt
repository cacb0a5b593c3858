use Rattle.yaml_codes.proofs.Grammar.{grammar_in}
use Rattle.yaml_codes.proofs.LooseCodes.{loosely_in}
use Rattle.yaml_codes.proofs.LooseOf.{notation_loosely}
use Rattle.yaml_codes.proofs.laws.the_grammar_is_notation_that_is_not_refused.Goals as goal

pub returns-clause-grammar : goal.returns-clause-grammar
returns-clause-grammar c = grammar_in

pub returns-clause-loosely : goal.returns-clause-loosely
returns-clause-loosely c = notation_loosely

pub returns-clause-notation : goal.returns-clause-notation
returns-clause-notation c = loosely_in
