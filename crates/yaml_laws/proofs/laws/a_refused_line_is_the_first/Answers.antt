use Rattle.yaml_laws.proofs.FirstLine.{ends_in_quotes, first_line, goes_on_before}
use Rattle.yaml_laws.proofs.laws.a_refused_line_is_the_first.Goals as goal

pub returns-clause-before : goal.returns-clause-before
returns-clause-before c = goes_on_before

pub returns-clause-first : goal.returns-clause-first
returns-clause-first c = first_line

pub returns-clause-in_quotes : goal.returns-clause-in_quotes
returns-clause-in_quotes c = ends_in_quotes
