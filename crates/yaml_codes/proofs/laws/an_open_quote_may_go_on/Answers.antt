use Rattle.yaml_codes.proofs.OpenQuote.{open_loosely, open_quote}
use Rattle.yaml_codes.proofs.laws.an_open_quote_may_go_on.Goals as goal

pub returns-clause-notation : goal.returns-clause-notation
returns-clause-notation c = open_quote

pub returns-clause-loosely : goal.returns-clause-loosely
returns-clause-loosely c = open_loosely
