use Rattle.yaml_codes.proofs.Codes.{only_rules}
use Rattle.yaml_codes.proofs.LooseCodes.{only_of_rules}
use Rattle.yaml_codes.proofs.laws.notation_breaks_no_other_rule.Goals as goal

pub returns-clause-notation : goal.returns-clause-notation
returns-clause-notation c = only_rules

pub returns-clause-loosely : goal.returns-clause-loosely
returns-clause-loosely c = only_of_rules
