use Rattle.yaml_rules.proofs.TooDeep.{too_deep}
use Rattle.yaml_rules.proofs.laws.what_is_too_deep_stands_in_64_others.Goals as goal

pub returns : goal.returns
returns c = too_deep
