use Rattle.yaml_signs.proofs.Signs.{left_out_sign}
use Rattle.yaml_signs.proofs.laws.what_is_left_out_has_its_sign.Goals as goal

pub returns : goal.returns
returns c = left_out_sign
