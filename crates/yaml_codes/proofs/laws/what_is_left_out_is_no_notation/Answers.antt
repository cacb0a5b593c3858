use Rattle.std.proofs.Common.{inr}
use Rattle.yaml_codes.proofs.Codes.{other_codes}
use Rattle.yaml_codes.proofs.LooseCodes.{left_out_or_tab}
use Rattle.yaml_codes.proofs.NotUtf8.{not_utf8_loose}
use Rattle.yaml_codes.proofs.laws.what_is_left_out_is_no_notation.Goals as goal

pub returns-clause-left_out : goal.returns-clause-left_out
returns-clause-left_out c = left_out_or_tab

pub returns-clause-not_utf8 : goal.returns-clause-not_utf8
returns-clause-not_utf8 c = λ text f e u. other_codes text f e (inr (inr u))

pub returns-clause-loosely : goal.returns-clause-loosely
returns-clause-loosely c = not_utf8_loose
