use Rattle.conf_field.specs.Readings.{both}
use Rattle.conf_script.proofs.made.choose_with.Goals as goal

pub returns : goal.returns
returns c = λ m n h k. c.made_choose.ensures (both m n) (c.both.ensures m n h k)
