use Rattle.conf_field.specs.Readings.{both}
use Rattle.conf_field.proofs.Made.{made_err}
use Rattle.conf_auto.specs.Names as names
use Rattle.conf_auto.proofs.names.joined.Goals as goal

pub returns-in-Err : goal.returns-in-Err
returns-in-Err c = λ a b ha hb. made_err (λ p. names.add p.0 p.1) (both a b) c.in-Err.fault (c.in-Err.ensures a b ha hb)
