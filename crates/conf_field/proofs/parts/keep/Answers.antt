use Rattle.conf_field.specs.Readings as readings
use Rattle.conf_field.proofs.Made.{made_err}
use Rattle.conf_field.proofs.parts.keep.Goals as goal

pub returns-in-Err : goal.returns-in-Err
returns-in-Err g c = λ a b ha hb. made_err (λ p. readings.and_maybe p.0 p.1) (readings.both a b) c.in-Err.fault (c.in-Err.ensures a b ha hb)
