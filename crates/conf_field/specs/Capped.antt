-- The parts of a span, counted no further than one over the longest span: what the code computes, for its proofs.
use Rattle.std.specs.Prelude.{ℕ, min, nat_lt, if◌then◌else◌, Ok}
use Rattle.ha_clock.specs.Local.{last_span}
use Rattle.yaml_scan.specs.declared.fault.Code.TheVariants as code
use Rattle.conf_field.specs.Readings.{Read, bad, made}

abbrev pub cap : ℕ
cap = 31_622_400_001

abbrev pub at_cap : Read ℕ → Read ℕ
at_cap r = made (min cap) r

abbrev pub bounded : ℕ → ℕ → Read ℕ
bounded line n = if nat_lt last_span n then bad line code.Time else Ok n
