-- Whether an attempt was admitted.
use Rattle.std.specs.Prelude.{Bool, true, false, Result, Ok, Err}
use Rattle.run_modes.specs.declared.admission.Admission.{Admission}

abbrev pub is_admission : Admission → Bool
is_admission (Admission.Begun s) = true
is_admission (Admission.Queued s) = true
is_admission (Admission.Replaces s old) = true
is_admission Admission.Refused = false

abbrev pub is_admitted : {E : Type 0} → Result Admission E → Bool
is_admitted (Ok told) = is_admission told
is_admitted (Err e) = false
