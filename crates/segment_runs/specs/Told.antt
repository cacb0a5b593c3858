-- What an attempt is told where its segment goes on behind so many runs, and as its segment alone has it.
use Rattle.std.specs.Prelude.{ℕ, ◌+◌, ◌-◌, Result, Ok, Err}
use Rattle.run_modes.specs.declared.admission.Admission.{Admission}

abbrev pub raised : ℕ → Admission → Admission
raised base (Admission.Begun s) = Admission.Begun (base + s)
raised base (Admission.Queued s) = Admission.Queued (base + s)
raised base (Admission.Replaces s old) = Admission.Replaces (base + s) (base + old)
raised base Admission.Refused = Admission.Refused

abbrev pub lowered : ℕ → Admission → Admission
lowered base (Admission.Begun s) = Admission.Begun (s - base)
lowered base (Admission.Queued s) = Admission.Queued (s - base)
lowered base (Admission.Replaces s old) = Admission.Replaces (s - base) (old - base)
lowered base Admission.Refused = Admission.Refused

-- the same, of an attempt that may want memory
abbrev pub answered : {E : Type 0} → ℕ → Result Admission E → Result Admission E
answered base (Ok t) = Ok (lowered base t)
answered base (Err e) = Err e
