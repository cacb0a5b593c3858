use Rattle.std.proofs.Common.{◌≡◌, ◌∙◌, Bool, true, false}
use Rattle.ha_status.specs.declared.status.Status.{Status}
use Rattle.ha_status.proofs.WrittenLemmas.{front_written, nothing_written}
use Rattle.ha_rehearse.proofs.rehearse.show.Goals as goal

memory_no_ok : ◌≡◌ {A = Status} Status.Memory Status.Ok → ⊥
memory_no_ok e = cc

fault_no_ok : (zero : Bool) → ◌≡◌ {A = Status} (Status.WriteFault zero) Status.Ok → ⊥
fault_no_ok zero e = cc

pub returns-in_default-clause-written : goal.returns-in_default-clause-written
returns-in_default-clause-written g c = nothing_written Status.Memory _ _ memory_no_ok

pub returns-in-Err-Failed-clause-written : goal.returns-in-Err-Failed-clause-written
returns-in-Err-Failed-clause-written g c = front_written (Status.WriteFault false) _ _ _ _ (fault_no_ok false) (c.as_slice.ensures.value ∙ c.in-Ok.ensures) c.in-Err-Failed.ensures.front

pub returns-in-Err-Zero-clause-written : goal.returns-in-Err-Zero-clause-written
returns-in-Err-Zero-clause-written g c = front_written (Status.WriteFault true) _ _ _ _ (fault_no_ok true) (c.as_slice.ensures.value ∙ c.in-Ok.ensures) c.in-Err-Zero.ensures.front

pub returns-clause-written : goal.returns-clause-written
returns-clause-written g c = front_written Status.Memory _ _ _ _ memory_no_ok (c.as_slice.ensures.value ∙ c.in-Ok.ensures) c.in-Err-Memory.ensures.front
