-- What the trace's sink keeps at each status.
use Rattle.std.proofs.Common.{◌≡◌, ℕ, Option, Some, None, refl}
use Rattle.std.specs.Prelude.{IfSome}
use Rattle.std.specs.Option.{option_map}
use Rattle.ha_status.specs.declared.status.Status.{Status}
use Rattle.bus_turn.specs.declared.fault.BusFault.{BusFault}
use Rattle.ha_run.specs.Core.{IsHandedOn}
use Rattle.ha_run.specs.Finish.{ended_status}
use Rattle.ha_run.specs.Team.{status_of}

at_none_kept : (n : ℕ) (s : Status) → n ≡ 0 → IsHandedOn (Some n) s
at_none_kept n Status.Ok e = e
at_none_kept n (Status.ReadFault k) e = e
at_none_kept n (Status.SourceTooLong k) e = e
at_none_kept n Status.Usage e = tt
at_none_kept n (Status.ConfigRefused l c) e = tt
at_none_kept n (Status.OpenFault name) e = tt
at_none_kept n (Status.WriteFault z) e = tt
at_none_kept n Status.KeepFault e = tt
at_none_kept n Status.JournalFull e = tt
at_none_kept n (Status.StoreRefused c) e = tt
at_none_kept n Status.Memory e = tt
at_none_kept n (Status.TraceRefused l) e = tt

-- nothing is kept back
all_handed : {K : Type 0} (kept : K → ℕ) (trace : Option K) (s : Status) → IfSome trace (λ k. kept k ≡ 0) → IsHandedOn (option_map kept trace) s
all_handed kept None s h = tt
all_handed kept (Some k) s h = at_none_kept (kept k) s h

-- a run that a fault ended
pub fault_handed : (kept : Option ℕ) (fault : BusFault) → IsHandedOn kept (status_of fault)
fault_handed None fault = tt
fault_handed (Some n) (BusFault.Write zero) = tt
fault_handed (Some n) BusFault.Keep = tt
fault_handed (Some n) BusFault.Full = tt
fault_handed (Some n) BusFault.Memory = tt

-- a run whose trace was ended
pub end_handed : {K : Type 0} (kept : K → ℕ) (trace : Option K) (told : Status) (first : Option BusFault) → (first ≡ None → IfSome trace (λ k. kept k ≡ 0))
    → IsHandedOn (option_map kept trace) (ended_status first told)
end_handed kept trace told None h = all_handed kept trace told (h refl)
end_handed kept trace told (Some fault) h = fault_handed (option_map kept trace) fault
