-- The answers of `check`, by what is known of each.
use Rattle.std.proofs.Common.{◌≡◌, ℕ, Bool, true, false, Option, Some, None, subst, sym}
use Rattle.std.specs.Prelude.{IfSome, IsSome}
use Rattle.ha_status.specs.declared.status.Status.{Status}
use Rattle.ha_status.specs.StatusLine.{Text}
use Rattle.ha_status.specs.Files.{Files, IsTextFault, ThereCause}
use Rattle.ha_check.specs.Configured.{IsRefusedAt, RefusedCause}
use Rattle.ha_check.specs.Checked.{IsAnswerOf}

pub memory_no_ok : ◌≡◌ {A = Status} Status.Memory Status.Ok → ⊥
memory_no_ok e = cc

pub fault_no_ok : (zero : Bool) → ◌≡◌ {A = Status} (Status.WriteFault zero) Status.Ok → ⊥
fault_no_ok zero e = cc

-- ---- where no configuration was read

refused_of : (file : Option Text) (t : Text) (line code : ℕ) → file ≡ Some t → IsRefusedAt t line code → IsAnswerOf file (Status.ConfigRefused line code)
refused_of file t line code e r = subst (λ z. IsAnswerOf z (Status.ConfigRefused line code)) (sym e) r

unread_of : (file : Option Text) (source : Option ℕ) → IsSome file → IsAnswerOf file (Status.ReadFault source)
unread_of None source h = absurd (let bad : ◌≡◌ {A = Bool} false true = h in cc)
unread_of (Some t) source h = tt

open_of : (file : Option Text) (other : Text) → IsAnswerOf file (Status.OpenFault other)
open_of None other = tt
open_of (Some t) other = tt

memory_of : (file : Option Text) → IsAnswerOf file Status.Memory
memory_of None = tt
memory_of (Some t) = tt

pub answer_of : (files : Option Files) (name : Text) (s : Status) → IsTextFault name s → RefusedCause files name s → ThereCause files name s → IfSome files (λ f. IsAnswerOf (f name) s)
answer_of None name s a r h = tt
answer_of (Some f) name (Status.OpenFault other) a r h = open_of (f name) other
answer_of (Some f) name (Status.ReadFault source) a r h = unread_of (f name) source h
answer_of (Some f) name (Status.ConfigRefused line code) a r h = refused_of (f name) r.0 line code r.1 r.2
answer_of (Some f) name Status.Memory a r h = memory_of (f name)
answer_of (Some f) name Status.Ok a r h = absurd a
answer_of (Some f) name Status.Usage a r h = absurd a
answer_of (Some f) name (Status.WriteFault zero) a r h = absurd a
answer_of (Some f) name Status.KeepFault a r h = absurd a
answer_of (Some f) name Status.JournalFull a r h = absurd a
answer_of (Some f) name (Status.SourceTooLong source) a r h = absurd a
answer_of (Some f) name (Status.StoreRefused code) a r h = absurd a
answer_of (Some f) name (Status.TraceRefused line) a r h = absurd a
