-- Causes of statuses, from what is known of each status, and the same in a longer call.
use Rattle.std.proofs.Common.{◌≡◌, ◌⊎◌, ◌≤◌, ◌∷◌, [], inl, inr, ℕ, Bool, true, false, List, Option, refl, subst, sym, arith}
use Rattle.std.specs.Prelude.{Contains, IfSome}
use Rattle.ha_io.specs.Counts.{Rose}
use Rattle.ha_io.specs.declared.place.Opening.{Opening}
use Rattle.ha_io.proofs.CountLemmas.{Rose-from_zero, Rose-within}
use Rattle.ha_status.specs.declared.status.Status.{Status}
use Rattle.ha_status.specs.StatusLine.{Text}
use Rattle.ha_status.specs.Causes.{IsUnopened, IsUnread, KeepCause, NeverFall, OpenCause, ReadCause, WriteCause}

-- ---- from each status

pub open_cause : (names : List Text) (f f' : ℕ) (last : Option (Option (Text × Opening))) (s : Status)
    → ((name : Text) → s ≡ Status.OpenFault name → Contains names name × IsUnopened name Opening.Reading f f' last) → OpenCause names f f' last s
open_cause names f f' last (Status.OpenFault name) h = h name refl
open_cause names f f' last (Status.ConfigRefused l k) h = tt
open_cause names f f' last (Status.ReadFault k) h = tt
open_cause names f f' last (Status.WriteFault z) h = tt
open_cause names f f' last (Status.SourceTooLong k) h = tt
open_cause names f f' last (Status.StoreRefused k) h = tt
open_cause names f f' last (Status.TraceRefused l) h = tt
open_cause names f f' last Status.Ok h = tt
open_cause names f f' last Status.Usage h = tt
open_cause names f f' last Status.KeepFault h = tt
open_cause names f f' last Status.JournalFull h = tt
open_cause names f f' last Status.Memory h = tt

pub read_cause : (config : Text) (sources : List Text) (faults : List ℕ) (names : List (Option Text)) (s : Status)
    → ((k : Option ℕ) → s ≡ Status.ReadFault k → ReadCause config sources faults names (Status.ReadFault k)) → ReadCause config sources faults names s
read_cause config sources faults names (Status.ReadFault k) h = h k refl
read_cause config sources faults names (Status.OpenFault name) h = tt
read_cause config sources faults names (Status.ConfigRefused l k) h = tt
read_cause config sources faults names (Status.WriteFault z) h = tt
read_cause config sources faults names (Status.SourceTooLong k) h = tt
read_cause config sources faults names (Status.StoreRefused k) h = tt
read_cause config sources faults names (Status.TraceRefused l) h = tt
read_cause config sources faults names Status.Ok h = tt
read_cause config sources faults names Status.Usage h = tt
read_cause config sources faults names Status.KeepFault h = tt
read_cause config sources faults names Status.JournalFull h = tt
read_cause config sources faults names Status.Memory h = tt

pub write_cause : (failed none : Type 0) (s : Status) → ((z : Bool) → s ≡ Status.WriteFault z → WriteCause failed none (Status.WriteFault z)) → WriteCause failed none s
write_cause failed none (Status.WriteFault z) h = h z refl
write_cause failed none (Status.OpenFault name) h = tt
write_cause failed none (Status.ConfigRefused l k) h = tt
write_cause failed none (Status.ReadFault k) h = tt
write_cause failed none (Status.SourceTooLong k) h = tt
write_cause failed none (Status.StoreRefused k) h = tt
write_cause failed none (Status.TraceRefused l) h = tt
write_cause failed none Status.Ok h = tt
write_cause failed none Status.Usage h = tt
write_cause failed none Status.KeepFault h = tt
write_cause failed none Status.JournalFull h = tt
write_cause failed none Status.Memory h = tt

pub keep_cause : (f f' : ℕ) (s : Status) → (s ≡ Status.KeepFault → Rose f f') → KeepCause f f' s
keep_cause f f' Status.KeepFault h = h refl
keep_cause f f' (Status.OpenFault name) h = tt
keep_cause f f' (Status.ConfigRefused l k) h = tt
keep_cause f f' (Status.ReadFault k) h = tt
keep_cause f f' (Status.WriteFault z) h = tt
keep_cause f f' (Status.SourceTooLong k) h = tt
keep_cause f f' (Status.StoreRefused k) h = tt
keep_cause f f' (Status.TraceRefused l) h = tt
keep_cause f f' Status.Ok h = tt
keep_cause f f' Status.Usage h = tt
keep_cause f f' Status.JournalFull h = tt
keep_cause f f' Status.Memory h = tt

-- what holds of a status and of want of memory holds of the status that was told
pub told_status : (P : Status → Type 0) (s r : Status) → (r ≡ s) ⊎ (r ≡ Status.Memory) → P s → P Status.Memory → P r
told_status P s r (inl e) h m = subst P (sym e) h
told_status P s r (inr e) h m = subst P (sym e) m

-- ---- longer calls

pub unopened_within : (name : Text) (opening : Opening) (first before after : ℕ) (last : Option (Option (Text × Opening))) → first ≤ before → IsUnopened name opening before after last
    → IsUnopened name opening first after last
unopened_within name opening first before after last low u = record { rose = Rose-within first before after after low u.rose (omega arith); last_is = u.last_is }

pub falls_never : (f f' f'' z z' z'' : ℕ) → NeverFall f f' z z' → NeverFall f' f'' z' z'' → NeverFall f f'' z z''
falls_never f f' f'' z z' z'' a b = record { faults_stay = omega (arith, a.faults_stay, b.faults_stay); zeros_stay = omega (arith, a.zeros_stay, b.zeros_stay) }

-- a write's cause in wider counts
pub wider_write : (a b a' b' : Type 0) (s : Status) → (a → a') → (b → b') → WriteCause a b s → WriteCause a' b' s
wider_write a b a' b' s f g w = write_cause a' b' s (λ z e. by z (subst (WriteCause a b) e w))
  where
    by : (z : Bool) → WriteCause a b (Status.WriteFault z) → WriteCause a' b' (Status.WriteFault z)
    by true h = g h
    by false h = f h

-- ---- a file of one source

-- the one source, which was opened in this call, and then failed
pub unread_alone : {S : Type 0} (faults : S → ℕ) (name_of : S → Option Text) (old new : S) (name : Text) → faults old ≡ 0 → Rose (faults old) (faults new) → name_of new ≡ name_of old
    → IfSome (name_of old) (λ told. told ≡ name) → IsUnread name 0 (faults new ∷ []) (name_of new ∷ [])
unread_alone faults name_of old new name first rose same named = record {
  count = faults new;
  told = name_of new;
  count_is = refl;
  failed = Rose-from_zero (faults new) (subst (λ (z : ℕ). Rose z (faults new)) first rose);
  told_is = refl;
  name_is = (let P : Option Text → Type 0 = λ z. IfSome z (λ told. told ≡ name) in subst P (sym same) named);
}
