-- Why a store was not taken.
use Rattle.std.proofs.Common.{◌≡◌, ◌∙◌, Option, Some, None, ap, sym}
use Rattle.std.specs.Prelude.{IfErr, IfSome, Result, Ok, Err}
use Rattle.ha_config.specs.Words.{Text}
use Rattle.ha_status.specs.declared.status.Status.{Status}
use Rattle.ha_top.specs.Answered.{StoreCause}
use Rattle.ha_top.specs.Opening.{IsTextRefused}

pub if_err : {X E : Type 0} (P Q : E → Type 0) (r : Result X E) → ((e : E) → P e → Q e) → IfErr r P → IfErr r Q
if_err P Q (Ok x) f h = tt
if_err P Q (Err e) f h = f e h

holds : (told : Option (Option Text)) (items sliced : Text) → IfSome told (λ kept. Some items ≡ kept) → sliced ≡ items → IfSome told (λ kept. kept ≡ Some sliced)
holds None items sliced h e = tt
holds (Some kept) items sliced h e = sym h ∙ ap (λ (z : Text). Some z) (sym e)

pub store_refusal : (told : Option (Option Text)) (items sliced : Text) → IfSome told (λ kept. Some items ≡ kept) → sliced ≡ items → (s : Status) → IsTextRefused sliced s → StoreCause told s
store_refusal told items sliced h e (Status.StoreRefused code) f = (sliced, holds told items sliced h e, f)
store_refusal told items sliced h e Status.Ok f = tt
store_refusal told items sliced h e Status.Usage f = tt
store_refusal told items sliced h e (Status.ConfigRefused l c) f = tt
store_refusal told items sliced h e (Status.OpenFault name) f = tt
store_refusal told items sliced h e (Status.ReadFault k) f = tt
store_refusal told items sliced h e (Status.WriteFault z) f = tt
store_refusal told items sliced h e Status.KeepFault f = tt
store_refusal told items sliced h e Status.JournalFull f = tt
store_refusal told items sliced h e (Status.SourceTooLong k) f = tt
store_refusal told items sliced h e Status.Memory f = tt
store_refusal told items sliced h e (Status.TraceRefused line) f = tt
