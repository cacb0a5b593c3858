-- The answers where a source or the trace was not opened, or a store not taken. (A stage of the code, no part of what it promises.)
use Rattle.std.specs.Prelude.{ℕ, ◌≡◌, List, [], ◌∷◌, ◌++◌, map, Option, None, Some, Err}
use Rattle.ha_io.specs.declared.place.Opening.{Opening}
use Rattle.ha_io.specs.Told.{Call, and_asked}
use Rattle.store_text.specs.Store.{stored_in}
use Rattle.ha_config.specs.Words.{Text}
use Rattle.ha_status.specs.declared.status.Status.{Status}
use Rattle.ha_status.specs.Causes.{IsUnopened}
use Rattle.ha_status.specs.Files.{Files}
use Rattle.ha_worker.specs.Courses.{SourceState}
use Rattle.ha_run.specs.Opened.{AreNew}
use Rattle.ha_run.specs.Served.{AreOpened}

-- a file was not opened, or memory ran out
abbrev pub IsOpenFault : Status → Type 0
IsOpenFault (Status.OpenFault name) = Unit {0}
IsOpenFault Status.Memory = Unit {0}
IsOpenFault _ = ⊥

-- it is this file, which was asked for last
abbrev pub StoppedAt : Call → Option (List Call) → Option (List Call) → Status → Type 0
StoppedAt call before after (Status.OpenFault name) = (name ≡ call.0) × (after ≡ and_asked before (call ∷ []))
StoppedAt call before after _ = Unit {0}

-- it is one of the sources of these names, which come behind others that are open: those before it were opened, and it was asked for last
abbrev pub StoppedAmong : Option Files → List Text → List Text → List SourceState → Option (List Call) → Option (List Call) → Status → Type 0
StoppedAmong files had names sources before after (Status.OpenFault name) =
    (opened : List Text) × (later : List Text) × (names ≡ opened ++ name ∷ later) × AreNew files (had ++ opened) sources
    × (after ≡ and_asked before (map (λ n. (n, Opening.Reading)) opened ++ (name, Opening.Reading) ∷ []))
StoppedAmong files had names sources before after _ = Unit {0}

-- it is the trace, which was asked for last
abbrev pub StoppedAtTrace : Option Text → Option (List Call) → Option (List Call) → Status → Type 0
StoppedAtTrace trace before after (Status.OpenFault name) =
    (trace ≡ Some name) × (after ≡ and_asked before ((name, Opening.Writing) ∷ []))
StoppedAtTrace trace before after _ = Unit {0}

-- it is the trace
abbrev pub TraceOpenCause : Option Text → ℕ → ℕ → Option (Option (Text × Opening)) → Status → Type 0
TraceOpenCause trace faults faults' last (Status.OpenFault name) = (trace ≡ Some name) × IsUnopened name Opening.Writing faults faults' last
TraceOpenCause trace faults faults' last _ = Unit {0}

-- the sources of these names were opened, in order, or those of the first ones, up to a fault
abbrev pub OpensAs : Option Files → List Text → List SourceState → Option Status → Type 0
OpensAs files names sources None = AreNew files names sources
OpensAs files names sources (Some status) = AreOpened names sources

-- the answers where a store's text was not taken
abbrev pub IsTextRefused : Text → Status → Type 0
IsTextRefused text (Status.StoreRefused code) = stored_in text ≡ Err code
IsTextRefused text status = Unit {0}
