-- That the sinks are those that were handed in: what they tell is told as before.
use Rattle.std.proofs.Common.{◌≡◌, inl, inr, ◌∙◌, List, Option, ap}
use Rattle.std.specs.Prelude.{is_some}
use Rattle.ha_io.specs.Told.{Takes}
use Rattle.ha_config.specs.Words.{Text}
use Rattle.ha_status.specs.declared.status.Status.{Status}
use Rattle.ha_status.specs.Files.{Files}
use Rattle.ha_status.specs.Written.{TookBut, TookLine}
use Rattle.ha_check.specs.Checked.{IsOutput}
use Rattle.replay_file.specs.Judged.{AreErrorsTaken, IsTaken}
use Rattle.replay_file.specs.Replays.{IsReplay}
use Rattle.ha_rehearse.specs.Rehearsed.{IsCounted}
use Rattle.ha_top.proofs.ToldLemmas.{still_told}

took_told : (text : Text) (before after : Option Text) → Takes before text after → is_some after ≡ is_some before
took_told text before after h = ap is_some h ∙ still_told before text

but_told : (rest text : Text) (before after : Option Text) → TookBut rest text before after → is_some after ≡ is_some before
but_told rest text before after h = took_told h.front before after h.took

pub line_told : (faulted : Type 0) (s : Status) (before after : Option Text) → TookLine faulted s before after → is_some after ≡ is_some before
line_told faulted s before after h = took_told h.line before after h.took

-- ---- each command

pub output_told : (files : Option Files) (name : Text) (s : Status) (before after : Option Text) → IsOutput files name s before after → is_some after ≡ is_some before
output_told files name Status.Ok before after h = but_told h.written.rest _ before after h.written.took
output_told files name (Status.WriteFault z) before after h = but_told h.written.rest _ before after h.written.took
output_told files name Status.Memory before after (inl h) = ap is_some h
output_told files name Status.Memory before after (inr h) = but_told h.written.rest _ before after h.written.took
output_told files name Status.Usage before after h = ap is_some h
output_told files name (Status.ConfigRefused l c) before after h = ap is_some h
output_told files name (Status.OpenFault other) before after h = ap is_some h
output_told files name (Status.ReadFault k) before after h = ap is_some h
output_told files name Status.KeepFault before after h = ap is_some h
output_told files name Status.JournalFull before after h = ap is_some h
output_told files name (Status.SourceTooLong k) before after h = ap is_some h
output_told files name (Status.StoreRefused c) before after h = ap is_some h
output_told files name (Status.TraceRefused l) before after h = ap is_some h

pub counts_told : (n : _) (s : Status) (before after : Option Text) → IsCounted n s before after → is_some after ≡ is_some before
counts_told n Status.Ok before after h = but_told h.written.rest _ before after h.written.took
counts_told n (Status.WriteFault z) before after h = but_told h.written.rest _ before after h.written.took
counts_told n Status.Memory before after (inl h) = ap is_some h
counts_told n Status.Memory before after (inr h) = but_told h.written.rest _ before after h.written.took
counts_told n Status.Usage before after h = ap is_some h
counts_told n (Status.ConfigRefused l c) before after h = ap is_some h
counts_told n (Status.OpenFault other) before after h = ap is_some h
counts_told n (Status.ReadFault k) before after h = ap is_some h
counts_told n Status.KeepFault before after h = ap is_some h
counts_told n Status.JournalFull before after h = ap is_some h
counts_told n (Status.SourceTooLong k) before after h = ap is_some h
counts_told n (Status.StoreRefused c) before after h = ap is_some h
counts_told n (Status.TraceRefused l) before after h = ap is_some h

pub calls_told : (files : Option Files) (name : Text) (lefts : List (Option Text)) (s : Status) (before after : Option Text) (Errors : Text → Type 0)
    → IsReplay files name lefts s (λ t. IsTaken s t before after) Errors → is_some after ≡ is_some before
calls_told files name lefts s before after Errors (inl h) = but_told h.1.rest _ before after h.1.took
calls_told files name lefts s before after Errors (inr h) = but_told h.judged.calls.rest _ before after h.judged.calls.took

errors_told : (faulted : Type 0) (s : Status) (text : Text) (before after : Option Text) → AreErrorsTaken faulted s text before after → is_some after ≡ is_some before
errors_told faulted s text before after h = line_told faulted s h.between after h.line_taken ∙ but_told h.errors_taken.rest text before h.between h.errors_taken.took

pub replay_errors_told : (files : Option Files) (name : Text) (lefts : List (Option Text)) (s : Status) (faulted : Type 0) (before after : Option Text) (Calls : Text → Type 0)
    → IsReplay files name lefts s Calls (λ t. AreErrorsTaken faulted s t before after) → is_some after ≡ is_some before
replay_errors_told files name lefts s faulted before after Calls (inl h) = errors_told faulted s _ before after h.2
replay_errors_told files name lefts s faulted before after Calls (inr h) = errors_told faulted s _ before after h.judged.errors
