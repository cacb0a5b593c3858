-- What a run answers for before its status line. (A stage of the code, no part of what it promises.)
use Rattle.std.specs.Prelude.{◌≡◌, ◌⊎◌, map, None, IfSome}
use Rattle.bus_turn.specs.Buses.{IsWritten}
use Rattle.ha_status.specs.Causes.{KeepCause, ReadCause, WriteCause}
use Rattle.ha_status.specs.Files.{IsTextFault}
use Rattle.ha_words.specs.declared.plan.RunWords.{RunWords}
use Rattle.conf_auto.specs.Config.{config_in}
use Rattle.ha_run.specs.Core.{IsEndCut, IsEndWritten, IsPartWritten}
use Rattle.ha_run.specs.Stands.{StandsAt, Writings}
use Rattle.ha_check.specs.Configured.{RefusedCause}
use Rattle.ha_top.specs.Views.{After, Before}
use Rattle.ha_top.specs.Written.{AreTheSame, handed, seen}
use Rattle.ha_top.specs.Answered.{IsBooted, IsStore, IsStoreFault, IsTaken, IsTraceOf}
use Rattle.ha_top.specs.Answered.{RunOpenCause, StoreCause, WriteFailed, WriteTookNone, scene}

-- nothing was written, and the keeper holds what it held
pub record Untouched (b : Before) (a : After) : Type 0 where
  pub no_call : a.out ≡ b.out
  pub no_error : a.err ≡ b.err
  pub no_trace : a.trace ≡ None
  pub no_store : a.keep.kept ≡ b.keep.kept

-- what was written before the status line
abbrev pub unlined : Before → After → Writings
unlined b a =
    record {
      Ended = IsEndWritten (seen a a.err.took);
      EndCut = IsEndCut (seen a a.err.took);
      Whole = IsWritten
          (seen a a.err.took);
      Part = IsPartWritten (handed b) (seen a a.err.took);
      Nothing = Untouched b a;
    }

pub record Lived (words : RunWords) (b : Before) (a : After) : Type 0 where
  pub stands : StandsAt config_in (IsBooted words b) (scene words b a) (unlined b a) a.status
  pub traced : IsTraceOf words.trace a.journal a.trace
  pub same : AreTheSame b a
  pub refused : RefusedCause b.place.files words.config a.status
  pub config_first : IfSome b.place.files (λ f. (IsTaken (f words.config) → ⊥) → IsTextFault words.config a.status)
  pub store_refused : StoreCause b.keep.kept a.status
  pub store_next : IfSome b.keep.kept (λ kept. (IsStore kept → ⊥) → IsTextFault words.config a.status ⊎ IsStoreFault a.status)
  pub unopened : RunOpenCause words b.place.faults a.place.faults a.place.last a.status
  pub unread : ReadCause words.config words.sources (map (λ s. s.faults) a.sources) (map (λ s. s.name) a.sources) a.status
  pub unwritten : WriteCause (WriteFailed b a) (WriteTookNone b a) a.status
  pub unkept : KeepCause b.keep.faults a.keep.faults a.status
