-- What the program answers for, by its words.
use Rattle.std.specs.Prelude.{ℕ, ◌≡◌, ◌⊎◌, ◌∷◌, [], map, Option, Some, None, IfSome, IsSome}
use Rattle.ha_config.specs.Words.{Text}
use Rattle.ha_status.specs.declared.status.Status.{Status}
use Rattle.ha_status.specs.Causes.{OneRose, OpenCause, ReadCause, WriteCause}
use Rattle.ha_status.specs.Files.{IsHandedBack}
use Rattle.ha_words.specs.declared.plan.Plan.{Plan}
use Rattle.ha_words.specs.declared.plan.Plan.TheVariants.{Run, Check, Replay, Rehearse}
use Rattle.ha_check.specs.Checked.{IsAnswerOf, IsCheckStatus, IsOutput}
use Rattle.ha_check.specs.Configured.{RefusedCause}
use Rattle.replay_file.specs.Judged.{AreErrorsTaken, IsTaken}
use Rattle.replay_file.specs.Replays.{IsReplay}
use Rattle.ha_io.specs.declared.place.Opening.{Opening}
use Rattle.ha_rehearse.specs.Rehearsed.{IsCounted, IsRehearseStatus}
use Rattle.ha_io.specs.Counts.{Rose}
use Rattle.ha_io.specs.Told.{IsAskedSome}
use Rattle.ha_top.specs.Views.{After, Before}
use Rattle.ha_top.specs.Written.{LineBehind, NoneWritten}
use Rattle.ha_top.specs.Answered.{Answered}

-- no journal
pub record HasNoJournal (b : Before) (a : After) : Type 0 where
  pub no_entry : a.journal ≡ []
  pub no_record : a.records ≡ []
  pub no_trace : a.trace ≡ None
  pub no_store : a.keep.kept ≡ b.keep.kept

-- the words are none that the program takes: nothing was asked of the place, and nothing but the status line was written
pub record Unplanned (b : Before) (a : After) : Type 0 where
  pub status_is : (a.status ≡ Status.Usage) ⊎ (a.status ≡ Status.Memory)
  pub nothing : HasNoJournal b a
  pub written : NoneWritten b a
  pub no_source : a.sources ≡ []
  pub same_place : a.place ≡ b.place

-- `check` of the file of this name
pub record Checked (name : Text) (b : Before) (a : After) : Type 0 where
  pub answer : IsCheckStatus name a.status
  pub of_file : IfSome b.place.files (λ f. IsAnswerOf (f name) a.status)
  pub refused : RefusedCause b.place.files name a.status
  pub asked : IsAskedSome b.place.asked ((name, Opening.Reading) ∷ []) a.place.asked
  pub output : IsOutput b.place.files name a.status b.out.took a.out.took
  pub line : LineBehind b a b.err.took
  pub nothing : HasNoJournal b a
  pub handed_back : IsHandedBack name (map (λ s. s.name) a.sources) a.status
  pub at_end : IsSome b.place.files → a.status ≡ Status.Ok → map (λ s. s.left) a.sources ≡ Some [] ∷ []
  pub unopened : OpenCause (name ∷ []) b.place.faults a.place.faults a.place.last a.status
  pub unread : ReadCause name [] (map (λ s. s.faults) a.sources) (map (λ s. s.name) a.sources) a.status
  pub unwritten : WriteCause (Rose b.out.faults a.out.faults) (Rose b.out.zeros a.out.zeros) a.status

-- `replay` of the trace in the file of this name
pub record Replayed (name : Text) (b : Before) (a : After) : Type 0 where
  -- the status by the bytes that were read of the file, and the calls and errors of the run that they begin with
  pub replay : IsReplay b.place.files name (map (λ s. s.left) a.sources) a.status (λ t. IsTaken a.status t b.out.took a.out.took)
      (λ t. AreErrorsTaken (OneRose b.err.faults a.err.faults b.err.zeros a.err.zeros) a.status t b.err.took a.err.took)
  pub asked : IsAskedSome b.place.asked ((name, Opening.Reading) ∷ []) a.place.asked
  pub nothing : HasNoJournal b a
  pub handed_back : IsHandedBack name (map (λ s. s.name) a.sources) a.status
  pub at_end : IsSome b.place.files → a.status ≡ Status.Ok → map (λ s. s.left) a.sources ≡ Some [] ∷ []
  pub unopened : OpenCause (name ∷ []) b.place.faults a.place.faults a.place.last a.status
  pub unread : ReadCause name (name ∷ []) (map (λ s. s.faults) a.sources) (map (λ s. s.name) a.sources) a.status
  pub unwritten : WriteCause (OneRose b.out.faults a.out.faults b.err.faults a.err.faults)
      (OneRose b.out.zeros a.out.zeros b.err.zeros a.err.zeros) a.status

-- `rehearse` of so many lines: nothing was asked of the place
pub record Rehearsed (lines : ℕ) (b : Before) (a : After) : Type 0 where
  pub answer : IsRehearseStatus lines a.status
  pub output : IsCounted lines a.status b.out.took a.out.took
  pub line : LineBehind b a b.err.took
  pub nothing : HasNoJournal b a
  pub no_source : a.sources ≡ []
  pub same_place : a.place ≡ b.place
  pub unwritten : WriteCause (Rose b.out.faults a.out.faults) (Rose b.out.zeros a.out.zeros) a.status

-- what the program answers for, by the plan of its words
abbrev pub AnsweredBy : Option Plan → Before → After → Type 0
AnsweredBy None b a = Unplanned b a
AnsweredBy (Some (Run words)) b a = Answered words b a
AnsweredBy (Some (Check name)) b a = Checked name b a
AnsweredBy (Some (Replay name)) b a = Replayed name b a
AnsweredBy (Some (Rehearse lines)) b a = Rehearsed lines b a
