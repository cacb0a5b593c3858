-- The lines that are taken of the bytes that a cut holds, and what is read of a source meanwhile.
use Rattle.std.specs.Prelude.{ℕ, ◌≡◌, List, [], ◌∷◌, ◌++◌, map, Option}
use Rattle.std.specs.Io.KnownBytes.{IsAtEnd}
use Rattle.ha_io.specs.Counts.{Rose}
use Rattle.ha_io.specs.Told.{Gives}
use Rattle.ha_config.specs.declared.command.Cmd.{Cmd}
use Rattle.ha_config.specs.declared.config.Config.{Config}
use Rattle.ha_config.specs.Words.{Text}
use Rattle.ha_text.specs.Lines.{lines_of, whole_lines}
use Rattle.bus_pass.specs.declared.hand.Hand.{Hand}
use Rattle.ha_worker.specs.Courses.{Course, HasGiven, SourceState, cmd_read}
use Rattle.ha_worker.specs.Puts.{PutAll, PutSome}
use Rattle.ha_worker.specs.declared.ending.Ending.{Ending}

-- these lines were taken, whatever follows
abbrev pub Took : Text → List Text → Text → Type 0
Took old lines new = (more : Text) → lines_of (old ++ more) ≡ lines ++ lines_of (new ++ more)

-- all whole lines were taken, and put, each Reload with what its text is read as
pub record TookAll (read : Text → Option Config) (k : ℕ) (old new : Text) (before after : Hand) : Type 0 where
  pub lines : List Text
  pub took : Took old lines new
  pub none : whole_lines new ≡ []
  pub put : PutAll k (map (cmd_read read) lines) before after

abbrev pub course_of : Ending → Course
course_of Ending.Ends = Course.Ends
course_of Ending.Fails = Course.Fails
course_of Ending.Exceeds = Course.Exceeds

-- the source was read so far, and its whole lines were put; the cut holds a begun line alone
pub record Fed (read : Text → Option Config) (k : ℕ) (course : Course) (old new : Hand) (cut : Text) (before after : SourceState) : Type 0 where
  pub bytes : Text
  pub lines : List Text
  pub given : HasGiven course bytes before after
  pub took : Took bytes lines cut
  pub none : whole_lines cut ≡ []
  pub put : PutAll k (map (cmd_read read) lines) old new

-- it was read so far, and some of its whole lines were put
pub record FedSome (read : Text → Option Config) (k : ℕ) (old new : Hand) (before after : SourceState) : Type 0 where
  pub bytes : Text
  pub given : HasGiven Course.Goes bytes before after
  pub some : PutSome k (map (cmd_read read) (whole_lines bytes)) old new

-- what is put behind the whole lines, where a begun line is held
abbrev pub rest_by : (Text → Option Config) → Course → Text → List Cmd
rest_by read Course.Goes cut = []
rest_by read Course.Ends cut = map (cmd_read read) (lines_of cut)
rest_by read Course.Fails cut = Cmd.Lost ∷ []
rest_by read Course.Exceeds cut = Cmd.TooLong ∷ []

-- a source that has given as many bytes as it may: it ends there, the read failed, or one byte more came
abbrev pub AtBound : Course → SourceState → SourceState → Type 0
AtBound Course.Goes before after = ⊥
AtBound Course.Ends before after = Gives before.left [] after.left × IsAtEnd after.left
AtBound Course.Fails before after = (after.left ≡ before.left) × Rose before.faults after.faults
AtBound Course.Exceeds before after = (next : ℕ) × Gives before.left (next ∷ []) after.left
