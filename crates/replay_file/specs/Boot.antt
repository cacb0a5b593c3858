-- What the first line of a trace boots.
use Rattle.std.specs.Prelude.{◌≡◌, [], ◌∷◌}
use Rattle.ha_journal.specs.declared.entry.Entry.{Entry}
use Rattle.ha_config.specs.Words.{Text}
use Rattle.ha_journal.specs.Journal.{Journal}
use Rattle.ha_model.specs.Records.{Records}
use Rattle.ha_whole.specs.Trace.{names}
use Rattle.ha_whole.specs.Whole.{Right}
use Rattle.ha_config.specs.CheckText.{as_line}
use Rattle.ha_journal.specs.EntryText.{trace_line}
use Rattle.ha_replay.specs.declared.fault.TraceFault.{TraceFault}
use Rattle.trace_laws.specs.Runs.{IsFirst, MayFollow}

-- the journal is a first entry alone, whose line this is
pub record IsBooted (line : Text) (j : Journal) (rs : Records) : Type 0 where
  pub first : Entry
  pub journal : j ≡ first ∷ []
  pub is_first : IsFirst first
  pub line_is : as_line line ≡ trace_line (names []) first
  pub right : Right j rs

-- the line may not stand first, unless memory ran out
abbrev pub IsUnbooted : Text → TraceFault → Type 0
IsUnbooted line TraceFault.Refused = MayFollow [] [] line → ⊥
IsUnbooted line TraceFault.Full = ⊥
IsUnbooted line TraceFault.Memory = Unit {0}
