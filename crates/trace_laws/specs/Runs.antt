-- Runs so far, and what their traces begin with.
use Rattle.std.specs.Prelude.{ℕ, ◌≡◌, ◌≤◌, ◌+◌, ◌⊎◌, Bool, true, false, [], ◌∷◌, ◌++◌, length, Option, Ok, IsSome, is_some, if◌then◌else◌}
use Rattle.std.specs.List.{list_all}
use Rattle.ha_clock.specs.Local.{last_moment}
use Rattle.ha_clock.specs.Zone.{zone_of}
use Rattle.ha_config.specs.declared.config.Config.{Config}
use Rattle.ha_journal.specs.declared.entry.Entry.{Entry}
use Rattle.ha_journal.specs.declared.entry.Entry.TheVariants.{Boot, Line, Step, Again}
use Rattle.ha_config.specs.Names.{automation_named}
use Rattle.ha_config.specs.Sound.{are_in_name_order}
use Rattle.ha_config.specs.Words.{Text}
use Rattle.ha_journal.specs.Journal.{HasEntry, Journal, more}
use Rattle.ha_model.specs.Records.{Records}
use Rattle.ha_whole.specs.Trace.{names, trace_text}
use Rattle.ha_whole.specs.Whole.{IsWithin, Lawful, ends_segment, is_quiet, opened}
use Rattle.ha_config.specs.CheckText.{as_line}
use Rattle.ha_journal.specs.Entries.{first_carry}
use Rattle.ha_journal.specs.EntryText.{trace_line}
use Rattle.ha_journal.specs.Commands.{AreRead}
use Rattle.conf_auto.specs.Config.{config_in, config_of}
use Rattle.ha_replay.specs.declared.boot.BootLine.{BootLine}
use Rattle.ha_replay.specs.Boots.{HasUtf8, Moments, Switches, are_in_time, are_stored}
use Rattle.ha_replay.specs.Traces.{IsEnd}

-- ---- the first entry

-- The configuration, the moments and the zone are read from their texts, and the names of switches and of moments stand in byte order, each
-- once. Each moment is one of an automation.
pub record IsConfigured (b : BootLine) (config : Config) : Type 0 where
  pub config_is : config_of b.text ≡ Ok config
  pub start : b.start ≤ last_moment
  pub zone : IsSome (zone_of b.zone)
  pub ordered : are_stored b.stored ≡ true
  pub last_ordered : are_in_name_order b.last ≡ true
  pub last_in_time : are_in_time b.last ≡ true
  pub known : list_all (λ p. is_some (automation_named config.automations p.0)) b.last ≡ true
  pub utf8 : HasUtf8 b

abbrev pub boot_line : Text → Option Switches → ℕ → Text → Moments → BootLine
boot_line text stored start zone last = record { text = text; stored = stored; start = start; zone = zone; last = last }

abbrev pub IsFirst : Entry → Type 0
IsFirst (Boot text config stored start zone carry) =
    IsConfigured (boot_line text stored start zone carry.last) config × (carry ≡ first_carry carry.last)
IsFirst (Line source number cmd) = ⊥
IsFirst (Step worker serial branch item) = ⊥
IsFirst (Again number start stored carry) = ⊥

-- ---- runs

-- A run so far: nothing yet, or a journal with such a first entry that is lawful, opened where it ends with a Restart, and in which each
-- Reload has the configuration that its text is read as.
abbrev pub IsRun : Journal → Records → Type 0
IsRun [] rs = rs ≡ []
IsRun (first ∷ behind) rs = IsFirst first × Lawful (opened (first ∷ behind)) rs × AreRead config_in (first ∷ behind)

-- The text begins with the trace of a run so far, with its end line where the run has ended, which is quiet then and ends with no Restart;
-- the rest is left.
pub record Begins (text : Text) (j : Journal) (rs : Records) (ended : Bool) (left : Text) : Type 0 where
  pub run : IsRun j rs
  pub room : IsWithin (opened j)
  pub ends : ended ≡ true → HasEntry j × (ends_segment j ≡ false) × (is_quiet rs j ≡ true)
  pub text_is : text ≡ trace_text j ended ++ left

-- how many lines that trace has
abbrev pub line_count : Journal → Bool → ℕ
line_count j ended = length j + (if ended then 1 else 0)

-- ---- the next line

-- the line, with its LF, is that of an entry with which the run goes on
pub record GoesOn (j : Journal) (line : Text) (x : Entry) (rs : Records) : Type 0 where
  pub run : IsRun (more j x) rs
  pub line_is : as_line line ≡ trace_line (names j) x

-- the line may stand next: it is that of an entry, or the end line
abbrev pub MayFollow : Journal → Records → Text → Type 0
MayFollow j rs line = (HasEntry j × IsEnd j rs line) ⊎ ((x : Entry) × (rs' : Records) × GoesOn j line x rs')
