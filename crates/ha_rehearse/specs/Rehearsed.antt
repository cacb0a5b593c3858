-- What `rehearse` answers for.
use Rattle.std.specs.Prelude.{ℕ, ◌≡◌, ◌≤◌, ◌⊎◌, true, [], Option, None, Ok, codes}
use Rattle.ha_config.specs.declared.config.Config.{Config}
use Rattle.ha_journal.specs.declared.entry.Entry.{Entry}
use Rattle.ha_journal.specs.declared.entry.Entry.TheVariants.{Boot}
use Rattle.ha_journal.specs.Entries.{first_carry}
use Rattle.ha_journal.specs.Journal.{Journal}
use Rattle.ha_whole.specs.Whole.{is_quiet}
use Rattle.ha_model.specs.Records.{Records}
use Rattle.ha_model.specs.Texts.{rehearse_text}
use Rattle.rehearsal.specs.Generated.{config_text, start}
use Rattle.conf_auto.specs.Config.{config_of}
use Rattle.ha_status.specs.declared.status.Status.{Status}
use Rattle.ha_status.specs.StatusLine.{Text}
use Rattle.ha_status.specs.Written.{IsWritten}
use Rattle.ha_rehearse.specs.Puts.{Closing, HasNoRoom}

-- the boot of the generated configuration, at its start, in UTC, without a store
abbrev pub boot_of : Config → Entry
boot_of config = Boot config_text config None start (codes "UTC") (first_carry [])

-- The journal is lawful with its records. It begins with the boot of the configuration that the generated text is, and its lines are the
-- first n generated ones, of source 0 alone.
pub record Rehearses (n : ℕ) (j : Journal) (records : Records) : Type 0 where
  pub config : Config
  pub reads : config_of config_text ≡ Ok config
  pub closing : Closing (boot_of config) n j records

-- and no run can go on
pub record Rehearsed (n : ℕ) (j : Journal) (records : Records) : Type 0 where
  pub rehearses : Rehearses n j records
  pub quiet : is_quiet records j ≡ true

-- another entry is due, for which there is no room
pub record RehearsedFull (most : ℕ) : Type 0 where
  pub journal : Journal
  pub records : Records
  pub n : ℕ
  pub within : n ≤ most
  pub rehearses : Rehearses n journal records
  pub full : HasNoRoom n most journal records

-- the answers of `rehearse`
abbrev pub IsRehearseStatus : ℕ → Status → Type 0
IsRehearseStatus n Status.Ok = Unit {0}
IsRehearseStatus n (Status.WriteFault zero) = Unit {0}
IsRehearseStatus n Status.JournalFull = RehearsedFull n
IsRehearseStatus n Status.Memory = Unit {0}
IsRehearseStatus n _ = ⊥

-- ---- what was written

-- the counts of that journal, as far as the call came: all of them at Ok
pub record IsRehearseOf (n : ℕ) (status : Status) (before after : Option Text) : Type 0 where
  pub journal : Journal
  pub records : Records
  pub rehearsed : Rehearsed n journal records
  pub written : IsWritten status (rehearse_text journal records) before after

-- The output at each status: the four counts at Ok, a front of them where the output or memory failed, and else nothing.
abbrev pub IsCounted : ℕ → Status → Option Text → Option Text → Type 0
IsCounted n Status.Ok before after = IsRehearseOf n Status.Ok before after
IsCounted n (Status.WriteFault zero) before after = IsRehearseOf n (Status.WriteFault zero) before after
IsCounted n Status.Memory before after = (after ≡ before) ⊎ IsRehearseOf n Status.Memory before after
IsCounted n _ before after = after ≡ before

-- ---- parts of the call

-- the answers where a journal was rehearsed
abbrev pub IsShown : Status → Type 0
IsShown Status.Ok = Unit {0}
IsShown (Status.WriteFault zero) = Unit {0}
IsShown Status.Memory = Unit {0}
IsShown _ = ⊥

-- the answers where none was
abbrev pub IsRehearseFault : ℕ → Status → Type 0
IsRehearseFault n Status.JournalFull = RehearsedFull n
IsRehearseFault n Status.Memory = Unit {0}
IsRehearseFault n _ = ⊥
