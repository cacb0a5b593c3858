-- A line that is only noted: one that was refused, or that says that its source failed or gave too much.
use Rattle.std.specs.Prelude.{◌≡◌, ℕ, [], length}
use Rattle.ha_value.specs.declared.value.EntityId.{EntityId}
use Rattle.ha_config.specs.declared.command.Cmd.{Cmd}
use Rattle.ha_journal.specs.Journal.{Journal, now}
use Rattle.ha_journal.specs.Switches.{is_on}
use Rattle.ha_journal.specs.States.{states}
use Rattle.ha_journal.specs.Attempts.{attempts}
use Rattle.ha_model.specs.Records.{records_of}

abbrev pub IsIdle : Cmd → Type 0
IsIdle (Cmd.Report entity text attributes) = ⊥
IsIdle (Cmd.Gone entity) = ⊥
IsIdle (Cmd.Event kind pairs) = ⊥
IsIdle (Cmd.Moment at) = ⊥
IsIdle (Cmd.Switch name on stop) = ⊥
IsIdle (Cmd.Trigger name skip) = ⊥
IsIdle Cmd.Restart = ⊥
IsIdle (Cmd.Reload text config) = ⊥
IsIdle (Cmd.Refused code) = Unit {0}
IsIdle Cmd.Lost = Unit {0}
IsIdle Cmd.TooLong = Unit {0}

-- the longer journal k has the states, the present moment, the switches and the records of j, and its entry behind j asks for no run
pub record NothingChanges (j k : Journal) : Type 0 where
  pub states_stay : (e : EntityId) → states k e ≡ states j e
  pub now_stays : now k ≡ now j
  pub switches_stay : (a : ℕ) → is_on k a ≡ is_on j a
  pub no_attempts : attempts k (length j) ≡ []
  pub records_stay : records_of k ≡ records_of j
