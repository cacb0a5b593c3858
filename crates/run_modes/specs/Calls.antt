-- The calls that one entry asks for, and which journals a table stands for.
use Rattle.std.specs.Prelude.{◌≡◌, ◌<◌, ℕ, suc, Bool, not, ◌&&◌, ◌||◌, count_by, nat_eq, List, length, fold, Option, Some, None, option_and_then, if◌then◌else◌}
use Rattle.std.specs.List.{list_any}
use Rattle.std.specs.Option.{option_map_or}
use Rattle.ha_model.specs.declared.record.EndCause.{EndCause}
use Rattle.ha_journal.specs.declared.entry.Entry.{Entry}
use Rattle.ha_config.specs.Names.{name_of}
use Rattle.ha_journal.specs.Entries.{Stepped, step_of, is_reload, is_restart}
use Rattle.ha_journal.specs.Force.{force, has_unit}
use Rattle.ha_sight.specs.Items.{is_call}
use Rattle.ha_journal.specs.Journal.{Journal, last_place, more, units}
use Rattle.ha_journal.specs.Attempts.{Attempt}
use Rattle.ha_model.specs.Records.{Records, has_name, mode_of, max_of, stops, records_of}
use Rattle.ha_model.specs.NextPlace.{next_end}
use Rattle.ha_model.specs.Lawful.{record_of}
use Rattle.run_modes.specs.Table.{RunTable, attempted, ended_at, stopped, called_on}

-- a table stands for a journal: its records are those of the journal
abbrev pub StandsFor : RunTable → Journal → Type 0
StandsFor t j = t.list ≡ records_of j

-- ---- the calls for the entry at place p, in order: the call and the end of its own run, the stops, the attempts

abbrev pub call_counted : Bool → ℕ → Records → Records
call_counted made serial rs = if made then called_on serial rs else rs

abbrev pub own_ended : ℕ → ℕ → Option EndCause → Records → Records
own_ended p serial None rs = rs
own_ended p serial (Some cause) rs = ended_at serial p cause rs

-- how the step of a run ends its script, if it does
abbrev pub step_end : Journal → Records → Stepped → Option EndCause
step_end j rs s = option_and_then (λ r. next_end j r s.branch) (record_of rs s.serial)

abbrev pub step_done : Journal → Records → Stepped → Records
step_done j rs s = own_ended (length j) s.serial (step_end j rs s) (call_counted (is_call s.item) s.serial rs)

abbrev pub steps_done : Journal → Records → Entry → Records
steps_done j rs x = option_map_or (step_done j rs) (step_of x) rs

-- the stops: of all at a Restart, else of these units in turn; at a Reload they are those that it drops
abbrev pub stop_cause : Entry → EndCause
stop_cause x = if is_reload x then EndCause.Reloaded else EndCause.SwitchedOff

abbrev pub stop_turned : ℕ → EndCause → Records → ℕ → Records
stop_turned p cause rs a = stopped (Some a) p cause rs

abbrev pub stops_done : ℕ → Entry → List ℕ → Records → Records
stops_done p x turned rs = if is_restart x then stopped None p EndCause.Restarted rs else fold (stop_turned p (stop_cause x)) rs turned

-- the entry turns the unit off so that its runs end, or is a Reload behind which the unit is not in force
abbrev pub ends_runs : Journal → Entry → ℕ → Bool
ends_runs j x a = stops (units j) a x || (is_reload x && not (has_unit (force (more j x)) a))

-- of the units that there are before the entry, these are the ones whose runs it so ends
abbrev pub AreTurned : Journal → Entry → List ℕ → Type 0
AreTurned j x turned = (a : ℕ) → a < length (units j) → ends_runs j x a ≡ list_any (λ b. nat_eq b a) turned

-- the number of the run of an attempt of the last entry, behind these records
abbrev pub run_number : Journal → Records → ℕ × Attempt → ℕ
run_number k rs x = suc (count_by (has_name k (name_of (units k) x.1.automation)) rs)

-- an attempt of the last entry, with its order there
abbrev pub tried : Journal → Records → ℕ × Attempt → Records
tried k rs x =
    attempted x.1.automation (mode_of (units k) x.1.automation) (max_of (units k) x.1.automation) (last_place k) x.0 (run_number k rs x) x.1.env rs

abbrev pub all_tried : Journal → Records → List (ℕ × Attempt) → Records
all_tried k rs xs = fold (tried k) rs xs
