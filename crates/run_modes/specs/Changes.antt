-- What each call does to one record.
use Rattle.std.specs.Prelude.{ℕ, suc, true, false, ◌&&◌, nat_eq, Option, Some, if◌then◌else◌}
use Rattle.std.specs.Option.{option_map_or}
use Rattle.ha_config.specs.declared.config.Mode.{Mode}
use Rattle.ha_model.specs.declared.record.EndCause.{EndCause}
use Rattle.ha_model.specs.declared.record.Record.{Record}
use Rattle.ha_model.specs.Records.{is_restart_mode}
use Rattle.run_modes.specs.Table.{is_live, is_stopped, end_one, begins_at}

-- an end: the run with this serial ends, and the one that waited for it begins
abbrev pub after_end : ℕ → ℕ → EndCause → Option ℕ → Record → Record
after_end serial place cause next r =
    if nat_eq r.serial serial then record r { end = Some (place, cause) }
    else if option_map_or (nat_eq r.serial) next false then begins_at place r
    else r

-- an attempt that is admitted: in mode restart the live runs of its automation are replaced
abbrev pub after_attempt : ℕ → Mode → ℕ → Record → Record
after_attempt a mode place r = if is_restart_mode mode && is_live a r then record r { end = Some (place, EndCause.Replaced) } else r

-- a stop
abbrev pub after_stop : Option ℕ → ℕ → EndCause → Record → Record
after_stop which place cause r = if is_stopped which r then end_one true place cause r else r

-- a call that is counted
abbrev pub after_call : ℕ → Record → Record
after_call serial r = if nat_eq r.serial serial then record r { calls = suc r.calls } else r
