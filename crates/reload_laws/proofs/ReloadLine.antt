-- What a Reload is not: it reports, asks and makes nothing, opens no segment and brings no moment.
use Rattle.std.proofs.Common.{◌≡◌, false, [], refl}
use Rattle.std.specs.Prelude.{Some, None}
use Rattle.ha_config.specs.declared.command.Cmd.{Cmd}
use Rattle.ha_config.specs.declared.config.Config.{Config}
use Rattle.ha_config.proofs.ListLemmas.{none-some}
use Rattle.ha_journal.specs.declared.entry.Entry.{Entry}
use Rattle.ha_journal.specs.declared.entry.Entry.TheVariants.{Again, Boot, Line, Step}
use Rattle.ha_journal.specs.Entries.{Asked, Turning, asked_in, changes_in, event_in, gone_in, halted_in, is_moment, is_restart, opens_segment, reload_in, report_in, step_of, turning}
use Rattle.ha_journal.specs.Journal.{brings}

pub record IsOnly (x : Entry) : Type 0 where
  pub report : report_in x ≡ None
  pub gone : gone_in x ≡ None
  pub event : event_in x ≡ None
  pub moment : is_moment x ≡ false
  pub start : brings x ≡ 0
  pub turns : turning x ≡ Turning.Reloads
  pub restart : is_restart x ≡ false
  pub opens : opens_segment x ≡ false
  pub asks : asked_in x ≡ Asked.Nobody
  pub step : step_of x ≡ None
  pub halts : halted_in x ≡ []
  pub helps : changes_in x ≡ []

pub reload-only : (x : Entry) (c : Config) → reload_in x ≡ Some c → IsOnly x
reload-only (Line source number (Cmd.Reload text config)) c e = record {
  report = refl;
  gone = refl;
  event = refl;
  moment = refl;
  start = refl;
  turns = refl;
  restart = refl;
  opens = refl;
  asks = refl;
  step = refl;
  halts = refl;
  helps = refl;
}
reload-only (Boot text config stored start zone carry) c e = absurd (none-some c e)
reload-only (Again number start stored carry) c e = absurd (none-some c e)
reload-only (Step worker serial branch item) c e = absurd (none-some c e)
reload-only (Line source number Cmd.Restart) c e = absurd (none-some c e)
reload-only (Line source number (Cmd.Report entity text attributes)) c e = absurd (none-some c e)
reload-only (Line source number (Cmd.Gone entity)) c e = absurd (none-some c e)
reload-only (Line source number (Cmd.Event kind pairs)) c e = absurd (none-some c e)
reload-only (Line source number (Cmd.Moment at)) c e = absurd (none-some c e)
reload-only (Line source number (Cmd.Switch name on stop)) c e = absurd (none-some c e)
reload-only (Line source number (Cmd.Trigger name skip)) c e = absurd (none-some c e)
reload-only (Line source number (Cmd.Refused code)) c e = absurd (none-some c e)
reload-only (Line source number Cmd.Lost) c e = absurd (none-some c e)
reload-only (Line source number Cmd.TooLong) c e = absurd (none-some c e)
