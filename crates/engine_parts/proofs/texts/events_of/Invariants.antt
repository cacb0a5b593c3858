use Rattle.std.proofs.Common.{◌≡◌, take}
use Rattle.std.specs.Prelude.{filter_map}
use Rattle.ha_journal.specs.Helpers.{event_of_change}
use Rattle.engine_parts.proofs.texts.events_of.Given as goal

abbrev pub invariant-loop-place : goal.invariant-loop-place
invariant-loop-place l = l.events ≡ filter_map event_of_change (take l.place l.changes)
