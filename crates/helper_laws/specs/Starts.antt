-- Which entries start a timer.
use Rattle.std.specs.Prelude.{Bool, false, ◌&&◌, is_some, codes}
use Rattle.std.specs.Option.{option_map_or}
use Rattle.ha_value.specs.declared.value.EntityId.{EntityId}
use Rattle.ha_sight.specs.declared.helped.HelperChange.{HelperChange}
use Rattle.ha_config.specs.Words.{same}
use Rattle.ha_journal.specs.declared.entry.Entry.{Entry}
use Rattle.ha_journal.specs.Entries.{change_of}

-- the change makes a timer active, for a span
abbrev pub is_start : HelperChange → Bool
is_start c = same c.text (codes "active") && is_some c.span

-- the entry changes e, and so that it is started
abbrev pub starts : EntityId → Entry → Bool
starts e x = option_map_or is_start (change_of e x) false
