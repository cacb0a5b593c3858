-- Which entries are counted.
use Rattle.std.specs.Prelude.{Bool, false, is_some}
use Rattle.std.specs.Option.{option_map_or}
use Rattle.ha_journal.specs.declared.entry.Entry.{Entry}
use Rattle.ha_sight.specs.Items.{is_call}
use Rattle.ha_journal.specs.Entries.{line_of, step_of}

unfoldable pub is_line : Entry → Bool
is_line x = is_some (line_of x)

unfoldable pub calls : Entry → Bool
calls x = option_map_or (λ s. is_call s.item) (step_of x) false
