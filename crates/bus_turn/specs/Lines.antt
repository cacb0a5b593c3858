-- The line of a step that calls, by the record as it is after it.
use Rattle.std.specs.Prelude.{[], Option, option_and_then, option_map}
use Rattle.std.specs.Option.{option_map_or}
use Rattle.ha_journal.specs.declared.entry.Entry.{Entry}
use Rattle.ha_sight.specs.Items.{call_in}
use Rattle.ha_journal.specs.Entries.{step_of}
use Rattle.ha_model.specs.Lawful.{record_of}
use Rattle.ha_model.specs.Records.{Records}
use Rattle.ha_config.specs.Names.{name_in}
use Rattle.ha_journal.specs.EntryText.{call_line}
use Rattle.ha_config.specs.Words.{Text}
use Rattle.std.specs.Prelude.{List}

-- the text of a line, where there is one
abbrev pub text_in : Option Text → Text
text_in line = option_map_or (λ t. t) line []

abbrev pub called_line : List Text → Records → Entry → Option Text
called_line names records x =
    option_and_then (λ s. option_and_then
    (λ r. option_map (call_line (name_in names r.automation) r.number r.calls) (call_in s.item)) (record_of records s.serial)) (step_of x)
