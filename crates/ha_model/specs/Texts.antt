-- The texts that are written of a journal with its records: its calls, and the counts of `rehearse`. `EntryText` has the others.
use Rattle.std.specs.Prelude.{suc, false, List, [], ◌++◌, length, count_by, is_some, codes}
use Rattle.std.specs.Option.{option_map_or}
use Rattle.ha_journal.specs.declared.entry.Entry.{Entry}
use Rattle.ha_config.specs.Words.{Text}
use Rattle.ha_sight.specs.Items.{Called, call_in, is_call}
use Rattle.ha_journal.specs.Entries.{Stepped, step_of, line_of}
use Rattle.ha_journal.specs.Journal.{Journal, names}
use Rattle.ha_config.specs.Names.{name_in}
use Rattle.ha_model.specs.Records.{Records, calls_of}
use Rattle.ha_model.specs.Lawful.{record_of}
use Rattle.ha_journal.specs.EntryText.{call_line, texts_after}
use Rattle.ha_config.specs.CheckText.{count_line}

-- ---- calls

-- the line of a Step that calls, where units have these names by their numbers; the calls of its run count from 1
abbrev pub call_of_step : List Text → Records → Journal → Stepped → Called → Text
call_of_step all records before s call =
    option_map_or
    (λ r. call_line (name_in all r.automation) r.number (suc (calls_of before s.serial)) call)
    (record_of records s.serial) []

abbrev pub call_line_of : List Text → Records → Journal → Entry → Text
call_line_of all records before x = option_map_or (λ s. option_map_or (call_of_step all records before s) (call_in s.item) []) (step_of x) []

-- that of one segment
abbrev pub call_text_of : Records → Journal → Entry → Text
call_text_of records before x = call_line_of (names before) records before x

-- the call lines of one segment
abbrev pub call_text : Journal → Records → Text
call_text j records = texts_after (call_text_of records) [] j

-- ---- what `rehearse` writes

-- how many lines, entries, runs and calls a journal has
abbrev pub rehearse_text : Journal → Records → Text
rehearse_text j records =
    count_line (codes "lines") (count_by (λ x. is_some (line_of x)) j)
    ++ count_line (codes "entries") (length j)
    ++ count_line (codes "runs") (length records)
    ++ count_line (codes "calls") (count_by (λ x. option_map_or (λ s. is_call s.item) (step_of x) false) j)
