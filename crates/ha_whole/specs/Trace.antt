-- The trace and the calls of a whole journal: a line has the names of the units of its segment, as they are there before it.
use Rattle.std.specs.Prelude.{Bool, List, []}
use Rattle.ha_config.specs.Words.{Text}
use Rattle.ha_journal.specs.declared.entry.Entry.{Entry}
use Rattle.ha_journal.specs.EntryText.{texts_after, trace_by}
use Rattle.ha_journal.specs.Journal as here
use Rattle.ha_journal.specs.Journal.{Journal}
use Rattle.ha_model.specs.Records.{Records}
use Rattle.ha_model.specs.Texts.{call_line_of}
use Rattle.ha_whole.specs.Segments.{segment}

-- the names of the units of the last segment, each at its number
abbrev pub names : Journal → List Text
names j = here.names (segment j)

abbrev pub trace_text : Journal → Bool → Text
trace_text j ended = trace_by names j ended

abbrev pub call_text_of : Records → Journal → Entry → Text
call_text_of records before x = call_line_of (names before) records before x

abbrev pub call_text : Journal → Records → Text
call_text j records = texts_after (call_text_of records) [] j
