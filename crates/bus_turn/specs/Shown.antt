-- What a bus shows: the journal with its records, what lies outside, and the first fault.
use Rattle.std.specs.Prelude.{Bool, flat_map, Option, Some, None, if◌then◌else◌}
use Rattle.ha_journal.specs.declared.entry.Entry.{Entry}
use Rattle.ha_config.specs.Words.{Text}
use Rattle.ha_journal.specs.Journal.{Journal}
use Rattle.ha_model.specs.Records.{Records}
use Rattle.ha_journal.specs.EntryText.{error_text_of, trace_line}
use Rattle.ha_whole.specs.Trace.{call_text_of, names}
use Rattle.ha_whole.specs.Whole.{appended, changes_store, put, store_text}
use Rattle.bus_turn.specs.declared.fault.BusFault.{BusFault}
use Rattle.bus_turn.specs.States.{Outside}
use Rattle.bus_turn.specs.Writes.{EntryTexts, entry_texts}

pub record BusView : Type 0 where
  pub journal : Journal
  pub records : Records
  pub is_spent : Bool
  pub out : Outside
  pub first : Option BusFault

abbrev pub bus_view : Journal → Records → Bool → Outside → Option BusFault → BusView
bus_view journal records is_spent out first = record { journal = journal; records = records; is_spent = is_spent; out = out; first = first }

-- the store's text of this journal, where it is to be saved: its last put is the first, or changed what the store keeps
abbrev pub saved_text : Journal → Option Text
saved_text j = if changes_store j then Some (store_text j) else None

-- the texts that one put gives after these: a line in the trace for each entry that it appends
abbrev pub texts_of : Records → Journal → Entry → EntryTexts
texts_of records before x =
    entry_texts (call_text_of records before x) (error_text_of x)
    (flat_map (trace_line (names (put before x))) (appended before x)) (saved_text (put before x))
