-- The machine may move between threads, and the engine where its reading may.
use denote.Param.Send.{IsSend, sendable}
use Rattle.std.proofs.Crossing.{crosses}
use Rattle.ha_clock.proofs.moment.Moment.TheSendSync as moment
use Rattle.run_modes.specs.contracts.runs.Runs as Runs
use Rattle.run_modes.proofs.lanes.Lanes.TheSendSync as lanes
use Rattle.segment_runs.specs.contracts.segment.SegmentRuns as SegmentRuns
use Rattle.named_runs.specs.contracts.runs.NamedRuns as NamedRuns
use Rattle.unit_book.specs.contracts.book.UnitBook as UnitBook
use Rattle.ha_engine.specs.contracts.engine.Machine as Machine
use Rattle.ha_engine.specs.contracts.kept.Kept as Kept
use Rattle.ha_engine.proofs.bounds.Bounds.TheSendSync as bounds
use Rattle.engine_sends.proofs.Entries.{entries}
use Rattle.engine_sends.proofs.Parts.{parts_field}

runs_send : IsSend Runs.the_row
runs_send = search (lanes.the_field_send, crosses, entries) depth 60 fits 20000

own_runs_send : IsSend SegmentRuns.the_row
own_runs_send = search (runs_send, crosses, entries) depth 60 fits 20000

named_runs_send : IsSend NamedRuns.the_row
named_runs_send = search (own_runs_send, crosses, entries) depth 60 fits 20000

book_field : IsSend UnitBook.the_field.row
book_field = search (crosses, entries) depth 60 fits 20000

stored_field : IsSend Kept.the_field.row
stored_field = search (moment.the_send, crosses, entries) depth 60 fits 20000

stored_send : IsSend Kept.the_row
stored_send = search (stored_field, sendable) depth 60 fits 20000

pub machine_send : IsSend Machine.the_row
machine_send = search (named_runs_send, book_field, stored_field, stored_send, parts_field, bounds.the_field_send, moment.the_send, crosses, entries) depth 60 fits 20000
