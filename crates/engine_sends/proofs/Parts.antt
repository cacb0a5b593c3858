-- The parts of an engine may move between threads.
use denote.Param.Send.{IsSend}
use Rattle.std.proofs.Crossing.{crosses}
use Rattle.std.proofs.collections.BTreeMap.TheSendSync as map
use Rattle.std.proofs.string.String.TheSendSync as string
use Rattle.std.proofs.alloc.Global.TheSendSync as heap
use Rattle.std.below.std_heap.proofs.GlobalAllocator.TheSendSync as allocator
use Rattle.ha_clock.proofs.zone.Zone.TheSendSync as zone
use Rattle.timer_queue.proofs.TimerQueue.TheSendSync as queue
use Rattle.event_bus.proofs.index.Index.TheSendSync as index
use Rattle.entity_places.proofs.places.Places.TheSendSync as places
use Rattle.trig_set.specs.contracts.spot.Held as Held
use Rattle.trig_set.specs.contracts.spot.Spot as Spot
use Rattle.trig_set.specs.contracts.many_spots.Listed as Listed
use Rattle.trig_set.specs.contracts.owners.Attached as Attached
use Rattle.trig_set.specs.contracts.ordered.Owners as Owners
use Rattle.trig_set.specs.contracts.set.TrigSet as TrigSet
use Rattle.trig_set.proofs.numbers.Numbers.TheSendSync as numbers
use Rattle.trig_set.proofs.recent.Recent.TheSendSync as recent
use Rattle.state_table.specs.contracts.table.StateTable as StateTable
use Rattle.wait_set.specs.contracts.asked.Asked as Asked
use Rattle.wait_set.specs.contracts.waits.Waits as Waits
use Rattle.wait_set.proofs.pending.Pending.TheSendSync as pending
use Rattle.helper_set.specs.contracts.kept.Last as Last
use Rattle.helper_set.specs.contracts.kept.Kept as Kept
use Rattle.helper_set.specs.contracts.list.KeptList as KeptList
use Rattle.helper_set.specs.contracts.set.Helpers as Helpers
use Rattle.switch_book.proofs.book.Switches.TheSendSync as switches
use Rattle.script_calls.proofs.calls.Calls.TheSendSync as calls
use Rattle.engine_parts.specs.contracts.parts.Parts as Parts
use Rattle.engine_parts.proofs.ready.Ready.TheSendSync as ready
use Rattle.engine_parts.proofs.slots.Slots.TheSendSync as slots
use Rattle.engine_sends.proofs.Entries.{entries}
use Rattle.engine_sends.proofs.Frames.{frames_send}

held_send : IsSend Held.the_row
held_send = search entries depth 60 fits 20000

spot_send : IsSend Spot.the_row
spot_send = search (held_send, entries) depth 60 fits 20000

listed_send : IsSend Listed.the_row
listed_send = search (index.the_field_send, index.the_send, heap.the_send, allocator.the_frees, crosses, entries) depth 60 fits 20000

attached_send : IsSend Attached.the_row
attached_send = search (spot_send, listed_send, queue.the_send, crosses, entries) depth 60 fits 20000

owners_send : IsSend Owners.the_row
owners_send = search (attached_send, crosses, entries) depth 60 fits 20000

triggers_field : IsSend TrigSet.the_field.row
triggers_field = search (owners_send, index.the_field_send, queue.the_send, zone.the_send, numbers.the_field_send, recent.the_field_send, crosses, entries) depth 60 fits 20000

states_field : IsSend StateTable.the_field.row
states_field = search (map.the_send, string.the_send, heap.the_send, allocator.the_frees, crosses, entries) depth 60 fits 20000

asked_send : IsSend Asked.the_row
asked_send = search entries depth 60 fits 20000

waits_send : IsSend Waits.the_row
waits_send = search (asked_send, pending.the_field_send, crosses, entries) depth 60 fits 20000

last_send : IsSend Last.the_row
last_send = search entries depth 60 fits 20000

kept_send : IsSend Kept.the_row
kept_send = search (last_send, entries) depth 60 fits 20000

list_send : IsSend KeptList.the_row
list_send = search (kept_send, places.the_field_send, places.the_send, crosses, entries) depth 60 fits 20000

helpers_field : IsSend Helpers.the_field.row
helpers_field = search (list_send, queue.the_send, crosses, entries) depth 60 fits 20000

ruleset kept = (states_field, helpers_field, switches.the_send, triggers_field, waits_send, calls.the_send, frames_send, ready.the_field_send)

pub parts_field : IsSend Parts.the_field.row
parts_field = search (kept, zone.the_send, queue.the_send, slots.the_send, crosses, entries) depth 60 fits 20000
