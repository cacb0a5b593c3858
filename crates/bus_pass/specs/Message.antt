-- What contracts see of a message: the bus, and what was read for the entries that were put with it.
use Rattle.std.specs.Prelude.{Option}
use Rattle.ha_journal.specs.Journal.{Journal}
use Rattle.bus_turn.specs.declared.fault.BusFault.{BusFault}
use Rattle.bus_turn.specs.Shown.{BusView}
use Rattle.bus_pass.specs.declared.hand.Origin.{Origin}
use Rattle.bus_pass.specs.Origins.{origin_of}
use Rattle.bus_pass.specs.Reads.{Reading}

abbrev pub Message : Type 0
Message = BusView × Reading

abbrev pub journal_in : Message → Journal
journal_in m = m.0.journal

abbrev pub first_in : Message → Option BusFault
first_in m = m.0.first

abbrev pub read_in : Message → Reading
read_in m = m.1

abbrev pub origin_in : Message → Origin
origin_in m = origin_of m.0
