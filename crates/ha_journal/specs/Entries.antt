-- What an entry is, and what its command or item does. The other definitions ask here, or `Fair` of commands and `Items` of items, so that
-- few files know all kinds of entries, commands and items; elsewhere a match on these types names every kind.
use Rattle.std.specs.Prelude.{ℕ, Bool, true, false, ◌||◌, List, [], ◌++◌, map, find, replicate, Option, Some, None, is_some, option_and_then}
use Rattle.std.specs.Option.{option_to_list}
use Rattle.ha_value.specs.declared.value.EntityId.{EntityId}
use Rattle.ha_config.specs.declared.config.Config.{Config}
use Rattle.ha_config.specs.declared.command.Cmd.{Cmd}
use Rattle.ha_sight.specs.declared.helped.HelperChange.{HelperChange}
use Rattle.ha_sight.specs.declared.item.Item.{Item}
use Rattle.ha_sight.specs.Items.{changes_by, halted_by}
use Rattle.ha_journal.specs.declared.carry.Carry.{Carry}
use Rattle.ha_journal.specs.declared.entry.Entry.{Entry}
use Rattle.ha_journal.specs.declared.entry.Entry.TheVariants.{Boot, Line, Step, Again}
use Rattle.ha_config.specs.Words.{Text, Pairs, same_entity}

-- ---- the kinds of entries

pub record Opening : Type 0 where
  pub text : Text
  pub config : Config
  pub stored : Option (List (Text × Bool))
  pub start : ℕ
  pub zone : Text
  pub carry : Carry

-- what opens a segment behind a Restart
pub record Reopening : Type 0 where
  pub number : ℕ
  pub start : ℕ
  pub stored : List (Text × Bool)
  pub carry : Carry

pub record Spoken : Type 0 where
  pub source : ℕ
  pub number : ℕ
  pub cmd : Cmd

pub record Stepped : Type 0 where
  pub worker : ℕ
  pub serial : ℕ
  pub branch : List ℕ
  pub item : Item

-- what the first segment takes over: nothing but when automations last triggered
abbrev pub first_carry : List (Text × ℕ) → Carry
first_carry last = record { serials = 0; numbers = []; lines = replicate 16 0; shut = []; last = last }

abbrev pub boot_of : Entry → Option Opening
boot_of (Boot text config stored start zone carry) =
    Some (record { text = text; config = config; stored = stored; start = start; zone = zone; carry = carry })
boot_of (Again number start stored carry) = None
boot_of (Line source number cmd) = None
boot_of (Step worker serial branch item) = None

abbrev pub again_in : Entry → Option Reopening
again_in (Boot text config stored start zone carry) = None
again_in (Line source number cmd) = None
again_in (Step worker serial branch item) = None
again_in (Again number start stored carry) = Some (record { number = number; start = start; stored = stored; carry = carry })

abbrev pub is_again : Entry → Bool
is_again x = is_some (again_in x)

abbrev pub line_of : Entry → Option Spoken
line_of (Boot text config stored start zone carry) = None
line_of (Again number start stored carry) = None
line_of (Line source number cmd) = Some (record { source = source; number = number; cmd = cmd })
line_of (Step worker serial branch item) = None

abbrev pub step_of : Entry → Option Stepped
step_of (Boot text config stored start zone carry) = None
step_of (Again number start stored carry) = None
step_of (Line source number cmd) = None
step_of (Step worker serial branch item) = Some (record { worker = worker; serial = serial; branch = branch; item = item })

abbrev pub IsBoot : Entry → Type 0
IsBoot (Boot text config stored start zone carry) = Unit {0}
IsBoot (Again number start stored carry) = ⊥
IsBoot (Line source number cmd) = ⊥
IsBoot (Step worker serial branch item) = ⊥

-- a Boot or an Again: a segment begins with it
abbrev pub BeginsSegment : Entry → Type 0
BeginsSegment (Boot text config stored start zone carry) = Unit {0}
BeginsSegment (Again number start stored carry) = Unit {0}
BeginsSegment (Line source number cmd) = ⊥
BeginsSegment (Step worker serial branch item) = ⊥

-- ---- reports, events, moments

pub record Reported : Type 0 where
  pub entity : EntityId
  pub text : Text
  pub attributes : Pairs

abbrev pub report_in : Entry → Option Reported
report_in (Line source number (Cmd.Report entity text attributes)) = Some (record { entity = entity; text = text; attributes = attributes })
report_in (Line source number (Cmd.Gone entity)) = None
report_in (Line source number (Cmd.Event kind pairs)) = None
report_in (Line source number (Cmd.Moment at)) = None
report_in (Line source number (Cmd.Switch name on stop)) = None
report_in (Line source number (Cmd.Trigger name skip)) = None
report_in (Line source number Cmd.Restart) = None
report_in (Line source number (Cmd.Reload text config)) = None
report_in (Line source number (Cmd.Refused code)) = None
report_in (Line source number Cmd.Lost) = None
report_in (Line source number Cmd.TooLong) = None
report_in (Boot text config stored start zone carry) = None
report_in (Again number start stored carry) = None
report_in (Step worker serial branch item) = None

abbrev pub gone_in : Entry → Option EntityId
gone_in (Line source number (Cmd.Gone entity)) = Some entity
gone_in (Line source number (Cmd.Report entity text attributes)) = None
gone_in (Line source number (Cmd.Event kind pairs)) = None
gone_in (Line source number (Cmd.Moment at)) = None
gone_in (Line source number (Cmd.Switch name on stop)) = None
gone_in (Line source number (Cmd.Trigger name skip)) = None
gone_in (Line source number Cmd.Restart) = None
gone_in (Line source number (Cmd.Reload text config)) = None
gone_in (Line source number (Cmd.Refused code)) = None
gone_in (Line source number Cmd.Lost) = None
gone_in (Line source number Cmd.TooLong) = None
gone_in (Boot text config stored start zone carry) = None
gone_in (Again number start stored carry) = None
gone_in (Step worker serial branch item) = None

-- the moment that a line brings
abbrev pub moment_in : Entry → Option ℕ
moment_in (Line source number (Cmd.Moment at)) = Some at
moment_in (Line source number (Cmd.Report entity text attributes)) = None
moment_in (Line source number (Cmd.Gone entity)) = None
moment_in (Line source number (Cmd.Event kind pairs)) = None
moment_in (Line source number (Cmd.Switch name on stop)) = None
moment_in (Line source number (Cmd.Trigger name skip)) = None
moment_in (Line source number Cmd.Restart) = None
moment_in (Line source number (Cmd.Reload text config)) = None
moment_in (Line source number (Cmd.Refused code)) = None
moment_in (Line source number Cmd.Lost) = None
moment_in (Line source number Cmd.TooLong) = None
moment_in (Boot text config stored start zone carry) = None
moment_in (Again number start stored carry) = None
moment_in (Step worker serial branch item) = None

abbrev pub is_moment : Entry → Bool
is_moment x = is_some (moment_in x)

-- the event that an entry is: its type and its data
abbrev pub event_in : Entry → Option (Text × Pairs)
event_in (Line source number (Cmd.Event kind pairs)) = Some (kind, pairs)
event_in (Step worker serial branch (Item.Fired kind pairs)) = Some (kind, pairs)
event_in (Line source number (Cmd.Report entity text attributes)) = None
event_in (Line source number (Cmd.Gone entity)) = None
event_in (Line source number (Cmd.Moment at)) = None
event_in (Line source number (Cmd.Switch name on stop)) = None
event_in (Line source number (Cmd.Trigger name skip)) = None
event_in (Line source number Cmd.Restart) = None
event_in (Line source number (Cmd.Reload text config)) = None
event_in (Line source number (Cmd.Refused code)) = None
event_in (Line source number Cmd.Lost) = None
event_in (Line source number Cmd.TooLong) = None
event_in (Step worker serial branch Item.Nothing) = None
event_in (Step worker serial branch (Item.Call service target fields)) = None
event_in (Step worker serial branch (Item.Switched targets)) = None
event_in (Step worker serial branch (Item.Triggered automations skip)) = None
event_in (Step worker serial branch (Item.Failed code)) = None
event_in (Step worker serial branch (Item.Started scripts fields waits)) = None
event_in (Step worker serial branch (Item.Halted scripts)) = None
event_in (Step worker serial branch (Item.Helped changes)) = None
event_in (Boot text config stored start zone carry) = None
event_in (Again number start stored carry) = None

-- ---- boots, restarts and switches

abbrev pub is_boot : Entry → Bool
is_boot x = is_some (boot_of x)

abbrev pub is_restart : Entry → Bool
is_restart (Line source number Cmd.Restart) = true
is_restart (Line source number (Cmd.Reload text config)) = false
is_restart (Line source number (Cmd.Report entity text attributes)) = false
is_restart (Line source number (Cmd.Gone entity)) = false
is_restart (Line source number (Cmd.Event kind pairs)) = false
is_restart (Line source number (Cmd.Moment at)) = false
is_restart (Line source number (Cmd.Switch name on stop)) = false
is_restart (Line source number (Cmd.Trigger name skip)) = false
is_restart (Line source number (Cmd.Refused code)) = false
is_restart (Line source number Cmd.Lost) = false
is_restart (Line source number Cmd.TooLong) = false
is_restart (Boot text config stored start zone carry) = false
is_restart (Again number start stored carry) = false
is_restart (Step worker serial branch item) = false

abbrev pub restarts : Cmd → Bool
restarts Cmd.Restart = true
restarts (Cmd.Reload text config) = false
restarts (Cmd.Report entity text attributes) = false
restarts (Cmd.Gone entity) = false
restarts (Cmd.Event kind pairs) = false
restarts (Cmd.Moment at) = false
restarts (Cmd.Switch name on stop) = false
restarts (Cmd.Trigger name skip) = false
restarts (Cmd.Refused code) = false
restarts Cmd.Lost = false
restarts Cmd.TooLong = false

-- the configuration that a Reload brings into force
abbrev pub reloads_to : Cmd → Option Config
reloads_to (Cmd.Reload text config) = config
reloads_to (Cmd.Report entity text attributes) = None
reloads_to (Cmd.Gone entity) = None
reloads_to (Cmd.Event kind pairs) = None
reloads_to (Cmd.Moment at) = None
reloads_to (Cmd.Switch name on stop) = None
reloads_to (Cmd.Trigger name skip) = None
reloads_to Cmd.Restart = None
reloads_to (Cmd.Refused code) = None
reloads_to Cmd.Lost = None
reloads_to Cmd.TooLong = None

abbrev pub reload_in : Entry → Option Config
reload_in x = option_and_then (λ l. reloads_to l.cmd) (line_of x)

abbrev pub is_reload : Entry → Bool
is_reload x = is_some (reload_in x)

-- a Boot or a Restart
abbrev pub opens_segment : Entry → Bool
opens_segment x = is_boot x || is_restart x

-- what an entry does to switches: a Boot and a Restart set all, a Reload those that come into force, a Switch command that of a name, a
-- Switched item those of its targets
pub data Turning : Type 0 where
  Opens : Option (List (Text × Bool)) → Turning
  Restarts : Turning
  Reloads : Turning
  Turns : Text → Bool → Bool → Turning
  TurnsEach : List (ℕ × Bool × Bool) → Turning
  Leaves : Turning

abbrev pub turning : Entry → Turning
turning (Boot text config stored start zone carry) = Turning.Opens stored
turning (Again number start stored carry) = Turning.Leaves
turning (Line source number Cmd.Restart) = Turning.Restarts
turning (Line source number (Cmd.Reload text config)) = Turning.Reloads
turning (Line source number (Cmd.Switch name on stop)) = Turning.Turns name on stop
turning (Step worker serial branch (Item.Switched targets)) = Turning.TurnsEach targets
turning (Line source number (Cmd.Report entity text attributes)) = Turning.Leaves
turning (Line source number (Cmd.Gone entity)) = Turning.Leaves
turning (Line source number (Cmd.Event kind pairs)) = Turning.Leaves
turning (Line source number (Cmd.Moment at)) = Turning.Leaves
turning (Line source number (Cmd.Trigger name skip)) = Turning.Leaves
turning (Line source number (Cmd.Refused code)) = Turning.Leaves
turning (Line source number Cmd.Lost) = Turning.Leaves
turning (Line source number Cmd.TooLong) = Turning.Leaves
turning (Step worker serial branch Item.Nothing) = Turning.Leaves
turning (Step worker serial branch (Item.Call service target fields)) = Turning.Leaves
turning (Step worker serial branch (Item.Fired kind pairs)) = Turning.Leaves
turning (Step worker serial branch (Item.Triggered automations skip)) = Turning.Leaves
turning (Step worker serial branch (Item.Failed code)) = Turning.Leaves
turning (Step worker serial branch (Item.Started scripts fields waits)) = Turning.Leaves
turning (Step worker serial branch (Item.Halted scripts)) = Turning.Leaves
turning (Step worker serial branch (Item.Helped changes)) = Turning.Leaves

-- ---- attempts that an entry names itself, with whether their conditions are skipped

pub data Asked : Type 0 where
  ByName : Text → Bool → Asked
  ByNumber : List ℕ → Bool → Asked
  -- of scripts, with variables
  OfScripts : List ℕ → Pairs → Asked
  Nobody : Asked

abbrev pub asked_in : Entry → Asked
asked_in (Line source number (Cmd.Trigger name skip)) = Asked.ByName name skip
asked_in (Step worker serial branch (Item.Triggered automations skip)) = Asked.ByNumber automations skip
asked_in (Line source number (Cmd.Report entity text attributes)) = Asked.Nobody
asked_in (Line source number (Cmd.Gone entity)) = Asked.Nobody
asked_in (Line source number (Cmd.Event kind pairs)) = Asked.Nobody
asked_in (Line source number (Cmd.Moment at)) = Asked.Nobody
asked_in (Line source number (Cmd.Switch name on stop)) = Asked.Nobody
asked_in (Line source number Cmd.Restart) = Asked.Nobody
asked_in (Line source number (Cmd.Reload text config)) = Asked.Nobody
asked_in (Line source number (Cmd.Refused code)) = Asked.Nobody
asked_in (Line source number Cmd.Lost) = Asked.Nobody
asked_in (Line source number Cmd.TooLong) = Asked.Nobody
asked_in (Step worker serial branch Item.Nothing) = Asked.Nobody
asked_in (Step worker serial branch (Item.Call service target fields)) = Asked.Nobody
asked_in (Step worker serial branch (Item.Fired kind pairs)) = Asked.Nobody
asked_in (Step worker serial branch (Item.Switched targets)) = Asked.Nobody
asked_in (Step worker serial branch (Item.Failed code)) = Asked.Nobody
asked_in (Step worker serial branch (Item.Started scripts fields waits)) = Asked.OfScripts scripts fields
asked_in (Step worker serial branch (Item.Halted scripts)) = Asked.Nobody
asked_in (Step worker serial branch (Item.Helped changes)) = Asked.Nobody
asked_in (Boot text config stored start zone carry) = Asked.Nobody
asked_in (Again number start stored carry) = Asked.Nobody

-- ---- the scripts whose runs an entry ends

abbrev pub halted_in : Entry → List ℕ
halted_in (Step worker serial branch item) = halted_by item
halted_in (Line source number cmd) = []
halted_in (Boot text config stored start zone carry) = []
halted_in (Again number start stored carry) = []

-- ---- the helpers that an entry changes

abbrev pub changes_in : Entry → List HelperChange
changes_in (Step worker serial branch item) = changes_by item
changes_in (Line source number cmd) = []
changes_in (Boot text config stored start zone carry) = []
changes_in (Again number start stored carry) = []

-- the change of e; an entry changes a helper once
abbrev pub change_of : EntityId → Entry → Option HelperChange
change_of e x = find (λ c. same_entity c.entity e) (changes_in x)

-- ---- the texts that an entry gives entities: a Report's, with its attributes, or those of the helpers that it changes

abbrev pub text_given : HelperChange → Reported
text_given c = record { entity = c.entity; text = c.text; attributes = [] }

abbrev pub texts_in : Entry → List Reported
texts_in x = option_to_list (report_in x) ++ map text_given (changes_in x)
