-- The command of a line. A line is refused with the first code that applies, in the order of the binds below.
use Rattle.std.specs.Prelude.{◌≡◌, ℕ, Bool, true, false, ◌&&◌, ◌||◌, ◌≤◌, nat_le, nat_lt, List, [], ◌∷◌}
use Rattle.std.specs.Prelude.{length, filter, codes, Option, Some, None, Result, Ok, Err, if◌then◌else◌}
use Rattle.std.specs.List.{list_all}
use Rattle.std.specs.Option.{option_map_or}
use Rattle.std.specs.Str.{is_utf8}
use Rattle.ha_value.specs.declared.value.EntityId.{EntityId}
use Rattle.ha_value.specs.declared.value.Value.{Value}
use Rattle.ha_value.specs.declared.value.Value.TheOpen.{Value-F}
use Rattle.ha_value.specs.declared.value.Value.TheViews.{out-Value}
use Rattle.ha_value.specs.Ids.{read_entity}
use Rattle.ha_clock.specs.MomentText.{moment_of}
use Rattle.ha_config.specs.declared.command.Cmd.{Cmd}
use Rattle.ha_config.specs.declared.config.Config.{Config}
use Rattle.ha_config.specs.declared.command.Cmd.TheVariants as cmd
use Rattle.ha_clock.specs.Local.{last_moment}
use Rattle.ha_config.specs.ValueText.{pairs_depth}
use Rattle.ha_config.specs.ValueFacts.{are_sound_pairs, have_utf8_texts}
use Rattle.ha_config.specs.Fair.{IsFairAmong, prepared, put_among}
use Rattle.ha_config.specs.Words.{Text, Pairs, same, first_pair, has_name, characters}
use Rattle.reading.specs.declared.fault.Bad.{Bad}
use Rattle.reading.specs.declared.fault.Stop.{Stop}
use Rattle.reading.specs.declared.fault.Stop.TheVariants as stops
use Rattle.reading.specs.Answer.{Answer}
use Rattle.flow_line.specs.declared.fault.Code.{Code}
use Rattle.flow_line.specs.declared.keys.Command.{Command}
use Rattle.flow_line.specs.declared.keys.Command.TheVariants.{Report, Gone, Event, Moment, Switch, Trigger, Restart, Reload}
use Rattle.flow_line.specs.declared.refusal.Refusal.{Refusal}
use Rattle.flow_line.specs.declared.refusal.Refusal.TheVariants.{NotUtf8, NoMap, CommandKey, Keys, Kind, Id, LongState, NoMoment, LongLine}
use Rattle.flow_line.specs.Reading.{document}

-- ---- refusals

abbrev pub code_of : Refusal → ℕ
code_of NotUtf8 = 1
code_of NoMap = 2
code_of CommandKey = 3
code_of Keys = 4
code_of Kind = 5
code_of Id = 6
code_of LongState = 7
code_of NoMoment = 8
code_of LongLine = 10

-- a value, or why there is none
abbrev pub Checked : Type 0 → Type 0
Checked X = Result X Refusal

infixl 10 ◌>>=◌
abbrev pub ◌>>=◌ : {X Y : Type 0} → Checked X → (X → Checked Y) → Checked Y
(Ok x) >>= f = f x
(Err refusal) >>= f = Err refusal

-- what was returned is what was checked, unless memory ran out
abbrev pub Says : {X : Type 0} → Checked X → Result X (Stop Refusal) → Type 0
Says checked (Ok x) = checked ≡ Ok x
Says checked (Err stops.Memory) = Unit {0}
Says checked (Err (stops.Fault refusal)) = checked ≡ Err refusal

-- ---- the table of keys

-- the key that names a command
abbrev pub key_of : Command → Text
key_of Report = codes "report"
key_of Gone = codes "gone"
key_of Event = codes "event"
key_of Moment = codes "moment"
key_of Switch = codes "switch"
key_of Trigger = codes "trigger"
key_of Restart = codes "restart"
key_of Reload = codes "reload"

-- the key that stands beside it
abbrev pub needed : Command → Option Text
needed Report = Some (codes "state")
needed Gone = None
needed Event = None
needed Moment = None
needed Switch = Some (codes "to")
needed Trigger = None
needed Restart = None
needed Reload = None

-- the key that may stand beside it
abbrev pub further : Command → Option Text
further Report = Some (codes "attributes")
further Gone = None
further Event = Some (codes "data")
further Moment = None
further Switch = Some (codes "stop_actions")
further Trigger = Some (codes "skip_condition")
further Restart = None
further Reload = None

abbrev pub all_commands : List Command
all_commands = Report ∷ Gone ∷ Event ∷ Moment ∷ Switch ∷ Trigger ∷ Restart ∷ Reload ∷ []

-- the commands whose keys stand in a map, and the command of a map that has the key of one alone
abbrev pub named : Pairs → List Command
named pairs = filter (λ command. has_name (key_of command) pairs) all_commands

abbrev pub only : List Command → Checked Command
only (command ∷ []) = Ok command
only _ = Err CommandKey

abbrev pub is_key : Text → Option Text → Bool
is_key key wanted = option_map_or (λ k. same k key) wanted false

-- a key that the command takes
abbrev pub takes : Command → Text → Bool
takes command key = same (key_of command) key || (is_key key (needed command) || is_key key (further command))

-- the needed key stands in the map, and no key that the command does not take
abbrev pub has_needed : Command → Pairs → Bool
has_needed command pairs = option_map_or (λ k. has_name k pairs) (needed command) true

abbrev pub has_keys : Command → Pairs → Bool
has_keys command pairs = has_needed command pairs && list_all (λ p. takes command p.0) pairs

-- ---- the values of keys

abbrev pub text_in : Value-F Value → Checked Text
text_in (Value-F.Text text) = Ok text
text_in _ = Err Kind

abbrev pub flag_in : Value-F Value → Checked Bool
flag_in (Value-F.Flag flag) = Ok flag
flag_in _ = Err Kind

abbrev pub map_in : Value-F Value → Checked Pairs
map_in (Value-F.Pairs pairs) = Ok pairs
map_in _ = Err Kind

abbrev pub text_of : Option Value → Checked Text
text_of None = Err Kind
text_of (Some v) = text_in (out-Value v)

-- a flag, which may be missing: then it is true
abbrev pub flag_of : Option Value → Checked Bool
flag_of None = Ok true
flag_of (Some v) = flag_in (out-Value v)

-- a map, which may be missing: then it is empty
abbrev pub map_of : Option Value → Checked Pairs
map_of None = Ok []
map_of (Some v) = map_in (out-Value v)

-- the text `on` or `off`
abbrev pub turned : Text → Checked Bool
turned text = if same text (codes "on") then Ok true else (if same text (codes "off") then Ok false else Err Kind)

-- the flag true alone
abbrev pub as_true : Bool → Checked Cmd
as_true true = Ok cmd.Restart
as_true false = Err Kind

abbrev pub restarts : Option Value → Checked Cmd
restarts None = Err Kind
restarts (Some v) = flag_in (out-Value v) >>= as_true

-- ---- ids, states and moments

abbrev pub is_automation : EntityId → Bool
is_automation entity = same entity.domain (codes "automation")

-- an entity that a line may report: no automation
abbrev pub reportable : Option EntityId → Checked EntityId
reportable None = Err Id
reportable (Some entity) = if is_automation entity then Err Id else Ok entity

-- an automation, by its name
abbrev pub automation : Option EntityId → Checked Text
automation None = Err Id
automation (Some entity) = if is_automation entity then Ok entity.object else Err Id

-- a state has at most 255 characters
abbrev pub state_of : Text → Checked Text
state_of state = if nat_le (characters state) 255 then Ok state else Err LongState

abbrev pub at_moment : Option ℕ → Checked Cmd
at_moment None = Err NoMoment
at_moment (Some at) = Ok (cmd.Moment at)

-- ---- commands

abbrev pub value_of : Command → Pairs → Option Value
value_of command pairs = first_pair (key_of command) pairs

unfoldable pub report_of : Pairs → Checked Cmd
report_of pairs = do
  id ← text_of (value_of Report pairs)
  text ← text_of (first_pair (codes "state") pairs)
  attributes ← map_of (first_pair (codes "attributes") pairs)
  entity ← reportable (read_entity id)
  state ← state_of text
  Ok (cmd.Report entity state attributes)

unfoldable pub gone_of : Pairs → Checked Cmd
gone_of pairs = do
  id ← text_of (value_of Gone pairs)
  entity ← reportable (read_entity id)
  Ok (cmd.Gone entity)

unfoldable pub event_of : Pairs → Checked Cmd
event_of pairs = do
  kind ← text_of (value_of Event pairs)
  fields ← map_of (first_pair (codes "data") pairs)
  Ok (cmd.Event kind fields)

unfoldable pub moment_of_pairs : Pairs → Checked Cmd
moment_of_pairs pairs = do
  text ← text_of (value_of Moment pairs)
  at_moment (moment_of text)

unfoldable pub switch_of : Pairs → Checked Cmd
switch_of pairs = do
  id ← text_of (value_of Switch pairs)
  to ← text_of (first_pair (codes "to") pairs)
  on ← turned to
  stop ← flag_of (first_pair (codes "stop_actions") pairs)
  name ← automation (read_entity id)
  Ok (cmd.Switch name on stop)

unfoldable pub trigger_of : Pairs → Checked Cmd
trigger_of pairs = do
  id ← text_of (value_of Trigger pairs)
  skip ← flag_of (first_pair (codes "skip_condition") pairs)
  name ← automation (read_entity id)
  Ok (cmd.Trigger name skip)

unfoldable pub restart_of : Pairs → Checked Cmd
restart_of pairs = restarts (value_of Restart pairs)

-- without its configuration
unfoldable pub reload_of : Pairs → Checked Cmd
reload_of pairs = do
  text ← text_of (value_of Reload pairs)
  Ok (cmd.Reload text None)

abbrev pub cmd_by : Command → Pairs → Checked Cmd
cmd_by Report = report_of
cmd_by Gone = gone_of
cmd_by Event = event_of
cmd_by Moment = moment_of_pairs
cmd_by Switch = switch_of
cmd_by Trigger = trigger_of
cmd_by Restart = restart_of
cmd_by Reload = reload_of

-- ---- lines

-- the map that a line is
abbrev pub as_map : Value-F Value → Checked Pairs
as_map (Value-F.Pairs pairs) = Ok pairs
as_map _ = Err NoMap

abbrev pub map_read : Answer ℕ (Bad Code) Value → Checked Pairs
map_read (Err fault) = Err NoMap
map_read (Ok read) = as_map (out-Value read.0)

-- a line may have 65,536 bytes
abbrev pub short_line : Text → Checked Text
short_line line = if nat_lt 65536 (length line) then Err LongLine else Ok line

abbrev pub utf8_line : Text → Checked Text
utf8_line line = if is_utf8 line then Ok line else Err NotUtf8

abbrev pub with_keys : Command → Pairs → Checked Pairs
with_keys command pairs = if has_keys command pairs then Ok pairs else Err Keys

unfoldable pub pairs_of : Text → Checked Pairs
pairs_of line = do
  short ← short_line line
  text ← utf8_line short
  map_read (document text)

unfoldable pub cmd_of_pairs : Pairs → Checked Cmd
cmd_of_pairs pairs = do
  command ← only (named pairs)
  own ← with_keys command pairs
  cmd_by command own

abbrev pub as_cmd : Checked Cmd → Cmd
as_cmd (Ok made) = made
as_cmd (Err refusal) = cmd.Refused (code_of refusal)

abbrev pub command_of : Text → Checked Cmd
command_of line = pairs_of line >>= cmd_of_pairs

-- the command of a line, or its refusal
unfoldable pub cmd_of : Text → Cmd
cmd_of line = as_cmd (command_of line)

-- ---- what a command is known to be

-- a line's map: its numbers are in range, its keys are distinct at each level, its texts are UTF-8, and it is nested at most 32 deep
pub record IsLineMap (pairs : Pairs) : Type 0 where
  pub sound : are_sound_pairs pairs ≡ true
  pub deep : pairs_depth pairs ≤ 32
  pub utf8 : have_utf8_texts pairs ≡ true

-- a moment is not past the last one
abbrev pub IsInTime : Cmd → Type 0
IsInTime (cmd.Moment at) = at ≤ last_moment
IsInTime _ = Unit {0}

-- whatever stands in the journal, and whatever a Reload's text is read as, what is put for the command is fair
abbrev pub IsFairOncePut : Cmd → Type 0
IsFairOncePut c = (read : Text → Option Config) (has : Text → Bool) (helps : EntityId → Bool) (more : Bool) → IsFairAmong has helps more (put_among has helps more (prepared read c))
