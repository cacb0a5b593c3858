-- The command that a printed map is: its pairs stand in the order of the table, and none is left out.
use Rattle.std.specs.Prelude.{◌≡◌, ℕ, Bool, true, false, nat_le, [], ◌∷◌, drop, codes, Option, Some, None, Result, Ok, Err, if◌then◌else◌}
use Rattle.ha_value.specs.declared.value.EntityId.{EntityId}
use Rattle.ha_value.specs.declared.value.Value.{Value}
use Rattle.ha_value.specs.declared.value.Value.TheOpen.{Value-F}
use Rattle.ha_value.specs.declared.value.Value.TheViews.{out-Value}
use Rattle.ha_value.specs.Ids.{read_entity}
use Rattle.ha_clock.specs.MomentText.{moment_of}
use Rattle.ha_clock.specs.Print.{moment_text}
use Rattle.ha_config.specs.declared.command.Cmd.{Cmd}
use Rattle.ha_config.specs.declared.command.Cmd.TheVariants as cmd
use Rattle.ha_config.specs.ValueText.{print_pairs}
use Rattle.ha_config.specs.Words.{Text, Pairs, same, characters}
use Rattle.reading.specs.declared.fault.Bad.{Bad}
use Rattle.reading.specs.declared.fault.Stop.{Stop}
use Rattle.reading.specs.declared.fault.Stop.TheVariants as stops
use Rattle.reading.specs.Answer.{Answer}
use Rattle.flow_line.specs.declared.fault.Code.{Code}
use Rattle.flow_line.specs.Reading.{document}
use Rattle.flow_printed.specs.declared.kind.Kind.{Kind}
use Rattle.flow_printed.specs.declared.kind.Kind.TheVariants.{Report, Gone, Event, Moment, Switch, Trigger, Restart, Reload, Refused, Lost, TooLong}
use Rattle.flow_printed.specs.declared.fields.NoCommand.{NoCommand}

infixl 10 ◌>>=◌
abbrev pub ◌>>=◌ : {X Y : Type 0} → Option X → (X → Option Y) → Option Y
None >>= f = None
(Some x) >>= f = f x

-- what was returned is what the map gives, unless memory ran out
abbrev pub Says : {X : Type 0} → Option X → Result X (Stop NoCommand) → Type 0
Says given (Ok x) = given ≡ Some x
Says given (Err stops.Memory) = Unit {0}
Says given (Err (stops.Fault none)) = given ≡ None

-- ---- the first pair

-- the value of the first pair, where that has the key
abbrev pub front_value : Text → Pairs → Option Value
front_value key [] = None
front_value key (p ∷ ps) = if same p.0 key then Some p.1 else None

abbrev pub text_in : Value-F Value → Option Text
text_in (Value-F.Text text) = Some text
text_in _ = None

abbrev pub flag_in : Value-F Value → Option Bool
flag_in (Value-F.Flag flag) = Some flag
flag_in _ = None

abbrev pub map_in : Value-F Value → Option Pairs
map_in (Value-F.Pairs pairs) = Some pairs
map_in _ = None

abbrev pub text_at : Text → Pairs → Option Text
text_at key ps = front_value key ps >>= λ v. text_in (out-Value v)

abbrev pub flag_at : Text → Pairs → Option Bool
flag_at key ps = front_value key ps >>= λ v. flag_in (out-Value v)

abbrev pub map_at : Text → Pairs → Option Pairs
map_at key ps = front_value key ps >>= λ v. map_in (out-Value v)

-- no pair is left
abbrev pub ended : Pairs → Option (Unit {0})
ended [] = Some tt
ended (p ∷ ps) = None

-- ---- ids, states, moments and codes

abbrev pub is_automation : EntityId → Bool
is_automation entity = same entity.domain (codes "automation")

-- an entity that may be reported: no automation
abbrev pub reportable : Option EntityId → Option EntityId
reportable None = None
reportable (Some entity) = if is_automation entity then None else Some entity

-- an automation, by its name
abbrev pub automation : Option EntityId → Option Text
automation None = None
automation (Some entity) = if is_automation entity then Some entity.object else None

abbrev pub short_state : Text → Option Text
short_state text = if nat_le (characters text) 255 then Some text else None

abbrev pub turned : Text → Option Bool
turned text = if same text (codes "on") then Some true else (if same text (codes "off") then Some false else None)

-- the moment that a text is the print of
abbrev pub printed_moment : Text → Option ℕ
printed_moment text = moment_of text >>= λ at. if same (moment_text at) text then Some at else None

-- the code of a refused line
abbrev pub code_in : Text → Option ℕ
code_in t =
    if same t (codes "L1") then Some 1
    else (if same t (codes "L2") then Some 2 else (if same t (codes "L3") then Some 3 else (if same t (codes "L4") then Some 4 else
    (if same t (codes "L5") then Some 5
    else (if same t (codes "L6") then Some 6 else (if same t (codes "L7") then Some 7 else (if same t (codes "L8") then Some 8 else
    (if same t (codes "L9") then Some 9 else (if same t (codes "L10") then Some 10 else (if same t (codes "L12") then Some 12 else
    (if same t (codes "L13") then Some 13 else (if same t (codes "L14") then Some 14 else None))))))))))))

-- ---- commands

unfoldable pub report_of : Pairs → Option Cmd
report_of ps = do
  id ← text_at (codes "report") ps
  text ← text_at (codes "state") (drop 1 ps)
  attributes ← map_at (codes "attributes") (drop 1 (drop 1 ps))
  end ← ended (drop 1 (drop 1 (drop 1 ps)))
  entity ← reportable (read_entity id)
  state ← short_state text
  Some (cmd.Report entity state attributes)

unfoldable pub gone_of : Pairs → Option Cmd
gone_of ps = do
  id ← text_at (codes "gone") ps
  end ← ended (drop 1 ps)
  entity ← reportable (read_entity id)
  Some (cmd.Gone entity)

unfoldable pub event_of : Pairs → Option Cmd
event_of ps = do
  kind ← text_at (codes "event") ps
  fields ← map_at (codes "data") (drop 1 ps)
  end ← ended (drop 1 (drop 1 ps))
  Some (cmd.Event kind fields)

unfoldable pub moment_of_map : Pairs → Option Cmd
moment_of_map ps = do
  text ← text_at (codes "moment") ps
  end ← ended (drop 1 ps)
  at ← printed_moment text
  Some (cmd.Moment at)

unfoldable pub switch_of : Pairs → Option Cmd
switch_of ps = do
  id ← text_at (codes "switch") ps
  to ← text_at (codes "to") (drop 1 ps)
  stop ← flag_at (codes "stop_actions") (drop 1 (drop 1 ps))
  end ← ended (drop 1 (drop 1 (drop 1 ps)))
  on ← turned to
  name ← automation (read_entity id)
  Some (cmd.Switch name on stop)

unfoldable pub trigger_of : Pairs → Option Cmd
trigger_of ps = do
  id ← text_at (codes "trigger") ps
  skip ← flag_at (codes "skip_condition") (drop 1 ps)
  end ← ended (drop 1 (drop 1 ps))
  name ← automation (read_entity id)
  Some (cmd.Trigger name skip)

-- without its configuration
unfoldable pub reload_of : Pairs → Option Cmd
reload_of ps = do
  text ← text_at (codes "reload") ps
  end ← ended (drop 1 ps)
  Some (cmd.Reload text None)

unfoldable pub refused_of : Pairs → Option Cmd
refused_of ps = do
  text ← text_at (codes "refused") ps
  end ← ended (drop 1 ps)
  code ← code_in text
  Some (cmd.Refused code)

-- the key alone, and true
unfoldable pub alone : Text → Pairs → Option (Unit {0})
alone key ps = do
  flag ← flag_at key ps
  end ← ended (drop 1 ps)
  if flag then Some tt else None

abbrev pub kind_of : Text → Option Kind
kind_of key =
    if same key (codes "report")
    then Some Report else (if same key (codes "gone") then Some Gone else (if same key (codes "event") then Some Event else
    (if same key (codes "moment")
    then Some Moment else (if same key (codes "switch") then Some Switch else (if same key (codes "trigger") then Some Trigger else
    (if same key (codes "restart")
    then Some Restart else (if same key (codes "reload") then Some Reload else (if same key (codes "refused") then Some Refused else (if same key (codes "lost") then Some Lost else
    (if same key (codes "too_long") then Some TooLong else None))))))))))

-- the kind that the first key names
abbrev pub first_kind : Pairs → Option Kind
first_kind [] = None
first_kind (p ∷ ps) = kind_of p.0

abbrev pub cmd_by : Kind → Pairs → Option Cmd
cmd_by Report = report_of
cmd_by Gone = gone_of
cmd_by Event = event_of
cmd_by Moment = moment_of_map
cmd_by Switch = switch_of
cmd_by Trigger = trigger_of
cmd_by Restart = λ ps. alone (codes "restart") ps >>= λ it. Some cmd.Restart
cmd_by Reload = reload_of
cmd_by Refused = refused_of
cmd_by Lost = λ ps. alone (codes "lost") ps >>= λ it. Some cmd.Lost
cmd_by TooLong = λ ps. alone (codes "too_long") ps >>= λ it. Some cmd.TooLong

unfoldable pub cmd_of_map : Pairs → Option Cmd
cmd_of_map ps = first_kind ps >>= λ kind. cmd_by kind ps

-- ---- texts

abbrev pub map_read : Answer ℕ (Bad Code) Value → Option Pairs
map_read (Err fault) = None
map_read (Ok read) = map_in (out-Value read.0)

-- the map, where the text is its print
abbrev pub where_printed : Text → Pairs → Option Pairs
where_printed text ps = if same (print_pairs ps) text then Some ps else None

unfoldable pub printed_map : Text → Option Pairs
printed_map text = map_read (document text) >>= where_printed text

unfoldable pub printed_cmd : Text → Option Cmd
printed_cmd text = printed_map text >>= cmd_of_map
