-- Worked journals: a door that opens twice, under each mode.
use Rattle.std.specs.Prelude.{ℕ, [], ◌∷◌, true, false}
use Rattle.std.specs.Prelude.{Option, Some, None, codes}
use Rattle.ha_value.specs.declared.value.EntityId.{EntityId}
use Rattle.ha_config.specs.declared.template.Template.{Template}
use Rattle.ha_config.specs.declared.template.Piece.TheOpen.{Piece-F}
use Rattle.ha_config.specs.declared.template.Piece.TheViews.{roll-Piece, roll-Template}
use Rattle.ha_config.specs.declared.config.Automation.{Automation}
use Rattle.ha_config.specs.declared.config.Trigger.{Trigger}
use Rattle.ha_config.specs.declared.config.TriggerRule.{TriggerRule}
use Rattle.ha_config.specs.declared.config.Match.{Match}
use Rattle.ha_config.specs.declared.config.Mode.{Mode}
use Rattle.ha_config.specs.declared.config.Action.{Action}
use Rattle.ha_config.specs.declared.config.ActionKind.TheOpen.{ActionKind-F}
use Rattle.ha_config.specs.declared.config.ActionKind.TheViews.{roll-ActionKind, roll-Action}
use Rattle.ha_config.specs.declared.command.Cmd.{Cmd}
use Rattle.ha_model.specs.declared.record.EndCause.{EndCause}
use Rattle.ha_model.specs.declared.record.Record.{Record}
use Rattle.ha_sight.specs.declared.item.Item.{Item}
use Rattle.ha_journal.specs.declared.entry.Entry.{Entry}
use Rattle.ha_config.specs.Words.{Text, Pairs}
use Rattle.ha_journal.specs.Entries.{first_carry}
use Rattle.ha_journal.specs.Journal.{Journal}
use Rattle.ha_journal.specs.Variables.{variables}

abbrev pub text_template : Text → Template
text_template t = roll-Template (record { pieces = roll-Piece (Piece-F.Text t) ∷ [] })

abbrev pub call : Text → Text → Action
call service target =
    roll-Action (record { kind = roll-ActionKind (ActionKind-F.Call (text_template service) (text_template target ∷ []) []) })

abbrev pub door_sensor : EntityId
door_sensor = record { domain = codes "binary_sensor"; object = codes "door" }

abbrev pub porch : EntityId
porch = record { domain = codes "light"; object = codes "porch" }

abbrev pub door_trigger : Trigger
door_trigger =
    record {
      id = codes "0";
      idx = 0;
      rule = TriggerRule.State
          (door_sensor ∷ []) None Match.Absent (Match.OneOf (codes "on" ∷ []));
      hold = None;
    }

abbrev pub door : Mode → Automation
door the_mode = record {
  name = codes "door";
  triggers = door_trigger ∷ [];
  tests = [];
  actions = call (codes "light.turn_on") (codes "light.porch") ∷ [];
  mode = the_mode;
  max = 10;
  initial = None;
}

abbrev pub start : ℕ
start = 1714593600000

abbrev pub report : ℕ → Text → Entry
report n state = Entry.Line 0 n (Cmd.Report door_sensor state [])

abbrev pub turned_on : Item
turned_on = Item.Call (codes "light.turn_on") (porch ∷ []) []

abbrev pub boot : Mode → Entry
boot m = Entry.Boot [] (record { automations = door m ∷ []; scripts = []; helpers = [] }) None start (codes "UTC") (first_carry [])

abbrev pub twice : Mode → Journal
twice m = boot m ∷ report 0 (codes "off") ∷ report 1 (codes "on") ∷ report 2 (codes "off") ∷ report 3 (codes "on") ∷ []

abbrev pub env_at : ℕ → Mode → Pairs
env_at n m = (codes "trigger", variables (twice m) door_trigger (Some door_sensor) n) ∷ []

abbrev pub then_done : Journal
then_done =
    boot Mode.Queued ∷ report 0 (codes "off") ∷ report 1 (codes "on") ∷ report 2 (codes "off")
    ∷ report 3 (codes "on") ∷ Entry.Step 0 1 [] turned_on ∷ Entry.Line 0 4 (Cmd.Switch (codes "door") false true) ∷ []

-- a record of the door's automation
abbrev pub run : ℕ → ℕ → Mode → Option ℕ → Option (ℕ × EndCause) → ℕ → Record
run n place m begin end calls =
    record {
      serial = n;
      automation = 0;
      number = n;
      place = place;
      order = 0;
      env = env_at place m;
      begin = begin;
      end = end;
      calls = calls;
    }
