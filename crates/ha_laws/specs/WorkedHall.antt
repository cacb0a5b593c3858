-- A worked journal: a hall light that goes out after two minutes, as the editor writes it.
use Rattle.std.specs.Prelude.{ℕ, List, [], ◌∷◌, take, ◌+◌}
use Rattle.std.specs.Prelude.{Some, None, codes, pos}
use Rattle.ha_value.specs.declared.value.EntityId.{EntityId}
use Rattle.ha_value.specs.declared.value.Value.{Value}
use Rattle.ha_config.specs.declared.template.Template.{Template}
use Rattle.ha_config.specs.declared.template.Piece.TheOpen.{Piece-F}
use Rattle.ha_config.specs.declared.template.Piece.TheViews.{roll-Piece, roll-Template}
use Rattle.ha_config.specs.declared.config.Automation.{Automation}
use Rattle.ha_config.specs.declared.config.Trigger.{Trigger}
use Rattle.ha_config.specs.declared.config.TriggerRule.{TriggerRule}
use Rattle.ha_config.specs.declared.config.Match.{Match}
use Rattle.ha_config.specs.declared.config.Mode.{Mode}
use Rattle.ha_config.specs.declared.config.Action.{Action}
use Rattle.ha_config.specs.declared.config.ActionKind.{ActionKind}
use Rattle.ha_config.specs.declared.config.ActionKind.TheOpen.{ActionKind-F}
use Rattle.ha_config.specs.declared.config.ActionKind.TheViews.{roll-ActionKind, roll-Action}
use Rattle.ha_config.specs.declared.command.Cmd.{Cmd}
use Rattle.ha_sight.specs.declared.item.Item.{Item}
use Rattle.ha_journal.specs.declared.entry.Entry.{Entry}
use Rattle.ha_model.specs.declared.record.EndCause.{EndCause}
use Rattle.ha_model.specs.declared.record.Record.{Record}
use Rattle.ha_value.specs.declared.value.Num.{Num}
use Rattle.ha_value.specs.declared.value.Value.TheOpen.{Value-F}
use Rattle.ha_value.specs.declared.value.Value.TheViews.{roll-Value}
use Rattle.ha_config.specs.declared.config.Form.{Form}
use Rattle.ha_config.specs.declared.config.SpanForm.{SpanForm}
use Rattle.ha_config.specs.declared.config.Form.TheOpen.{Form-F}
use Rattle.ha_config.specs.declared.config.Form.TheViews.{roll-Form}
use Rattle.ha_config.specs.declared.template.Expr.{Expr}
use Rattle.ha_config.specs.Words.{Text, Pairs}
use Rattle.ha_journal.specs.Entries.{first_carry}
use Rattle.ha_journal.specs.Journal.{Journal}
use Rattle.ha_journal.specs.Variables.{variables}
use Rattle.ha_sight.specs.Scripts.{Spot}
use Rattle.ha_model.specs.Records.{Records, next_spot}

abbrev pub text_template : Text → Template
text_template t = roll-Template (record { pieces = roll-Piece (Piece-F.Text t) ∷ [] })

abbrev pub show : Expr → Template
show e = roll-Template (record { pieces = roll-Piece (Piece-F.Show e) ∷ [] })

abbrev pub act : ActionKind-F ActionKind Action → Action
act k = roll-Action (record { kind = roll-ActionKind k })

abbrev pub call : Text → Text → List (Text × Form) → Action
call service target fields = act (ActionKind-F.Call (text_template service) (text_template target ∷ []) fields)

abbrev pub hall : EntityId
hall = record { domain = codes "binary_sensor"; object = codes "hall" }

abbrev pub light : EntityId
light = record { domain = codes "light"; object = codes "hall" }

abbrev pub the_trigger : Trigger
the_trigger =
    record { id = codes "0"; idx = 0; rule = TriggerRule.State (hall ∷ []) None Match.Any (Match.OneOf (codes "on" ∷ [])); hold = None }

abbrev pub the_number : Value
the_number = roll-Value (Value-F.Number (Num.Whole (pos 128)))

abbrev pub hall_light : Automation
hall_light = record {
  name = codes "hall_light";
  triggers = the_trigger ∷ [];
  tests = [];
  actions =
      call (codes "light.turn_on") (codes "light.hall") ((codes "brightness", roll-Form (Form-F.Plain the_number)) ∷ [])
      ∷ act (ActionKind-F.Delay (SpanForm.Known 120000)) ∷ call (codes "light.turn_off") (codes "light.hall") [] ∷ [];
  mode = Mode.Restart;
  max = 10;
  initial = None;
}

abbrev pub start : ℕ
start = 1714593600000

abbrev pub report : ℕ → Text → Entry
report n state = Entry.Line 0 n (Cmd.Report hall state [])

abbrev pub on_item : Item
on_item = Item.Call (codes "light.turn_on") (light ∷ []) ((codes "brightness", the_number) ∷ [])

abbrev pub off_item : Item
off_item = Item.Call (codes "light.turn_off") (light ∷ []) []

abbrev pub step : Item → Entry
step i = Entry.Step 0 1 [] i

abbrev pub journal : Journal
journal = Entry.Boot [] (record { automations = hall_light ∷ []; scripts = []; helpers = [] }) None start (codes "UTC") (first_carry []) ∷ report 0 (codes "off") ∷ report 1 (codes "on")
    ∷ step on_item ∷ step Item.Nothing ∷ Entry.Line 0 2 (Cmd.Moment (start + 120000)) ∷ step Item.Nothing ∷ step off_item ∷ []

abbrev pub env : Pairs
env = (codes "trigger", variables journal the_trigger (Some hall) 2) ∷ []

abbrev pub spot : ℕ → Spot
spot n = next_spot (take n journal) []

abbrev pub the_record : Record
the_record =
    record {
      serial = 1;
      automation = 0;
      number = 1;
      place = 2;
      order = 0;
      env = env;
      begin = Some 2;
      end = Some
          (7, EndCause.Done);
      calls = 2;
    }

abbrev pub records : Records
records = the_record ∷ []
