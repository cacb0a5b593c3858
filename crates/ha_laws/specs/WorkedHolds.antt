-- Worked journals of triggers with a `for` of five seconds, with a Gone between; and of a queue that takes one run.
use Rattle.std.specs.Prelude.{ℕ, ◌+◌, List, [], ◌∷◌, map, Option, Some, None, codes, pos}
use Rattle.ha_value.specs.declared.value.Num.{Num}
use Rattle.ha_value.specs.declared.value.EntityId.{EntityId}
use Rattle.ha_value.specs.declared.value.Value.{Value}
use Rattle.ha_value.specs.declared.value.Value.TheOpen.{Value-F}
use Rattle.ha_value.specs.declared.value.Value.TheViews.{roll-Value}
use Rattle.ha_config.specs.declared.template.Template.{Template}
use Rattle.ha_config.specs.declared.template.Op.{Op}
use Rattle.ha_config.specs.declared.template.Expr.{Expr}
use Rattle.ha_config.specs.declared.template.Expr.TheOpen.{Expr-F}
use Rattle.ha_config.specs.declared.template.Expr.TheViews.{roll-Expr}
use Rattle.ha_config.specs.declared.config.Automation.{Automation}
use Rattle.ha_config.specs.declared.config.Trigger.{Trigger}
use Rattle.ha_config.specs.declared.config.TriggerRule.{TriggerRule}
use Rattle.ha_config.specs.declared.config.Match.{Match}
use Rattle.ha_config.specs.declared.config.Mode.{Mode}
use Rattle.ha_config.specs.declared.command.Cmd.{Cmd}
use Rattle.ha_journal.specs.declared.entry.Entry.{Entry}
use Rattle.ha_model.specs.declared.record.EndCause.{EndCause}
use Rattle.ha_model.specs.declared.record.Record.{Record}
use Rattle.ha_config.specs.Words.{Text, Pairs}
use Rattle.ha_journal.specs.Entries.{first_carry}
use Rattle.ha_journal.specs.Journal.{Journal}
use Rattle.ha_journal.specs.Variables.{variables}
use Rattle.ha_journal.specs.Attempts.{Attempt, attempts}
use Rattle.ha_laws.specs.WorkedHall.{show}
use Rattle.ha_laws.specs.WorkedModes.{door, door_sensor, door_trigger, report as door_report, turned_on}

-- 2024-05-01T20:00:00Z
abbrev pub start : ℕ
start = 1714593600000

abbrev pub lamp : EntityId
lamp = record { domain = codes "light"; object = codes "x" }

abbrev pub held : TriggerRule → Trigger
held rule = record { id = codes "0"; idx = 0; rule = rule; hold = Some 5000 }

abbrev pub boot : TriggerRule → Entry
boot rule =
    Entry.Boot [] (record {
      automations = record {
        name = codes "a";
        triggers = held rule
            ∷ [];
        tests = [];
        actions = [];
        mode = Mode.Single;
        max = 10;
        initial = None;
      } ∷ [];
      scripts = [];
      helpers = [];
    }) None start (codes "UTC") (first_carry [])

abbrev pub report : Text → Pairs → Entry
report t ps = Entry.Line 0 0 (Cmd.Report lamp t ps)

abbrev pub gone : Entry
gone = Entry.Line 0 0 (Cmd.Gone lamp)

-- so many milliseconds after the start
abbrev pub moment : ℕ → Entry
moment n = Entry.Line 0 0 (Cmd.Moment (start + n))

-- the automations that the attempts of an entry name
abbrev pub attempted : Journal → ℕ → List ℕ
attempted j p = map {A = Attempt} {B = ℕ} (λ a. a.automation) (attempts j p)

-- the number of the lamp is over 20
abbrev pub above_20 : TriggerRule
above_20 = TriggerRule.Numeric (lamp ∷ []) None (Some (Num.Whole (pos 20))) None

abbrev pub number_held : Journal
number_held = boot above_20 ∷ report (codes "25") [] ∷ gone ∷ moment 3000 ∷ moment 5000 ∷ []

-- `{{ states('light.x')|int > 20 }}`
abbrev pub text_value : Text → Expr
text_value t = roll-Expr (Expr-F.Plain (roll-Value (Value-F.Text t)))

abbrev pub is_over_20 : Template
is_over_20 =
    show (roll-Expr (Expr-F.Pair Op.More
    (roll-Expr (Expr-F.Filter 1 (roll-Expr (Expr-F.Function 1 (text_value (codes "light.x") ∷ []))) []))
    (roll-Expr (Expr-F.Plain (roll-Value (Value-F.Number (Num.Whole (pos 20))))))))

abbrev pub template_held : Journal
template_held =
    boot (TriggerRule.Template is_over_20) ∷ report (codes "25") []
    ∷ moment 3000 ∷ gone ∷ report (codes "25") [] ∷ moment 5000 ∷ moment 8000 ∷ []

-- any change of the attribute `b`
abbrev pub one : Value
one = roll-Value (Value-F.Number (Num.Whole (pos 1)))

abbrev pub attribute_changes : TriggerRule
attribute_changes = TriggerRule.State (lamp ∷ []) (Some (codes "b")) Match.Absent Match.Absent

abbrev pub attribute_held : Journal
attribute_held =
    boot attribute_changes ∷ report (codes "on") ((codes "b", one) ∷ [])
    ∷ moment 2000 ∷ report (codes "on") [] ∷ gone ∷ moment 5000 ∷ moment 7000 ∷ []

-- a door in mode queued that takes one run at a time
abbrev pub queue : Automation
queue = record (door Mode.Queued) { max = 1 }

abbrev pub queue_boot : Entry
queue_boot = Entry.Boot [] (record { automations = queue ∷ []; scripts = []; helpers = [] }) None start (codes "UTC") (first_carry [])

-- it opens at 2, at 4 and at 7; its first run calls at 5, and is done
abbrev pub queue_of_one : Journal
queue_of_one =
    queue_boot ∷ door_report 0 (codes "off") ∷ door_report 1 (codes "on") ∷ door_report 2 (codes "off") ∷ door_report 3 (codes "on")
    ∷ Entry.Step 0 1 [] turned_on ∷ door_report 4 (codes "off") ∷ door_report 5 (codes "on") ∷ []

-- a record of it
abbrev pub queue_run : ℕ → ℕ → Option (ℕ × EndCause) → ℕ → Record
queue_run n place end calls = record {
  serial = n;
  automation = 0;
  number = n;
  place = place;
  order = 0;
  env = (codes "trigger", variables queue_of_one door_trigger (Some door_sensor) place) ∷ [];
  begin = Some place;
  end = end;
  calls = calls;
}
