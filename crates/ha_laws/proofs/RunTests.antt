-- Runs: a wait that ends between two steps, lists side by side, a run that turns itself off, and two attempts at one entry.
use Rattle.std.proofs.Common.{◌≡◌, ℕ, List, [], ◌∷◌, Bool, true, false, refl, take, ◌+◌, ◌∙◌}
use Rattle.std.specs.Prelude.{Option, Some, None, codes, pos}
use Rattle.std.specs.Fmt.{digits}
use Rattle.ha_value.specs.declared.value.Num.{Num}
use Rattle.ha_value.specs.declared.value.EntityId.{EntityId}
use Rattle.ha_value.specs.declared.value.Value.{Value}
use Rattle.ha_value.specs.declared.value.Value.TheVariants.{outs-Flag, outs-Number, outs-Pairs}
use Rattle.ha_value.specs.declared.value.Value.TheOpen.{Value-F}
use Rattle.ha_value.specs.declared.value.Value.TheViews.{roll-Value, out-roll-Value}
use Rattle.ha_value.specs.Ids.{read_entity}
use Rattle.ha_value.specs.Numbers.{read_number, print_number}
use Rattle.ha_value.specs.Truth.{says_yes_text}
use Rattle.ha_config.specs.declared.template.Template.{Template}
use Rattle.ha_config.specs.declared.template.Expr.{Expr}
use Rattle.ha_config.specs.declared.template.Expr.TheOpen.{Expr-F}
use Rattle.ha_config.specs.declared.template.Expr.TheViews.{roll-Expr}
use Rattle.ha_config.specs.declared.config.Form.{Form}
use Rattle.ha_config.specs.declared.config.Form.TheOpen.{Form-F}
use Rattle.ha_config.specs.declared.config.Form.TheViews.{roll-Form}
use Rattle.ha_config.specs.declared.config.SpanForm.{SpanForm}
use Rattle.ha_config.specs.declared.config.RepeatKind.{RepeatKind}
use Rattle.ha_config.specs.declared.config.Automation.{Automation}
use Rattle.ha_config.specs.declared.config.Trigger.{Trigger}
use Rattle.ha_config.specs.declared.config.TriggerRule.{TriggerRule}
use Rattle.ha_config.specs.declared.config.Match.{Match}
use Rattle.ha_config.specs.declared.config.Mode.{Mode}
use Rattle.ha_config.specs.declared.config.Condition.TheOpen.{Condition-F}
use Rattle.ha_config.specs.declared.config.Condition.TheViews.{roll-Condition}
use Rattle.ha_config.specs.declared.config.Action.{Action}
use Rattle.ha_config.specs.declared.config.ActionKind.TheOpen.{ActionKind-F}
use Rattle.ha_config.specs.declared.command.Cmd.{Cmd}
use Rattle.ha_sight.specs.declared.item.Item.{Item}
use Rattle.ha_journal.specs.declared.entry.Entry.{Entry}
use Rattle.ha_model.specs.declared.record.EndCause.{EndCause}
use Rattle.ha_config.specs.Words.{Text}
use Rattle.ha_journal.specs.Entries.{first_carry}
use Rattle.ha_journal.specs.Journal.{Journal}
use Rattle.ha_journal.specs.Switches.{is_on}
use Rattle.ha_journal.specs.Variables.{variables}
use Rattle.ha_sight.specs.Scripts.{Spot, Outcome, Status, whole, turns}
use Rattle.ha_model.specs.Records.{records_of, next_spot}
use Rattle.ha_model.proofs.FoldLaws.{records-passes}
use Rattle.ha_laws.specs.WorkedHall.{text_template, show, act}
use Rattle.ha_sight.proofs.Rolls.{rolls}

abbrev start : ℕ
start = 1714593600000

abbrev N : Item
N = Item.Nothing

-- an automation that an event `go` starts
abbrev on_go : Trigger
on_go = record { id = codes "0"; idx = 0; rule = TriggerRule.Event (codes "go" ∷ []) []; hold = None }

abbrev automation : Text → List Trigger → List Action → Mode → Option Bool → Automation
automation name ts actions mode initial = record { name = name; triggers = ts; tests = []; actions = actions; mode = mode; max = 10; initial = initial }

abbrev boot : List Automation → Entry
boot all = Entry.Boot [] (record { automations = all; scripts = []; helpers = [] }) None start (codes "UTC") (first_carry [])

abbrev go : Entry
go = Entry.Line 0 0 (Cmd.Event (codes "go") [])

abbrev after_5 : Entry
after_5 = Entry.Line 0 1 (Cmd.Moment (start + 5000))

abbrev bare_call : Text → List Text → List (Text × Form) → Action
bare_call service targets fields = act (ActionKind-F.Call (text_template service) (all targets) fields)
  where
    all : List Text → List Template
    all [] = []
    all (t ∷ ts) = text_template t ∷ all ts

-- ---- a wait ends at the first entry at which its template is true, whatever came before its second step

abbrev name : Text → Expr
name t = roll-Expr (Expr-F.Name t)

abbrev literal : Text → Expr
literal t = roll-Expr (Expr-F.Plain (roll-Value (Value-F.Text t)))

abbrev z_is_off : Template
z_is_off = show (roll-Expr (Expr-F.Function 3 (literal (codes "automation.z") ∷ literal (codes "off") ∷ [])))

abbrev of_wait : Text → Form
of_wait t = roll-Form (Form-F.Text (show (roll-Expr (Expr-F.Field (name (codes "wait")) t))))

abbrev waiting : List Action
waiting = act (ActionKind-F.WaitUntil z_is_off (Some (SpanForm.Known 10000)) true)
    ∷ bare_call (codes "notify.b") [] ((codes "done", of_wait (codes "completed")) ∷ (codes "left", of_wait (codes "remaining")) ∷ []) ∷ []

abbrev blinking : List Action
blinking = act (ActionKind-F.Delay (SpanForm.Known 5000)) ∷ bare_call (codes "automation.turn_off") (codes "automation.z" ∷ []) [] ∷ bare_call (codes "automation.turn_on") (codes "automation.z" ∷ []) [] ∷ []

abbrev blink : Journal
blink = boot (automation (codes "z") [] [] Mode.Single None ∷ automation (codes "a") (on_go ∷ []) blinking Mode.Single None ∷ automation (codes "b") (on_go ∷ []) waiting Mode.Single None ∷ [])
    ∷ go ∷ Entry.Step 0 1 [] N ∷ Entry.Step 0 2 [] N ∷ after_5 ∷ Entry.Step 0 1 [] N
    ∷ Entry.Step 0 1 [] (Item.Switched ((0, false, true) ∷ [])) ∷ Entry.Step 0 1 [] (Item.Switched ((0, true, false) ∷ [])) ∷ []

abbrev spot_at : Journal → ℕ → List ℕ → Spot
spot_at j n b = next_spot (take n j) b

blinks : ◌≡◌ {A = Option Outcome} (whole blinking [] (spot_at blink 2 [] ∷ spot_at blink 5 [] ∷ spot_at blink 6 [] ∷ spot_at blink 7 [] ∷ []))
    (Some (record { items = N ∷ N ∷ Item.Switched ((0, false, true) ∷ []) ∷ Item.Switched ((0, true, false) ∷ []) ∷ []; status = Status.Done }))
unfolding read_entity
blinks = simp rolls

waits : ◌≡◌ {A = Option Outcome} (whole waiting [] (spot_at blink 3 [] ∷ spot_at blink 8 [] ∷ spot_at blink 8 [] ∷ []))
    (Some (record { items = N ∷ N ∷ Item.Call (codes "notify.b") [] ((codes "done", Value.Flag true) ∷ (codes "left", Value.Number (Num.Fixed (pos 5000000))) ∷ []) ∷ []; status = Status.Done }))
unfolding read_entity says_yes_text read_number print_number digits
waits = simp (rolls, out-roll-Value, outs-Flag, outs-Number, outs-Pairs)

not_before : ◌≡◌ {A = Option Outcome} (whole waiting [] (spot_at blink 3 [] ∷ spot_at blink 6 [] ∷ [])) None
unfolding read_entity says_yes_text read_number print_number digits
not_before = simp (rolls, out-roll-Value, outs-Flag)

-- ---- a wait that may not go on stops the whole script where it times out

abbrev stopping : List Action
stopping = act (ActionKind-F.Repeat (RepeatKind.Count (text_template (codes "3")))
    (act (ActionKind-F.WaitUntil (show (roll-Expr (Expr-F.Plain (roll-Value (Value-F.Flag false))))) (Some (SpanForm.Known 5000)) false) ∷ bare_call (codes "notify.in") [] [] ∷ []))
    ∷ bare_call (codes "notify.after") [] [] ∷ []

abbrev timed_out : Journal
timed_out = boot (automation (codes "a") (on_go ∷ []) stopping Mode.Single None ∷ []) ∷ go ∷ Entry.Step 0 1 [] N ∷ Entry.Step 0 1 [] N ∷ after_5 ∷ []

stops_all : ◌≡◌ {A = Option Outcome} (whole stopping [] (spot_at timed_out 2 [] ∷ spot_at timed_out 3 [] ∷ spot_at timed_out 5 [] ∷ []))
    (Some (record { items = N ∷ N ∷ N ∷ []; status = Status.Stopped }))
unfolding turns read_number says_yes_text
stops_all = simp (rolls, out-roll-Value)

-- ---- lists side by side: a false condition ends its list alone, and the block ends with its last list

abbrev side_by_side : List Action
side_by_side = act (ActionKind-F.Parallel ((act (ActionKind-F.Delay (SpanForm.Known 5000)) ∷ bare_call (codes "notify.x") [] [] ∷ []) ∷ (act (ActionKind-F.Test (roll-Condition (Condition-F.Or []))) ∷ bare_call (codes "notify.y") [] [] ∷ []) ∷ []))
    ∷ bare_call (codes "notify.z") [] [] ∷ []

abbrev sides : Journal
sides = boot (automation (codes "a") (on_go ∷ []) side_by_side Mode.Single None ∷ []) ∷ go
    ∷ Entry.Step 0 1 [] N ∷ Entry.Step 0 1 (0 ∷ []) N ∷ Entry.Step 0 1 (1 ∷ []) N ∷ after_5 ∷ Entry.Step 0 1 (0 ∷ []) N ∷ Entry.Step 0 1 (0 ∷ []) (Item.Call (codes "notify.x") [] []) ∷ Entry.Step 0 1 [] (Item.Call (codes "notify.z") [] []) ∷ []

sides_end : records_of sides ≡ record { serial = 1; automation = 0; number = 1; place = 1; order = 0; env = (codes "trigger", variables sides on_go None 1) ∷ []; begin = Some 1; end = Some (8, EndCause.Done); calls = 2 } ∷ []
unfolding read_entity
sides_end = records-passes sides ∙ simp rolls

-- ---- a run that turns its own automation off ends at that step; after a restart the switch is as configured

abbrev self_off : Journal
self_off = boot (automation (codes "a") (on_go ∷ []) (bare_call (codes "automation.turn_off") (codes "automation.a" ∷ []) [] ∷ bare_call (codes "notify.x") [] [] ∷ []) Mode.Single (Some true) ∷ []) ∷ go
    ∷ Entry.Step 0 1 [] (Item.Switched ((0, false, true) ∷ [])) ∷ Entry.Line 0 1 Cmd.Restart ∷ []

off_by_itself : records_of self_off ≡ record { serial = 1; automation = 0; number = 1; place = 1; order = 0; env = (codes "trigger", variables self_off on_go None 1) ∷ []; begin = Some 1; end = Some (2, EndCause.SwitchedOff); calls = 0 } ∷ []
unfolding read_entity
off_by_itself = records-passes self_off ∙ simp rolls

on_again : is_on self_off 0 ≡ true
on_again = refl

-- ---- two attempts at one entry, in mode restart: the second replaces the first there

abbrev lamp : EntityId
lamp = record { domain = codes "light"; object = codes "x" }

abbrev lamp_trigger : Match → ℕ → Trigger
lamp_trigger to i = record { id = codes "t"; idx = i; rule = TriggerRule.State (lamp ∷ []) None Match.Absent to; hold = None }

abbrev two : Journal
two = boot (automation (codes "a") (lamp_trigger Match.Absent 0 ∷ lamp_trigger (Match.OneOf (codes "on" ∷ [])) 1 ∷ []) (bare_call (codes "notify.x") [] [] ∷ []) Mode.Restart None ∷ []) ∷ Entry.Line 0 0 (Cmd.Report lamp (codes "on") []) ∷ []

replaced_at_once : records_of two ≡
    record { serial = 1; automation = 0; number = 1; place = 1; order = 0; env = (codes "trigger", variables two (lamp_trigger Match.Absent 0) (Some lamp) 1) ∷ []; begin = Some 1; end = Some (1, EndCause.Replaced); calls = 0 }
    ∷ record { serial = 2; automation = 0; number = 2; place = 1; order = 1; env = (codes "trigger", variables two (lamp_trigger (Match.OneOf (codes "on" ∷ [])) 1) (Some lamp) 1) ∷ []; begin = Some 1; end = None; calls = 0 } ∷ []
replaced_at_once = records-passes two
