-- What moves and fires triggers, computed on short journals.
use Rattle.std.proofs.Common.{◌≡◌, ℕ, List, [], ◌∷◌, true, false, refl, ◌+◌}
use Rattle.std.specs.Prelude.{Option, Some, None, codes, pos, map}
use Rattle.ha_value.specs.declared.value.Num.{Num}
use Rattle.ha_value.specs.declared.value.EntityId.{EntityId}
use Rattle.ha_value.specs.declared.value.Value.{Value}
use Rattle.ha_value.specs.declared.value.Value.TheVariants.{outs-Number, outs-Text, outs-Flag}
use Rattle.ha_value.specs.declared.value.Value.TheOpen.{Value-F}
use Rattle.ha_value.specs.declared.value.Value.TheViews.{roll-Value, out-roll-Value}
use Rattle.ha_value.specs.Numbers.{read_number}
use Rattle.ha_value.specs.Truth.{says_yes_text}
use Rattle.ha_value.specs.Ids.{read_entity}
use Rattle.ha_value.specs.Arithmetic.{to_whole}
use Rattle.ha_clock.specs.Local.{local_seconds}
use Rattle.ha_clock.specs.Zone.{zone_offset, zone_of}
use Rattle.ha_config.specs.declared.template.Template.{Template}
use Rattle.ha_config.specs.declared.template.Op.{Op}
use Rattle.ha_config.specs.declared.template.Expr.{Expr}
use Rattle.ha_config.specs.declared.template.Expr.TheOpen.{Expr-F}
use Rattle.ha_config.specs.declared.template.Expr.TheViews.{roll-Expr}
use Rattle.ha_config.specs.declared.config.Automation.{Automation}
use Rattle.ha_config.specs.declared.config.Trigger.{Trigger}
use Rattle.ha_config.specs.declared.config.TriggerRule.{TriggerRule}
use Rattle.ha_config.specs.declared.config.Match.{Match}
use Rattle.ha_config.specs.declared.config.Unit as unit
use Rattle.ha_config.specs.declared.config.Mode.{Mode}
use Rattle.ha_config.specs.declared.config.Condition.TheOpen.{Condition-F}
use Rattle.ha_config.specs.declared.config.Condition.TheViews.{roll-Condition}
use Rattle.ha_config.specs.declared.command.Cmd.{Cmd}
use Rattle.ha_sight.specs.declared.item.Item.{Item}
use Rattle.ha_journal.specs.declared.entry.Entry.{Entry}
use Rattle.ha_config.specs.Words.{Text, Pairs}
use Rattle.ha_journal.specs.Entries.{first_carry}
use Rattle.ha_journal.specs.Journal.{Journal}
use Rattle.ha_journal.specs.Switches.{since}
use Rattle.ha_journal.specs.States.{reported, states}
use Rattle.ha_sight.specs.Conditions.{holds}
use Rattle.ha_clock.specs.Passed.{holds_in, passes_second}
use Rattle.ha_journal.specs.Moves.{sight, moves}
use Rattle.ha_sight.specs.Templates.{rendered, says}
use Rattle.ha_journal.specs.Attempts.{Attempt, attempts, by_hand}
use Rattle.ha_laws.specs.WorkedHall.{show}
use Rattle.ha_sight.proofs.Rolls.{rolls}

-- 2024-05-01T20:00:00Z
abbrev start : ℕ
start = 1714593600000

abbrev triggered : Text → List Trigger → Automation
triggered name ts = record { name = name; triggers = ts; tests = []; actions = []; mode = Mode.Single; max = 10; initial = None }

abbrev trigger : TriggerRule → Option ℕ → Trigger
trigger rule hold = record { id = codes "0"; idx = 0; rule = rule; hold = hold }

abbrev boot : List Automation → Entry
boot all = Entry.Boot [] (record { automations = all; scripts = []; helpers = [] }) None start (codes "UTC") (first_carry [])

abbrev lamp : EntityId
lamp = record { domain = codes "light"; object = codes "x" }

abbrev report : Text → Pairs → Entry
report t ps = Entry.Line 0 0 (Cmd.Report lamp t ps)

abbrev moment : ℕ → Entry
moment s = Entry.Line 0 0 (Cmd.Moment (start + s))

abbrev attempted : Journal → ℕ → List ℕ
attempted j p = map {A = Attempt} {B = ℕ} (λ a. a.automation) (attempts j p)

abbrev one : Value
one = roll-Value (Value-F.Number (Num.Whole (pos 1)))

-- ---- a bare state trigger looks at attributes too, one with `to: null` at the text alone

abbrev bare : TriggerRule
bare = TriggerRule.State (lamp ∷ []) None Match.Absent Match.Absent

abbrev to_any : TriggerRule
to_any = TriggerRule.State (lamp ∷ []) None Match.Absent Match.Any

abbrev attributes : Journal
attributes = boot (triggered (codes "a") (trigger bare None ∷ []) ∷ triggered (codes "b") (trigger to_any None ∷ []) ∷ []) ∷ report (codes "on") [] ∷ report (codes "on") ((codes "b", one) ∷ []) ∷ []

appears : attempted attributes 1 ≡ 0 ∷ 1 ∷ []
appears = refl

attribute_changes : attempted attributes 2 ≡ 0 ∷ []
attribute_changes = refl

-- ---- a hold of 5 seconds does not survive a leave and return

abbrev hold : Journal
hold = boot (triggered (codes "a") (trigger (TriggerRule.State (lamp ∷ []) None Match.Absent (Match.OneOf (codes "on" ∷ []))) (Some 5000) ∷ []) ∷ [])
    ∷ report (codes "on") [] ∷ moment 3000 ∷ report (codes "off") [] ∷ report (codes "on") [] ∷ moment 5000 ∷ moment 8000 ∷ moment 9000 ∷ []

too_soon : attempted hold 5 ≡ []
too_soon = refl

held : attempted hold 6 ≡ 0 ∷ []
held = refl

only_once : attempted hold 7 ≡ []
only_once = refl

-- ---- a numeric trigger fires where the number comes into range; what is no number is passed over

abbrev over_20 : Trigger
over_20 = trigger (TriggerRule.Numeric (lamp ∷ lamp ∷ []) None (Some (Num.Whole (pos 20))) None) None

abbrev numbers : Journal
numbers = boot (triggered (codes "a") (over_20 ∷ []) ∷ []) ∷ report (codes "20") [] ∷ report (codes "20.000001") [] ∷ report (codes "21") [] ∷ report (codes "unavailable") [] ∷ report (codes "22") [] ∷ []

out_of_range : attempted numbers 1 ≡ []
unfolding read_number
out_of_range = refl

crosses : attempted numbers 2 ≡ 0 ∷ []
unfolding read_number
crosses = refl

stays : attempted numbers 3 ≡ []
unfolding read_number
stays = refl

still_in_range : attempted numbers 5 ≡ []
unfolding read_number
still_in_range = refl

-- ---- time: 20:00:02 is passed once, and a pattern of every fifth second

abbrev clock : Journal
clock = boot (triggered (codes "a") (trigger (TriggerRule.Time (72002 ∷ [])) None ∷ []) ∷ triggered (codes "b") (trigger (TriggerRule.Pattern unit.Unit.Every unit.Unit.Every (unit.Unit.Each 5)) None ∷ []) ∷ [])
    ∷ moment 1999 ∷ moment 2000 ∷ moment 1000 ∷ moment 5500 ∷ []

before_it : attempted clock 1 ≡ []
unfolding passes_second holds_in local_seconds zone_offset zone_of
before_it = refl

at_it : attempted clock 2 ≡ 0 ∷ []
unfolding passes_second holds_in local_seconds zone_offset zone_of
at_it = refl

a_late_moment : attempted clock 3 ≡ []
unfolding passes_second holds_in local_seconds zone_offset zone_of
a_late_moment = refl

each_fifth : attempted clock 4 ≡ 1 ∷ []
unfolding passes_second holds_in local_seconds zone_offset zone_of
each_fifth = refl

-- ---- a template trigger: `{{ states('light.x')|int > 20 }}` with a hold

abbrev text_value : Text → Expr
text_value t = roll-Expr (Expr-F.Plain (roll-Value (Value-F.Text t)))

abbrev above_20 : Template
above_20 = show (roll-Expr (Expr-F.Pair Op.More (roll-Expr (Expr-F.Filter 1 (roll-Expr (Expr-F.Function 1 (text_value (codes "light.x") ∷ []))) [])) (roll-Expr (Expr-F.Plain (roll-Value (Value-F.Number (Num.Whole (pos 20))))))))

abbrev templates : Journal
templates = boot (triggered (codes "a") (trigger (TriggerRule.Template above_20) None ∷ []) ∷ []) ∷ report (codes "21") [] ∷ report (codes "20") [] ∷ report (codes "22") [] ∷ report (codes "23") [] ∷ []

becomes_true : says (rendered (sight templates 2) above_20 []) ≡ true
unfolding read_number to_whole read_entity says_yes_text
becomes_true = simp (rolls, out-roll-Value, outs-Text, outs-Number, outs-Flag)

not_before : says (rendered (sight templates 1) above_20 []) ≡ false
unfolding read_number to_whole read_entity says_yes_text
not_before = simp (rolls, out-roll-Value, outs-Text)

it_moves : moves templates (trigger (TriggerRule.Template above_20) None) None 1 ≡ true
unfolding read_number to_whole read_entity says_yes_text
it_moves = simp (rolls, out-roll-Value, outs-Text, outs-Number, outs-Flag)

stays_true : moves templates (trigger (TriggerRule.Template above_20) None) None 4 ≡ false
unfolding read_number to_whole read_entity says_yes_text
stays_true = simp (rolls, out-roll-Value, outs-Text, outs-Number, outs-Flag)

-- ---- start, events, and attempts by hand

abbrev events : Journal
events = boot (triggered (codes "a") (trigger TriggerRule.Start None ∷ []) ∷ triggered (codes "b") (trigger (TriggerRule.Event (codes "go" ∷ []) []) None ∷ []) ∷ [])
    ∷ Entry.Line 0 0 (Cmd.Event (codes "go") []) ∷ Entry.Line 0 1 (Cmd.Switch (codes "b") false true) ∷ Entry.Line 0 2 (Cmd.Event (codes "go") []) ∷ Entry.Step 0 1 [] (Item.Triggered (1 ∷ 0 ∷ []) true) ∷ Entry.Line 0 3 Cmd.Restart ∷ []

at_boot : attempted events 0 ≡ 0 ∷ []
at_boot = refl

at_event : attempted events 1 ≡ 1 ∷ []
at_event = refl

switched_off : attempted events 3 ≡ []
switched_off = refl

by_call : attempts events 4 ≡ record { automation = 1; env = by_hand; skip = true } ∷ record { automation = 0; env = by_hand; skip = true } ∷ []
by_call = refl

at_restart : attempted events 5 ≡ []
at_restart = refl

-- ---- switches and states of automations

abbrev switches : Journal
switches = boot (triggered (codes "a") [] ∷ []) ∷ moment 1000 ∷ Entry.Line 0 0 (Cmd.Switch (codes "a") false false) ∷ moment 2000 ∷ Entry.Line 0 0 (Cmd.Switch (codes "a") true false) ∷ moment 3000 ∷ []

abbrev the_automation : EntityId
the_automation = record { domain = codes "automation"; object = codes "a" }

its_state : states switches the_automation ≡ Some (record { text = codes "on"; attributes = []; changed = start + 2000; updated = start + 2000 })
its_state = refl

on_since : since switches 0 ≡ 4
on_since = refl

-- ---- a report equal in both changes nothing, and an attribute alone moves the second moment

abbrev moments : Journal
moments = boot [] ∷ report (codes "5") [] ∷ moment 10000 ∷ report (codes "5") [] ∷ moment 20000 ∷ report (codes "5") ((codes "u", one) ∷ []) ∷ []

both_moments : reported moments lamp ≡ Some (record { text = codes "5"; attributes = (codes "u", one) ∷ []; changed = start; updated = start + 20000 })
both_moments = simp (rolls, out-roll-Value)

-- ---- a window round midnight: 22:00 to 06:00, at 20:00 and two hours later

abbrev night : Journal
night = boot [] ∷ moment 7200000 ∷ []

at_20 : holds (sight night 1) (roll-Condition (Condition-F.Time (Some 79200) (Some 21600) None)) [] ≡ false
unfolding local_seconds zone_offset zone_of
at_20 = simp rolls

at_22 : holds (sight night 2) (roll-Condition (Condition-F.Time (Some 79200) (Some 21600) (Some (2 ∷ [])))) [] ≡ true
unfolding local_seconds zone_offset zone_of
at_22 = simp rolls
