-- What roles, fields and parts of actions are sound by.
use Rattle.std.proofs.Common.{◌≡◌, ◌∙◌, ◌<◌, ap, refl, sym, ℕ, Bool, true, false, List, [], ◌∷◌, ◌++◌, Option, Some, None, arith, length-append}
use Rattle.std.specs.Prelude.{◌&&◌, if◌then◌else◌}
use Rattle.ha_config.specs.declared.config.Action.{Action}
use Rattle.ha_config.specs.declared.config.ActionKind.{ActionKind}
use Rattle.ha_config.specs.declared.config.ActionKind.TheVariants as does
use Rattle.ha_config.specs.declared.config.Condition.{Condition}
use Rattle.ha_config.specs.declared.config.Condition.TheVariants as tests
use Rattle.ha_config.specs.declared.config.Condition.TheOpen.{Condition-F}
use Rattle.ha_config.specs.declared.config.Condition.TheFolds.{fold-roll-Condition}
use Rattle.ha_config.specs.declared.config.Form.{Form}
use Rattle.ha_config.specs.declared.config.RepeatKind.{RepeatKind}
use Rattle.ha_config.specs.declared.config.SpanForm.{SpanForm}
use Rattle.ha_config.specs.declared.config.Trigger.{Trigger}
use Rattle.ha_config.specs.declared.template.Template.{Template}
use Rattle.ha_config.specs.Sound.{all_short, are_sound_actions, are_sound_conditions, are_sound_fields, are_sound_triggers, if_there, is_sound_action, is_sound_condition, is_sound_repeat, is_sound_span, is_sound_template, sound_condition_step}
use Rattle.ha_config.specs.Words.{Text}
use Rattle.conf_field.specs.Holds.{Holds, IfThere}
use Rattle.conf_field.specs.Readings.{Read}
use Rattle.conf_script.specs.Actions as a
use Rattle.conf_script.specs.Actions.{Chosen, Means, Turns}
use Rattle.conf_script.specs.Calls.{or_none}
use Rattle.conf_laws.proofs.Down.{most}
use Rattle.conf_laws.proofs.Joined.{all_passed, both_lists, pair}
use Rattle.conf_laws.proofs.Parts.{AllOf, Passes, there, weaker}
use Rattle.action_laws.proofs.SoundCalls as calls
use Rattle.action_laws.proofs.SoundCalls.{FewTargets}
use Rattle.action_laws.proofs.SoundKinds as kinds
use Rattle.action_laws.proofs.SoundKinds.{are_sound_turns, is_sound_option, sound_kind}

abbrev pub SoundTemplate : Template → Type 0
SoundTemplate = Passes is_sound_template

abbrev pub SoundSpan : SpanForm → Type 0
SoundSpan = Passes is_sound_span

abbrev pub SoundFields : List (Text × Form) → Type 0
SoundFields = Passes are_sound_fields

abbrev pub SoundTests : List Condition → Type 0
SoundTests = Passes are_sound_conditions

abbrev pub SoundTriggers : List Trigger → Type 0
SoundTriggers = Passes are_sound_triggers

abbrev pub SoundCondition : Condition → Type 0
SoundCondition = Passes is_sound_condition

abbrev pub SoundAction : Action → Type 0
SoundAction = Passes is_sound_action

abbrev pub SoundActions : List Action → Type 0
SoundActions = Passes are_sound_actions

abbrev pub SoundKind : ActionKind → Type 0
SoundKind = Passes sound_kind

abbrev pub SoundOption : Chosen → Type 0
SoundOption = Passes is_sound_option

abbrev pub SoundTurns : Turns → Type 0
SoundTurns = Passes are_sound_turns

abbrev pub SoundRepeat : RepeatKind → Type 0
SoundRepeat = Passes is_sound_repeat

-- a list of few members that are all sound
abbrev pub Short : {X : Type 0} → (X → Bool) → List X → Type 0
Short test = Passes (all_short test)

pub few_short : {X : Type 0} (test : X → Bool) (m : ℕ) (r : Read (List X)) → m < most → Holds (AllOf test m) r → Holds (Short test) r
few_short test m r few h = weaker (AllOf test m) (Short test) r (λ xs k. all_passed test xs k.0 (omega (arith, k.1, few))) h

pub lone_short : {X : Type 0} (test : X → Bool) (x : X) → test x ≡ true → all_short test (x ∷ []) ≡ true
lone_short test x h = all_passed test (x ∷ []) (pair (test x) true h refl) (omega arith)

-- Each role of a node gives what is sound.
pub record AllSound (m : Means) : Type 0 where
  pub one : Holds (IfThere SoundAction) m.one
  pub all : Holds SoundActions m.all
  pub branch : Holds (IfThere SoundActions) m.branch
  pub branches : Holds (Short are_sound_actions) m.branches
  pub chosen : Holds SoundOption m.chosen
  pub choices : (line : ℕ) → Holds (Short is_sound_option) (m.choices line)
  pub turns : (line : ℕ) → Holds SoundTurns (m.turns line)

-- ---- fields in which actions stand

abbrev pub FieldSound : Option (ℕ × Means) → Type 0
FieldSound o = IfThere (λ x. AllSound x.1) o

abbrev pub RoleSound : {A : Type 0} → (A → Type 0) → (ℕ → Means → Read A) → Type 0
RoleSound P read = (line : ℕ) (m : Means) → AllSound m → Holds P (read line m)

pub need_role : {A : Type 0} (P : A → Type 0) (read : ℕ → Means → Read A) → RoleSound P read → (line : ℕ) (o : Option (ℕ × Means)) → FieldSound o → Holds P (a.need_in read line o)
need_role P read role line None h = tt
need_role P read role line (Some x) h = role x.0 x.1 h

pub may_actions : (o : Option (ℕ × Means)) → FieldSound o → Holds SoundActions (a.may_in a.all_of o)
may_actions None h = refl
may_actions (Some x) h = h.all

pub all_role : RoleSound SoundActions a.all_of
all_role line m h = h.all

-- ---- parts that are put together

pub joined_sound : (xs ys : List Template) → FewTargets xs → FewTargets ys → all_short is_sound_template (xs ++ ys) ≡ true
joined_sound xs ys h k = all_passed is_sound_template (xs ++ ys) (both_lists is_sound_template xs ys h.0 k.0) (omega (arith, h.1, k.1, length-append xs ys))

pub fields_or_none : (o : Option (List (Text × Form))) → IfThere SoundFields o → SoundFields (or_none o)
fields_or_none (Some ps) h = h
fields_or_none None h = refl

pub call_made : (service' : Template) (first second : Option (List Template)) (given : Option (List (Text × Form)))
    → SoundTemplate service' → IfThere FewTargets first → IfThere FewTargets second → IfThere SoundFields given
    → SoundKind (does.Call service' (or_none first ++ or_none second) (or_none given))
call_made service' first second given s f g d =
    let both' = or_none first ++ or_none second in
    kinds.call_sound service' both' (or_none given)
    ∙ pair (is_sound_template service' && all_short is_sound_template both') (are_sound_fields (or_none given))
    (pair (is_sound_template service') (all_short is_sound_template both') s
    (joined_sound (or_none first) (or_none second) (calls.few_or_none first f) (calls.few_or_none second g)))
    (fields_or_none given d)

pub wait_made : (test : Template) (timeout : Option SpanForm) (goes_on : Bool) → SoundTemplate test → IfThere SoundSpan timeout → SoundKind (does.WaitUntil test timeout goes_on)
wait_made test timeout goes_on h k =
    kinds.wait_sound test timeout goes_on ∙ pair (is_sound_template test) (if_there is_sound_span timeout) h (there is_sound_span timeout k)

pub wait_for_made : (triggers : List Trigger) (timeout : Option SpanForm) (goes_on : Bool) → SoundTriggers triggers → IfThere SoundSpan timeout
    → SoundKind (does.WaitFor triggers timeout goes_on)
wait_for_made triggers timeout goes_on h k =
    kinds.wait_for_sound triggers timeout goes_on ∙ pair (are_sound_triggers triggers) (if_there is_sound_span timeout) h (there is_sound_span timeout k)

pub enabled_sound : (b : Bool) (k : ActionKind) → SoundKind k → IfThere SoundAction (if b then Some (a.does_of k) else None)
enabled_sound true k h = kinds.by_kind k ∙ h
enabled_sound false k h = tt

pub tested_sound : (o : Option Condition) → IfThere SoundCondition o → IfThere SoundAction (a.tested o)
tested_sound (Some c) h = kinds.by_kind (does.Test c) ∙ kinds.test_sound c ∙ h
tested_sound None h = tt

pub template_condition : (t : Template) → is_sound_condition (tests.Template t) ≡ is_sound_template t
template_condition t = ap is_sound_condition (sym (tests.rolls-Template t)) ∙ fold-roll-Condition Bool sound_condition_step (Condition-F.Template t)
