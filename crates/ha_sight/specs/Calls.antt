-- What the fields of an action stand for: the item that a call gives, or the code of its failure.
use Rattle.std.specs.Prelude.{ℕ, ◌+◌, ◌*◌, Bool, true, false, not, ◌&&◌, nat_le, List, [], ◌∷◌, ◌++◌, map, filter_map, find, Option, Some, None, Result, Ok, Err, ok_or, is_some, option_map, option_and_then, unwrap_or, pos, negsuc, codes, if◌then◌else◌}
use Rattle.std.specs.Option.{option_map_or}
use Rattle.ha_value.specs.declared.value.EntityId.{EntityId}
use Rattle.ha_value.specs.declared.value.Value.{Value}
use Rattle.ha_value.specs.declared.value.Value.TheOpen.{Value-F}
use Rattle.ha_value.specs.declared.value.Value.TheViews.{out-Value}
use Rattle.ha_value.specs.Ids.{read_entity}
use Rattle.ha_clock.specs.Local.{last_span}
use Rattle.ha_clock.specs.SpanText as span_text
use Rattle.ha_config.specs.declared.template.Template.{Template}
use Rattle.ha_config.specs.declared.config.Form.{Form}
use Rattle.ha_config.specs.declared.config.SpanForm.{SpanForm}
use Rattle.ha_sight.specs.declared.item.Item.{Item}
use Rattle.ha_sight.specs.declared.steps.Inner.{Inner}
use Rattle.ha_config.specs.Words.{Text, Pairs, same, last_pair, is_empty_text, parts_between_commas}
use Rattle.ha_config.specs.Numbers.{read_number}
pub use Rattle.ha_sight.specs.Checks.{Checked, checked_map, checked_then, template_fault, no_service, no_target, no_duration, no_count, too_many_turns, no_value, turns_in, natural_in, whole_in}
use Rattle.ha_sight.specs.Once.{each_number_once}
use Rattle.ha_sight.specs.Sight.{Automations, Sight, switch_at}
use Rattle.ha_sight.specs.Inner.{inner_of}
use Rattle.ha_sight.specs.Templates.{rendered, data_of}

-- ---- targets

abbrev pub all_read : List Text → Option (List EntityId)
all_read [] = Some []
all_read (t ∷ ts) = option_and_then (λ e. option_map (λ es. e ∷ es) (all_read ts)) (read_entity t)

-- the entities of a rendered target: an empty text names none, else each part between commas is an entity id
abbrev pub entities_in : Text → Option (List EntityId)
entities_in t = if is_empty_text t then Some [] else all_read (parts_between_commas t)

-- ---- the services of automations, which the engine does itself

-- the number of the automation that an entity id names, if it names one
abbrev pub automation_at : Automations → EntityId → Option ℕ
automation_at all e = if same e.domain (codes "automation") then option_map (λ p. p.0) (find (λ p. same p.1 e.object) all) else None

-- the automations that the targets name, each once, in the order of the targets
abbrev pub automations_of : Automations → List EntityId → List ℕ
automations_of all targets = each_number_once (filter_map (automation_at all) targets)

-- the flag of this name in the data; what is no flag counts as true
abbrev pub flag_or_true : Value-F Value → Bool
flag_or_true (Value-F.Flag b) = b
flag_or_true Value-F.Null = true
flag_or_true (Value-F.Number n) = true
flag_or_true (Value-F.Text t) = true
flag_or_true (Value-F.Items vs) = true
flag_or_true (Value-F.Pairs ps) = true

abbrev pub flag_named : Text → Pairs → Bool
flag_named name ps = option_map_or (λ v. flag_or_true (out-Value v)) (last_pair name ps) true

-- runs are stopped, where the data asks for it, only where the new value is off
abbrev pub switched_to : Bool → Pairs → ℕ → ℕ × Bool × Bool
switched_to on ps a = (a, on, not on && flag_named (codes "stop_actions") ps)

abbrev pub was_on : Automations → ℕ → Bool
was_on all a = unwrap_or (switch_at all a) false

-- the item of a call: the four services of automations are done by the engine, from the switches seen
abbrev pub item_of : Automations → Text → List EntityId → Pairs → Item
item_of all service targets ps =
    if same service (codes "automation.turn_on") then Item.Switched (map (switched_to true ps) (automations_of all targets))
    else if same service (codes "automation.turn_off") then Item.Switched (map (switched_to false ps) (automations_of all targets))
    else if same service (codes "automation.toggle")
    then Item.Switched (map (λ a. switched_to (not (was_on all a)) ps a) (automations_of all targets))
    else if same service (codes "automation.trigger")
    then Item.Triggered (automations_of all targets) (flag_named (codes "skip_condition") ps)
    else Item.Call service targets ps

-- what the core does in place of a call, else what the call gives
abbrev pub done_by : Inner → Item → Checked Item
done_by Inner.Outer outer = Ok outer
done_by (Inner.Does item) outer = Ok item
done_by (Inner.Fails code) outer = Err code

-- ---- numbers and spans of rendered texts

abbrev pub natural_of : Text → Option ℕ
natural_of t = option_and_then natural_in (read_number t)

abbrev pub within_span : ℕ → Option ℕ
within_span n = if nat_le n last_span then Some n else None

-- the milliseconds of days, hours, minutes, seconds and milliseconds, in this order
abbrev pub part_lengths : List ℕ
part_lengths = 86_400_000 ∷ 3_600_000 ∷ 60_000 ∷ 1_000 ∷ 1 ∷ []

module _ (sight : Sight) (env : Pairs) where
  -- the values of forms, and of pairs of them, or a fault
  abbrev pub forms_of : List Form → Option (List Value)
  forms_of [] = Some []
  forms_of (f ∷ fs) = option_and_then (λ v. option_map (λ vs. v ∷ vs) (forms_of fs)) (data_of sight f env)

  abbrev pub fields_of : List (Text × Form) → Option Pairs
  fields_of [] = Some []
  fields_of (p ∷ ps) = option_and_then (λ v. option_map (λ vs. (p.0, v) ∷ vs) (fields_of ps)) (data_of sight p.1 env)

  -- the rendered text of a field
  abbrev pub text_for : Template → Checked Text
  text_for t = ok_or (rendered sight t env) template_fault

  -- a service name has the form of an entity id
  abbrev pub service_of : Template → Checked Text
  service_of t = checked_then (λ s. if is_some (read_entity s) then Ok s else Err no_service) (text_for t)

  abbrev pub target_of : Template → Checked (List EntityId)
  target_of t = checked_then (λ s. ok_or (entities_in s) no_target) (text_for t)

  abbrev pub targets_of : List Template → Checked (List EntityId)
  targets_of [] = Ok []
  targets_of (t ∷ ts) = checked_then (λ es. checked_map (λ more. es ++ more) (targets_of ts)) (target_of t)

  -- service, then each target, then the data: the first that fails decides the code
  abbrev pub checked_call : Template → List Template → List (Text × Form) → Checked Item
  checked_call service target fields =
      checked_then
      (λ s. checked_then
      (λ es. checked_then
      (λ ps. done_by (inner_of sight s es ps) (item_of sight.automations s es ps))
      (ok_or (fields_of fields) template_fault))
      (targets_of target))
      (service_of service)

  abbrev pub item_or_failed : Checked Item → Item
  item_or_failed (Ok item) = item
  item_or_failed (Err code) = Item.Failed code

  abbrev pub call_item : Template → List Template → List (Text × Form) → Item
  call_item service target fields = item_or_failed (checked_call service target fields)

  -- the parts of a delay, each with its length in milliseconds, one after the other
  abbrev pub parts_of : List ℕ → List Template → Checked ℕ
  parts_of lengths [] = Ok 0
  parts_of [] (t ∷ ts) = Err no_duration
  parts_of (n ∷ lengths) (t ∷ ts) =
      checked_then
      (λ k. checked_map (λ rest. n * k + rest) (parts_of lengths ts))
      (checked_then (λ s. ok_or (natural_of s) no_duration) (text_for t))

  -- the milliseconds of a span, or the code of a failure
  abbrev pub span_of : SpanForm → Checked ℕ
  span_of (SpanForm.Known d) = Ok d
  span_of (SpanForm.Text t) = checked_then (λ s. ok_or (span_text.span_of s) no_duration) (text_for t)
  span_of (SpanForm.Parts ts) = checked_then (λ n. ok_or (within_span n) no_duration) (parts_of part_lengths ts)

  -- of a span that may not be given: no failure, and no span
  abbrev pub spans_of : Option SpanForm → Checked (Option ℕ)
  spans_of None = Ok None
  spans_of (Some s) = checked_map Some (span_of s)

  -- how many turns a count makes
  abbrev pub count_of : Template → Checked ℕ
  count_of t = checked_then (λ s. ok_or (option_and_then turns_in (read_number s)) no_count) (text_for t)
