-- The services of helpers: what a call of one changes, by what is seen before its entry.
use Rattle.std.specs.Prelude.{ℕ, ◌+◌, ◌-◌, ℤ, pos, ◌+ℤ◌, ◌-ℤ◌, int_le, int_lt, Bool, true, false, not, is_some, ◌&&◌, ◌||◌, List, []}
use Rattle.std.specs.Prelude.{filter_map, slice_get, Option, Some, None, Ok, Err, option_map, option_and_then, unwrap_or, codes, if◌then◌else◌}
use Rattle.std.specs.List.{list_all, list_any, position}
use Rattle.std.specs.Option.{option_map_or}
use Rattle.ha_value.specs.declared.value.EntityId.{EntityId}
use Rattle.ha_value.specs.declared.value.Num.{Num}
use Rattle.ha_value.specs.declared.value.Value.{Value}
use Rattle.ha_value.specs.declared.value.Value.TheOpen.{Value-F}
use Rattle.ha_value.specs.declared.value.Value.TheViews.{out-Value}
use Rattle.ha_clock.specs.SpanText.{bounded, span_of}
use Rattle.ha_config.specs.declared.helper.Helper.{Helper}
use Rattle.ha_config.specs.declared.helper.HelperKind.{HelperKind}
use Rattle.ha_sight.specs.declared.helped.HelperChange.{HelperChange}
use Rattle.ha_sight.specs.declared.helped.HelperService.{HelperService}
use Rattle.ha_sight.specs.declared.helped.Wanted.{Wanted}
use Rattle.ha_config.specs.Words.{Text, Pairs, same, same_entity, last_pair}
use Rattle.ha_config.specs.Numbers.{read_number, print_number}
use Rattle.ha_config.specs.Helpers.{Counter, counter_in, flag_in, span_in, on_or_off}
use Rattle.ha_sight.specs.Once.{each_number_once}
use Rattle.ha_sight.specs.Checks.{Checked, checked_then, natural_in, whole_in, no_duration, no_value}
use Rattle.ha_sight.specs.Known.{Known, rest, span_left}
use Rattle.ha_sight.specs.Sight.{Sight}

-- ---- the services, and for which kind of helpers each is

abbrev pub service_named : Text → Option HelperService
service_named t =
    if same t (codes "input_boolean.turn_on") then Some HelperService.TurnOn
    else if same t (codes "input_boolean.turn_off") then Some HelperService.TurnOff
    else if same t (codes "input_boolean.toggle") then Some HelperService.Toggle
    else if same t (codes "counter.increment") then Some HelperService.Increment
    else if same t (codes "counter.decrement") then Some HelperService.Decrement
    else if same t (codes "counter.reset") then Some HelperService.Reset
    else if same t (codes "counter.set_value") then Some HelperService.SetValue
    else if same t (codes "timer.start") then Some HelperService.Start
    else if same t (codes "timer.pause") then Some HelperService.Pause
    else if same t (codes "timer.cancel") then Some HelperService.Cancel
    else if same t (codes "timer.finish") then Some HelperService.Finish
    else None

abbrev pub is_flag : HelperKind → Bool
is_flag kind = is_some (flag_in kind)

abbrev pub is_counter : HelperKind → Bool
is_counter kind = is_some (counter_in kind)

abbrev pub is_timer : HelperKind → Bool
is_timer kind = is_some (span_in kind)

abbrev pub is_for : HelperService → HelperKind → Bool
is_for HelperService.TurnOn = is_flag
is_for HelperService.TurnOff = is_flag
is_for HelperService.Toggle = is_flag
is_for HelperService.Increment = is_counter
is_for HelperService.Decrement = is_counter
is_for HelperService.Reset = is_counter
is_for HelperService.SetValue = is_counter
is_for HelperService.Start = is_timer
is_for HelperService.Pause = is_timer
is_for HelperService.Cancel = is_timer
is_for HelperService.Finish = is_timer

-- one is configured for which the service is
abbrev pub is_configured : List Known → HelperService → Bool
is_configured all s = list_any (λ k. is_for s k.helper.kind) all

-- ---- the helpers that a call names

-- the place of the helper that has this id
abbrev pub place_as : List Known → EntityId → Option ℕ
place_as all e = position (λ k. same_entity k.helper.entity e) all

abbrev pub is_for_at : List Known → HelperService → ℕ → Bool
is_for_at all s n = option_map_or (λ k. is_for s k.helper.kind) (slice_get all n) false

abbrev pub if_for : List Known → HelperService → ℕ → Option ℕ
if_for all s n = if is_for_at all s n then Some n else None

-- that which a target names, where the service is for it
abbrev pub place_meant : List Known → HelperService → EntityId → Option ℕ
place_meant all s e = option_and_then (if_for all s) (place_as all e)

-- those that the targets name, each once, in the order of the targets
abbrev pub places_meant : List Known → HelperService → List EntityId → List ℕ
places_meant all s targets = each_number_once (filter_map (place_meant all s) targets)

-- ---- what the data of a call asks for

abbrev pub nothing : Wanted
nothing = record { value = None; span = None }

abbrev pub whole_value : Value-F Value → Option ℤ
whole_value (Value-F.Number n) = whole_in n
whole_value Value-F.Null = None
whole_value (Value-F.Flag b) = None
whole_value (Value-F.Text t) = None
whole_value (Value-F.Items vs) = None
whole_value (Value-F.Pairs ps) = None

-- whole seconds, or the text of a span
abbrev pub span_value : Value-F Value → Option ℕ
span_value (Value-F.Number n) = bounded (natural_in n)
span_value (Value-F.Text t) = span_of t
span_value Value-F.Null = None
span_value (Value-F.Flag b) = None
span_value (Value-F.Items vs) = None
span_value (Value-F.Pairs ps) = None

abbrev pub with_value : Option ℤ → Checked Wanted
with_value None = Err no_value
with_value (Some z) = Ok (record { value = Some z; span = None })

abbrev pub with_span : Option ℕ → Checked Wanted
with_span None = Err no_duration
with_span (Some d) = Ok (record { value = None; span = Some d })

abbrev pub value_wanted : Pairs → Checked Wanted
value_wanted ps = with_value (option_and_then (λ v. whole_value (out-Value v)) (last_pair (codes "value") ps))

abbrev pub span_wanted : Pairs → Checked Wanted
span_wanted ps = option_map_or (λ v. with_span (span_value (out-Value v))) (last_pair (codes "duration") ps) (Ok nothing)

abbrev pub wanted : HelperService → Pairs → Checked Wanted
wanted HelperService.TurnOn ps = Ok nothing
wanted HelperService.TurnOff ps = Ok nothing
wanted HelperService.Toggle ps = Ok nothing
wanted HelperService.Increment ps = Ok nothing
wanted HelperService.Decrement ps = Ok nothing
wanted HelperService.Reset ps = Ok nothing
wanted HelperService.SetValue ps = value_wanted ps
wanted HelperService.Start ps = span_wanted ps
wanted HelperService.Pause ps = Ok nothing
wanted HelperService.Cancel ps = Ok nothing
wanted HelperService.Finish ps = Ok nothing

abbrev pub is_within : Counter → ℤ → Bool
is_within c z = int_le c.least z && int_le z c.greatest

-- a value that is asked for is within the bounds of the counter
abbrev pub fits : Wanted → Known → Bool
fits w k = option_map_or (λ z. option_map_or (λ c. is_within c z) (counter_in k.helper.kind) true) w.value true

-- ---- what a service changes of one helper

-- held within bounds
abbrev pub held : ℤ → ℤ → ℤ → ℤ
held least greatest z = if int_lt z least then least else if int_lt greatest z then greatest else z

abbrev pub plain_change : Helper → Text → HelperChange
plain_change h text = record { entity = h.entity; text = text; span = None; event = None }

abbrev pub counted : Helper → ℤ → HelperChange
counted h z = plain_change h (print_number (Num.Whole z))

abbrev pub timed : Helper → Text → Option ℕ → Text → HelperChange
timed h text span event = record { entity = h.entity; text = text; span = span; event = Some event }

-- the number of a counter's text
abbrev pub number_in : Text → ℤ
number_in text = unwrap_or (option_and_then whole_in (read_number text)) (pos 0)

-- the number of a counter one step up, one step down, and as it was at the Boot
abbrev pub raised : HelperKind → Text → Option ℤ
raised kind text = option_map (λ c. held c.least c.greatest (number_in text +ℤ c.step)) (counter_in kind)

abbrev pub lowered : HelperKind → Text → Option ℤ
lowered kind text = option_map (λ c. held c.least c.greatest (number_in text -ℤ c.step)) (counter_in kind)

abbrev pub begun : HelperKind → Option ℤ
begun kind = option_map (λ c. c.initial) (counter_in kind)

-- by the text of the helper: a timer that is started without a span has its rest, where it is paused, else its own
abbrev pub span_started : Known → Text → ℕ → Wanted → ℕ
span_started k text own w = unwrap_or w.span (if same text (codes "paused") then unwrap_or (span_left k) own else own)

abbrev pub start_event : Text → Text
start_event text = if same text (codes "idle") then codes "timer.started" else codes "timer.restarted"

abbrev pub change_by : HelperService → Wanted → ℕ → Text → Known → Option HelperChange
change_by HelperService.TurnOn w now text k = Some (plain_change k.helper (on_or_off true))
change_by HelperService.TurnOff w now text k = Some (plain_change k.helper (on_or_off false))
change_by HelperService.Toggle w now text k = Some (plain_change k.helper (on_or_off (not (same text (codes "on")))))
change_by HelperService.Increment w now text k = option_map (counted k.helper) (raised k.helper.kind text)
change_by HelperService.Decrement w now text k = option_map (counted k.helper) (lowered k.helper.kind text)
change_by HelperService.Reset w now text k = option_map (counted k.helper) (begun k.helper.kind)
change_by HelperService.SetValue w now text k = option_map (counted k.helper) w.value
change_by HelperService.Start w now text k =
    option_map (λ own. timed k.helper (codes "active") (Some (span_started k text own w)) (start_event text)) (span_in k.helper.kind)
change_by HelperService.Pause w now text k =
    if same text (codes "active") then Some (timed k.helper (codes "paused") (Some (rest now k)) (codes "timer.paused")) else None
change_by HelperService.Cancel w now text k =
    if same text (codes "active") || same text (codes "paused") then Some (timed k.helper (codes "idle") None (codes "timer.cancelled")) else None
change_by HelperService.Finish w now text k =
    if same text (codes "active") then Some (timed k.helper (codes "idle") None (codes "timer.finished")) else None

module _ (sight : Sight) where
  abbrev pub text_seen : Known → Text
  text_seen k = option_map_or (λ o. o.text) (sight.states k.helper.entity) []

  abbrev pub change_seen : HelperService → Wanted → Known → Option HelperChange
  change_seen s w k = change_by s w sight.now (text_seen k) k

  abbrev pub change_at : HelperService → Wanted → ℕ → Option HelperChange
  change_at s w n = option_and_then (change_seen s w) (slice_get sight.helpers n)

  abbrev pub fits_at : Wanted → ℕ → Bool
  fits_at w n = option_map_or (fits w) (slice_get sight.helpers n) true

  abbrev pub changes_for : HelperService → List ℕ → Wanted → Checked (List HelperChange)
  changes_for s places w = if list_all (fits_at w) places then Ok (filter_map (change_at s w) places) else Err no_value

  -- the changes that a call of a service makes, or the code of its failure
  abbrev pub changes_made : HelperService → List EntityId → Pairs → Checked (List HelperChange)
  changes_made s targets ps = checked_then (changes_for s (places_meant sight.helpers s targets)) (wanted s ps)

-- the name is a service of helpers, and one is configured for which it is
abbrev pub is_of_helpers : Sight → Text → Bool
is_of_helpers sight service = option_map_or (is_configured sight.helpers) (service_named service) false
