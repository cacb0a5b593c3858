-- Conditions.
use Rattle.std.specs.Prelude.{ℕ, ◌+◌, Bool, true, false, not, ◌&&◌, ◌||◌, nat_eq, nat_le, nat_lt, List, [], ◌∷◌, Option, Some, None, option_and_then, codes, if◌then◌else◌}
use Rattle.std.specs.List.{list_all, list_any}
use Rattle.std.specs.Option.{option_map_or}
use Rattle.ha_value.specs.declared.value.Value.{Value}
use Rattle.ha_value.specs.declared.value.Value.TheOpen.{Value-F}
use Rattle.ha_value.specs.declared.value.Value.TheViews.{out-Value}
use Rattle.ha_value.specs.declared.value.Num.{Num}
use Rattle.ha_sight.specs.declared.state.StateObject.{StateObject}
use Rattle.ha_config.specs.declared.config.Condition.{Condition}
use Rattle.ha_config.specs.declared.config.Condition.TheOpen.{Condition-F}
use Rattle.ha_config.specs.declared.config.Condition.TheFolds.{fold-Condition}
use Rattle.ha_clock.specs.Local.{second_of_day, weekday_at}
use Rattle.ha_config.specs.Words.{Text, Pairs, first_pair, one_of}
use Rattle.ha_config.specs.Numbers.{read_number, print_number, in_bounds}
use Rattle.ha_sight.specs.Sight.{Sight}
use Rattle.ha_sight.specs.Values.{text_in, field_of}
use Rattle.ha_sight.specs.Templates.{rendered, is_true_text}

-- the text of an attribute: a text itself, a number as printed, `true` or `false`; a list, map or null has none
abbrev pub attribute_kind_text : Value-F Value → Option Text
attribute_kind_text (Value-F.Flag b) = Some (if b then codes "true" else codes "false")
attribute_kind_text (Value-F.Number n) = Some (print_number n)
attribute_kind_text (Value-F.Text t) = Some t
attribute_kind_text Value-F.Null = None
attribute_kind_text (Value-F.Items vs) = None
attribute_kind_text (Value-F.Pairs ps) = None

abbrev pub attribute_text : Value → Option Text
attribute_text v = attribute_kind_text (out-Value v)

-- the text that a rule watches in a state: the state's own, or that of the named attribute
abbrev pub text_watched : Option Text → Text → Pairs → Option Text
text_watched None text attributes = Some text
text_watched (Some name) text attributes = option_and_then attribute_text (first_pair name attributes)

-- the number that it watches, in a state and in a Report alike
abbrev pub number_watched : Option Text → Text → Pairs → Option Num
number_watched name text attributes = option_and_then read_number (text_watched name text attributes)

abbrev pub watched_text : Option Text → StateObject → Option Text
watched_text name s = text_watched name s.text s.attributes

abbrev pub watched_number : Option Text → StateObject → Option Num
watched_number name s = number_watched name s.text s.attributes

-- from `after` on and before `before`, in local seconds of the day; round midnight where `after` is not the earlier
abbrev pub in_window : Option ℕ → Option ℕ → ℕ → Bool
in_window None None t = true
in_window (Some a) None t = nat_le a t
in_window None (Some b) t = nat_lt t b
in_window (Some a) (Some b) t = if nat_lt a b then nat_le a t && nat_lt t b else nat_le a t || nat_lt t b

module _ (sight : Sight) where
  -- a condition's flag in an environment
  abbrev pub Test : Type 0
  Test = Pairs → Bool

  abbrev pub all_are_true : List Test → Test
  all_are_true [] env = true
  all_are_true (t ∷ ts) env = t env && all_are_true ts env

  abbrev pub one_is_true : List Test → Test
  one_is_true [] env = false
  one_is_true (t ∷ ts) env = t env || one_is_true ts env

  -- the id in the first pair of the environment, which is the run's own trigger; what is no text is no id
  abbrev pub own_id : Pairs → Option Text
  own_id [] = None
  own_id (p ∷ ps) = text_in (out-Value (field_of p.1 (codes "id")))

  abbrev pub long_enough : Option ℕ → StateObject → Bool
  long_enough None s = true
  long_enough (Some d) s = nat_le (s.changed + d) sight.now

  -- the watched text is there, one of the texts, and has been for as long
  abbrev pub text_fits : Option Text → List Text → Option ℕ → StateObject → Bool
  text_fits attribute texts hold s = option_map_or (λ t. one_of t texts) (watched_text attribute s) false && long_enough hold s

  -- the watched number is there, and within the bounds
  abbrev pub number_fits : Option Text → Option Num → Option Num → StateObject → Bool
  number_fits attribute above below s = option_map_or (in_bounds above below) (watched_number attribute s) false

  abbrev pub condition_step : Condition-F Test → Test
  condition_step (Condition-F.And ts) env = all_are_true ts env
  condition_step (Condition-F.Or ts) env = one_is_true ts env
  condition_step (Condition-F.Not ts) env = not (one_is_true ts env)
  condition_step (Condition-F.State entities attribute texts hold) env =
      list_all (λ e. option_map_or (λ s. text_fits attribute texts hold s) (sight.states e) false) entities
  condition_step (Condition-F.Numeric entities attribute above below) env =
      list_all (λ e. option_map_or (λ s. number_fits attribute above below s) (sight.states e) false) entities
  condition_step (Condition-F.Template t) env = is_true_text (rendered sight t env)
  condition_step (Condition-F.Time after before weekdays) env =
      in_window after before (second_of_day sight.zone sight.now)
      && option_map_or (list_any (nat_eq (weekday_at sight.zone sight.now))) weekdays true
  condition_step (Condition-F.Trigger ids) env = option_map_or (λ t. one_of t ids) (own_id env) false

  abbrev pub holds : Condition → Test
  holds = fold-Condition Test condition_step

  abbrev pub hold_all : List Condition → Test
  hold_all cs env = list_all (λ c. holds c env) cs
