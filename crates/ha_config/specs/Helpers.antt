-- Helpers as a configuration has them: which one an id names, what each kind has, and the texts that they begin with.
use Rattle.std.specs.Prelude.{ℕ, ℤ, Bool, List, Option, Some, None, find, is_some, codes, if◌then◌else◌}
use Rattle.ha_value.specs.declared.value.EntityId.{EntityId}
use Rattle.ha_value.specs.declared.value.Num.{Num}
use Rattle.ha_config.specs.declared.helper.Helper.{Helper}
use Rattle.ha_config.specs.declared.helper.HelperKind.{HelperKind}
use Rattle.ha_config.specs.Words.{Text, same_entity}
use Rattle.ha_config.specs.Numbers.{print_number}

abbrev pub helper_named : List Helper → EntityId → Option Helper
helper_named all e = find (λ h. same_entity h.entity e) all

abbrev pub is_helper : List Helper → EntityId → Bool
is_helper all e = is_some (helper_named all e)

-- ---- what each kind has

-- a flag's first value
abbrev pub flag_in : HelperKind → Option Bool
flag_in (HelperKind.Flag initial) = Some initial
flag_in (HelperKind.Counter initial step least greatest) = None
flag_in (HelperKind.Timer span) = None

-- the numbers of a counter
pub record Counter : Type 0 where
  pub initial : ℤ
  pub step : ℤ
  pub least : ℤ
  pub greatest : ℤ

abbrev pub counter_in : HelperKind → Option Counter
counter_in (HelperKind.Flag initial) = None
counter_in (HelperKind.Counter initial step least greatest) =
    Some (record { initial = initial; step = step; least = least; greatest = greatest })
counter_in (HelperKind.Timer span) = None

-- how long a timer is active where a call doesn't say
abbrev pub span_in : HelperKind → Option ℕ
span_in (HelperKind.Flag initial) = None
span_in (HelperKind.Counter initial step least greatest) = None
span_in (HelperKind.Timer span) = Some span

-- ---- the texts that they begin with

abbrev pub on_or_off : Bool → Text
on_or_off on = if on then codes "on" else codes "off"

-- the text of a helper where its segment begins: a flag is on or off, a counter a number, and a timer idle
abbrev pub first_text : HelperKind → Text
first_text (HelperKind.Flag initial) = on_or_off initial
first_text (HelperKind.Counter initial step least greatest) = print_number (Num.Whole initial)
first_text (HelperKind.Timer span) = codes "idle"
