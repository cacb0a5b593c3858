-- The text of the store, `{"last":{name:moment, ..},"switches":{name:flag, ..},"version":2}`, as a text is read; and that of version 1,
-- `{"switches":{name:flag, ..},"version":1}`, which is read as one without moments.
use Rattle.std.specs.Prelude.{◌≡◌, ℕ, ◌==◌, nat_le, Bool, true, false, List, [], ◌∷◌, Option, Some, None, Result, Ok}
use Rattle.std.specs.Prelude.{Err, is_some, map, option_map, option_and_then, codes, if◌then◌else◌}
use Rattle.std.specs.List.{list_all}
use Rattle.std.specs.Str.{is_utf8}
use Rattle.serde_json.specs.Data.{Data, boolean, number, object, string, Members, no_members, member, Num, unsigned, negative, float, put}
use Rattle.serde_json.specs.Events.{members_len}
use Rattle.serde_json.specs.Find.{as_bool, as_integer, as_number, as_object, as_str, get_member}
use Rattle.serde_json.specs.Read.{read}
use Rattle.ha_clock.specs.Local.{last_moment}
use Rattle.ha_clock.specs.MomentText.{moment_of}
use Rattle.ha_clock.specs.Print.{moment_text}
use Rattle.ha_value.specs.Ids.{is_name}
use Rattle.ha_config.specs.Words.{Text}
use Rattle.ha_config.specs.Sound.{are_in_name_order}
use Rattle.ha_config.specs.ValueFacts.{all_distinct, keys_of}
use Rattle.store_text.specs.declared.stored.Stored.{Stored}

-- names with their switches, and with moments
abbrev pub Switches : Type 0
Switches = List (Text × Bool)

-- the same, each with its automation's number
abbrev pub Numbered : Type 0
Numbered = List (ℕ × Text × Bool)

abbrev pub by_names : Numbered → Switches
by_names s = map {A = ℕ × Text × Bool} {B = Text × Bool} (λ p. (p.1, p.2)) s

abbrev pub Moments : Type 0
Moments = List (Text × ℕ)

-- ---- reading

-- the members, where each value is of this form
abbrev pub values_of : {X : Type 0} → (Data → Option X) → Members → Option (List (Text × X))
values_of form no_members = Some []
values_of form (member k d ms) = option_and_then (λ x. option_map (λ rest. (k, x) ∷ rest) (values_of form ms)) (form d)

-- the moment whose text a value is
abbrev pub as_moment : Data → Option ℕ
as_moment d = option_and_then moment_of (as_str d)

abbrev pub flags_of : Members → Option Switches
flags_of ms = values_of as_bool ms

abbrev pub moments_of : Members → Option Moments
moments_of ms = values_of as_moment ms

abbrev pub object_under : Text → Members → Option Members
object_under key ms = option_and_then as_object (get_member key ms)

-- what is kept, where both are of this form
abbrev pub both_of : Option Switches → Option Moments → Result Stored ℕ
both_of None moments = Err 2
both_of (Some switches) None = Err 2
both_of (Some switches) (Some moments) = Ok (record { switches = switches; last = moments })

-- what an object has under `switches`, an object of flags; beside it the version alone
abbrev pub of_version_one : Members → Result Stored ℕ
of_version_one ms = if members_len ms == 2 then both_of (option_and_then flags_of (object_under (codes "switches") ms)) (Some []) else Err 2

-- and under `last`, an object of moments; beside these the version alone
abbrev pub of_version_two : Members → Result Stored ℕ
of_version_two ms =
    if members_len ms == 3
    then both_of (option_and_then flags_of (object_under (codes "switches") ms)) (option_and_then moments_of (object_under (codes "last") ms))
    else Err 2

abbrev pub is_version : ℕ → Num → Bool
is_version v (unsigned n) = n == v
is_version v (negative z) = false
is_version v (float x) = false

-- the version is a whole number, and then it is 1 or 2
abbrev pub by_version : Option Num → Members → Result Stored ℕ
by_version None ms = Err 2
by_version (Some n) ms =
    if is_some (as_integer n)
    then (if is_version 1 n then of_version_one ms else if is_version 2 n then of_version_two ms else Err 3)
    else Err 2

abbrev pub of_object : Option Members → Result Stored ℕ
of_object None = Err 2
of_object (Some ms) = by_version (option_and_then as_number (get_member (codes "version") ms)) ms

abbrev pub of_data : Option Data → Result Stored ℕ
of_data None = Err 1
of_data (Some d) = of_object (as_object d)

-- what a store text keeps, or the code of its refusal: 1 where it is no JSON; else 2 where it is no object with a whole version; else 3 where
-- that is neither 1 nor 2; else 2 where it is not of its version's form
unfoldable pub stored_in : Text → Result Stored ℕ
stored_in text = if is_utf8 text then of_data (read text) else Err 1

-- ---- writing

-- switches that are written: their names are object ids, each once
pub record AreStorable (s : Switches) : Type 0 where
  pub distinct : all_distinct (keys_of s) ≡ true
  pub ids : list_all is_name (keys_of s) ≡ true

-- moments that are written: their names are object ids, in byte order, each once, and none is past the last one that has a text
pub record AreMoments (ms : Moments) : Type 0 where
  pub ordered : are_in_name_order ms ≡ true
  pub ids : list_all is_name (keys_of ms) ≡ true
  pub in_time : list_all (λ p. nat_le p.1 last_moment) ms ≡ true

-- pairs put into an object, the last one first
abbrev pub put_each : {X : Type 0} → (X → Data) → List (Text × X) → Members
put_each data_of [] = no_members
put_each data_of (p ∷ ps) = put p.0 (data_of p.1) (put_each data_of ps)

abbrev pub put_all : Switches → Members
put_all s = put_each boolean s

abbrev pub moment_data : ℕ → Data
moment_data at = string (moment_text at)

abbrev pub put_moments : Moments → Members
put_moments ms = put_each moment_data ms

-- the value that is written
abbrev pub store_data : Switches → Moments → Data
store_data s ms =
    object (member (codes "last") (object (put_moments ms)) (member (codes "switches") (object (put_all s))
    (member (codes "version") (number (unsigned 2)) no_members)))
