-- What a condition on states asks of one state.
use Rattle.std.specs.Prelude.{ℕ, Bool, false, ◌&&◌, List, Option}
use Rattle.std.specs.Option.{option_map_or}
use Rattle.ha_value.specs.declared.value.Num.{Num}
use Rattle.ha_sight.specs.declared.state.StateObject.{StateObject}
use Rattle.ha_config.specs.Words.{Text, one_of}
use Rattle.ha_config.specs.Numbers.{in_bounds}
use Rattle.ha_sight.specs.Sight.{Sight}
use Rattle.ha_sight.specs.Conditions.{long_enough, watched_number, watched_text}

-- there is a text, and it is listed
abbrev pub is_listed : List Text → Option Text → Bool
is_listed texts text = option_map_or (λ t. one_of t texts) text false

-- the watched text is listed, and the state's text has stood long enough
abbrev pub text_passes : Sight → Option Text → List Text → Option ℕ → StateObject → Bool
text_passes sight attribute texts hold s = is_listed texts (watched_text attribute s) && long_enough sight hold s

-- the watched number is in the bounds
abbrev pub number_passes : Option Text → Option Num → Option Num → StateObject → Bool
number_passes attribute above below s = option_map_or (in_bounds above below) (watched_number attribute s) false
