-- The first line of a trace.
use Rattle.std.specs.Prelude.{ℕ, ◌≡◌, ◌≤◌, nat_le, Bool, true, List, [], ◌∷◌, Option, None, Some}
use Rattle.std.specs.Prelude.{IsSome, Result, Ok, Err, option_map, option_and_then, codes}
use Rattle.std.specs.List.{list_all}
use Rattle.std.specs.Option.{option_map_or}
use Rattle.std.specs.Str.{is_utf8}
use Rattle.ha_value.specs.declared.value.Value.{Value}
use Rattle.ha_value.specs.declared.value.Value.TheOpen.{Value-F}
use Rattle.ha_value.specs.declared.value.Value.TheViews.{out-Value}
use Rattle.ha_clock.specs.Local.{last_moment}
use Rattle.ha_clock.specs.MomentText.{moment_of}
use Rattle.ha_clock.specs.Zone.{zone_of}
use Rattle.ha_config.specs.declared.config.Config.{Config}
use Rattle.ha_journal.specs.declared.entry.Entry.{Entry}
use Rattle.ha_config.specs.Sound.{are_in_name_order}
use Rattle.ha_config.specs.Words.{Pairs, Text, first_pair}
use Rattle.ha_config.specs.CheckText.{as_line}
use Rattle.ha_config.specs.Names.{names_of}
use Rattle.ha_config.specs.Units.{units_of}
use Rattle.ha_journal.specs.Entries.{first_carry}
use Rattle.ha_journal.specs.EntryText.{trace_line}
use Rattle.ha_replay.specs.declared.boot.BootLine.{BootLine}
use Rattle.ha_replay.specs.declared.boot.Parts.{Parts}
use Rattle.ha_replay.specs.declared.fault.TraceFault.{TraceFault}

abbrev pub Switches : Type 0
Switches = List (Text × Bool)

abbrev pub Moments : Type 0
Moments = List (Text × ℕ)

-- the names stand in byte order, each once
abbrev pub are_stored : Option Switches → Bool
are_stored stored = option_map_or are_in_name_order stored true

abbrev pub have_utf8_names : Option Switches → Bool
have_utf8_names stored = option_map_or (list_all (λ p. is_utf8 p.0)) stored true

-- no moment is past the last one
abbrev pub are_in_time : Moments → Bool
are_in_time last = list_all (λ p. nat_le p.1 last_moment) last

-- the line, with its LF, is that of a Boot with these parts, whatever its configuration
abbrev pub IsLineOf : Text → Text → Option Switches → ℕ → Text → Moments → Type 0
IsLineOf line text stored start zone last =
    (config : Config) → as_line line ≡ trace_line (names_of (units_of config)) (Entry.Boot text config stored start zone (first_carry last))

-- the line is the first of a trace with these parts: the moments and the zone are read, and the names of switches and of moments stand in
-- order, each once
pub record IsBootLine (line : Text) (b : BootLine) : Type 0 where
  pub line_is : IsLineOf line b.text b.stored b.start b.zone b.last
  pub start : b.start ≤ last_moment
  pub zone : IsSome (zone_of b.zone)
  pub ordered : are_stored b.stored ≡ true
  pub last_ordered : are_in_name_order b.last ≡ true
  pub last_in_time : are_in_time b.last ≡ true

-- its texts are UTF-8, as each `Word` is
pub record HasUtf8 (b : BootLine) : Type 0 where
  pub text : is_utf8 b.text ≡ true
  pub names : have_utf8_names b.stored ≡ true
  pub zone : is_utf8 b.zone ≡ true
  pub last_names : list_all (λ p. is_utf8 p.0) b.last ≡ true

-- a line that is read is such, and one is refused exactly where it is none
abbrev pub Reads : Text → Result BootLine TraceFault → Type 0
Reads line (Ok b) = IsBootLine line b
Reads line (Err TraceFault.Refused) = (b : BootLine) → IsBootLine line b → HasUtf8 b → ⊥
Reads line (Err TraceFault.Full) = ⊥
Reads line (Err TraceFault.Memory) = Unit {0}

-- ---- the parts that a value names

abbrev pub pairs_of : Value-F Value → Pairs
pairs_of (Value-F.Pairs ps) = ps
pairs_of _ = []

abbrev pub text_of : Value-F Value → Option Text
text_of (Value-F.Text t) = Some t
text_of _ = None

abbrev pub flag_of : Value-F Value → Option Bool
flag_of (Value-F.Flag b) = Some b
flag_of _ = None

abbrev pub under : Text → Value → Option Value
under key v = first_pair key (pairs_of (out-Value v))

abbrev pub text_under : Text → Value → Option Text
text_under key v = option_and_then (λ w. text_of (out-Value w)) (under key v)

abbrev pub moment_under : Text → Value → Option ℕ
moment_under key v = option_and_then moment_of (text_under key v)

-- switches by their names, where each value is a flag
abbrev pub switches_of : Pairs → Option Switches
switches_of [] = Some []
switches_of (p ∷ ps) = option_and_then (λ b. option_map (λ rest. (p.0, b) ∷ rest) (switches_of ps)) (flag_of (out-Value p.1))

abbrev pub stored_of : Value-F Value → Option (Option Switches)
stored_of Value-F.Null = Some None
stored_of (Value-F.Pairs ps) = option_map Some (switches_of ps)
stored_of _ = None

abbrev pub stored_under : Text → Value → Option (Option Switches)
stored_under key v = option_and_then (λ w. stored_of (out-Value w)) (under key v)

-- moments by their names, where each value is the text of one
abbrev pub moments_of : Pairs → Option Moments
moments_of [] = Some []
moments_of (p ∷ ps) =
    option_and_then (λ at. option_map (λ rest. (p.0, at) ∷ rest) (moments_of ps)) (option_and_then moment_of (text_of (out-Value p.1)))

abbrev pub last_of : Value-F Value → Option Moments
last_of (Value-F.Pairs ps) = moments_of ps
last_of _ = None

-- those under a key, which may be missing
abbrev pub last_in : Option Value → Option Moments
last_in None = Some []
last_in (Some v) = last_of (out-Value v)

abbrev pub last_under : Text → Value → Option Moments
last_under key v = last_in (under key v)

abbrev pub parts : Text → Option Switches → ℕ → Text → Moments → Parts
parts text stored start zone last = record { text = text; stored = stored; start = start; zone = zone; last = last }

unfoldable pub parts_in : Value → Option Parts
parts_in v =
    option_and_then (λ boot.
    option_and_then (λ text.
    option_and_then (λ start.
    option_and_then (λ zone.
    option_and_then (λ stored.
    option_map (λ last. parts text stored start zone last) (last_under (codes "last") boot))
    (stored_under (codes "stored") boot))
    (text_under (codes "zone") boot))
    (moment_under (codes "start") boot))
    (text_under (codes "config") boot))
    (under (codes "boot") v)

-- the first entry with these parts, and with no unit
abbrev pub boot_of : Parts → Entry
boot_of p = Entry.Boot p.text (record { automations = []; scripts = []; helpers = [] }) p.stored p.start p.zone (first_carry p.last)

-- the parts, with the zone that is read
abbrev pub IsOf : Parts → BootLine → Type 0
IsOf p b = (p.text ≡ b.text) × (p.stored ≡ b.stored) × (p.start ≡ b.start) × (p.zone ≡ b.zone) × (p.last ≡ b.last)

abbrev pub ReadsZone : Parts → Result BootLine TraceFault → Type 0
ReadsZone p (Ok b) = IsOf p b × IsSome (zone_of p.zone)
ReadsZone p (Err TraceFault.Refused) = IsSome (zone_of p.zone) → ⊥
ReadsZone p (Err TraceFault.Full) = ⊥
ReadsZone p (Err TraceFault.Memory) = Unit {0}

-- the parts are those of the line
pub record ArePartsOf (line : Text) (p : Parts) : Type 0 where
  pub line_is : as_line line ≡ trace_line [] (boot_of p)
  pub start : p.start ≤ last_moment
  pub zone : IsSome (zone_of p.zone)
  pub ordered : are_stored p.stored ≡ true
  pub last_ordered : are_in_name_order p.last ≡ true
  pub last_in_time : are_in_time p.last ≡ true

-- what is read of the parts that were found
abbrev pub ReadsFrom : Option Parts → Text → Result BootLine TraceFault → Type 0
ReadsFrom found line (Ok b) = (p : Parts) × (found ≡ Some p) × ArePartsOf line p × IsOf p b
ReadsFrom found line (Err TraceFault.Refused) = (p : Parts) → found ≡ Some p → ArePartsOf line p → ⊥
ReadsFrom found line (Err TraceFault.Full) = ⊥
ReadsFrom found line (Err TraceFault.Memory) = Unit {0}
