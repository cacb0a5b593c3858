-- What a place sees of a helper: its last change, and how long a timer that was changed so is active.
use Rattle.std.specs.Prelude.{ℕ, ◌+◌, ◌-◌, Option, None, option_map, option_and_then, codes, if◌then◌else◌}
use Rattle.std.specs.Option.{option_map_or}
use Rattle.ha_config.specs.declared.helper.Helper.{Helper}
use Rattle.ha_sight.specs.declared.helped.HelperChange.{HelperChange}
use Rattle.ha_config.specs.Words.{same}

-- a change, and Now after its place
pub record Changed : Type 0 where
  pub change : HelperChange
  pub at : ℕ

-- a helper, with its last change, if there is one
pub record Known : Type 0 where
  pub helper : Helper
  pub last : Option Changed

-- when a timer that was changed so is over: only an active one is ever
abbrev pub due_of : Changed → Option ℕ
due_of c = if same c.change.text (codes "active") then option_map (λ d. c.at + d) c.change.span else None

-- the span of the last change
abbrev pub span_left : Known → Option ℕ
span_left k = option_and_then (λ c. c.change.span) k.last

-- what is left at a moment of the span that began with the last change, and not under 0
abbrev pub rest : ℕ → Known → ℕ
rest now k = option_map_or (λ c. option_map_or (λ d. c.at + d - now) c.change.span 0) k.last 0
