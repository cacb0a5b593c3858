-- The home that a rehearsal makes up: its configuration, and its lines.
use Rattle.std.specs.Prelude.{ℕ, zero, suc, ◌+◌, ◌*◌, ◌%◌, ◌==◌, List, [], ◌∷◌, ◌++◌, map, codes, decimal, if◌then◌else◌}
use Rattle.std.specs.List.{concat}
use Rattle.ha_clock.specs.Print.{moment_text}

-- a text by its bytes
abbrev pub Text : Type 0
Text = List ℕ

-- ---- the configuration

-- each line ends by LF
abbrev pub as_lines : List Text → Text
as_lines lines = concat (map (λ line. line ++ 10 ∷ []) lines)

-- one automation that runs again at each number above 50 of one sensor, with a delay, and one that counts each report of the other
unfoldable pub config_text : Text
config_text = as_lines
    (codes "automation:"
    ∷ codes "  - alias: Even"
    ∷ codes "    triggers:"
    ∷ codes "      - trigger: numeric_state"
    ∷ codes "        entity_id: sensor.s0"
    ∷ codes "        above: 50"
    ∷ codes "    actions:"
    ∷ codes "      - action: fan.turn_on"
    ∷ codes "        target:"
    ∷ codes "          entity_id: fan.f0"
    ∷ codes "      - delay: 60"
    ∷ codes "      - action: fan.turn_off"
    ∷ codes "        target:"
    ∷ codes "          entity_id: fan.f0"
    ∷ codes "    mode: restart"
    ∷ codes "  - alias: Odd"
    ∷ codes "    triggers:"
    ∷ codes "      - trigger: state"
    ∷ codes "        entity_id: sensor.s1"
    ∷ codes "    actions:"
    ∷ codes "      - repeat:"
    ∷ codes "          count: 2"
    ∷ codes "          sequence:"
    ∷ codes "            - action: notify.log"
    ∷ codes "              data:"
    ∷ codes "                value: \"{{ trigger.to_state.state }}\""
    ∷ codes "    mode: queued"
    ∷ codes "    max: 3"
    ∷ [])

-- ---- the lines

-- the number after x, and the one at place i, from 1 at place 0
abbrev pub next_x : ℕ → ℕ
next_x x = (37 * x + 11) % 101

abbrev pub x_at : ℕ → ℕ
x_at zero = 1
x_at (suc i) = next_x (x_at i)

-- 2024-01-01T00:00:00Z, in milliseconds since 1970
abbrev pub start : ℕ
start = 1_704_067_200_000

abbrev pub moment_line : ℕ → Text
moment_line at = codes "{\"moment\":\"" ++ (moment_text at ++ codes "\"}")

abbrev pub report_line : ℕ → ℕ → Text
report_line sensor x = codes "{\"report\":\"sensor.s" ++ (decimal sensor ++ (codes "\",\"state\":\"" ++ (decimal x ++ codes "\"}")))

-- Line i, from 0, with the number that it reports: of five lines in a row the last is a moment, thirty seconds later for each line, and the
-- others are reports of the two sensors in turn.
abbrev pub line_text : ℕ → ℕ → Text
line_text i x = if i % 5 == 4 then moment_line (start + 30_000 * (i + 1)) else report_line (i % 2) x

abbrev pub line_at : ℕ → Text
line_at i = line_text i (x_at (suc i))

-- the first n lines
abbrev pub first_lines : ℕ → List Text
first_lines zero = []
first_lines (suc n) = first_lines n ++ line_at n ∷ []
