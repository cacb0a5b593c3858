-- The pairs that a command is printed as.
use Rattle.std.proofs.Common.{◌≡◌, ℕ, ◌+◌, ◌/◌, ◌%◌, ◌<◌, Bool, true, false, cond, List, [], ◌∷◌, sym, ap, ◌∙◌, arith}
use Rattle.std.specs.Prelude.{codes, unsigned_abs, ◌++◌}
use Rattle.std.specs.Str.{IsAscii}
use Rattle.std.proofs.lemmas.Str.Ascii.{IsAscii-cons, IsAscii-nil}
use Rattle.ha_value.specs.declared.value.Value
use Rattle.ha_value.specs.declared.value.Value.{Value}
use Rattle.ha_value.specs.declared.value.Value.TheOpen.{Value-F}
use Rattle.ha_value.specs.declared.value.Value.TheVariants.{rolls-Flag, rolls-Text}
use Rattle.ha_value.specs.Ids.{entity_text}
use Rattle.ha_clock.specs.Print.{civil_text, day_on, digit, moment_text, months_on, year_on}
use Rattle.ha_config.specs.declared.command.Cmd.{Cmd}
use Rattle.ha_config.specs.Words.{Text, Pairs}
use Rattle.ha_config.specs.ValueText.{flag_text, map_text, print_pairs, print_value, quoted}
use Rattle.ha_config.specs.CommandText.{cmd_text, line_code}
use Rattle.ha_config.proofs.ValueRolls.{print_value-roll}
use Rattle.flow_line.proofs.Joined.{of_pairs}

abbrev pub turned_word : Bool → Text
turned_word on = cond on (codes "on") (codes "off")

abbrev pub pairs_of : Cmd → Pairs
pairs_of (Cmd.Report entity text attributes) =
    (codes "report", Value.Text (entity_text entity)) ∷ (codes "state", Value.Text text) ∷ (codes "attributes", Value.Pairs attributes) ∷ []
pairs_of (Cmd.Gone entity) = (codes "gone", Value.Text (entity_text entity)) ∷ []
pairs_of (Cmd.Event kind pairs) = (codes "event", Value.Text kind) ∷ (codes "data", Value.Pairs pairs) ∷ []
pairs_of (Cmd.Moment at) = (codes "moment", Value.Text (moment_text at)) ∷ []
pairs_of (Cmd.Switch name on stop) =
    (codes "switch", Value.Text (codes "automation." ++ name)) ∷ (codes "to", Value.Text (turned_word on)) ∷ (codes "stop_actions", Value.Flag stop) ∷ []
pairs_of (Cmd.Trigger name skip) = (codes "trigger", Value.Text (codes "automation." ++ name)) ∷ (codes "skip_condition", Value.Flag skip) ∷ []
pairs_of Cmd.Restart = (codes "restart", Value.Flag true) ∷ []
pairs_of (Cmd.Reload text config) = (codes "reload", Value.Text text) ∷ []
pairs_of (Cmd.Refused code) = (codes "refused", Value.Text (line_code code)) ∷ []
pairs_of Cmd.Lost = (codes "lost", Value.Flag true) ∷ []
pairs_of Cmd.TooLong = (codes "too_long", Value.Flag true) ∷ []

-- ---- how they are printed

text_shown : (t : Text) → print_value (Value.Text t) ≡ quoted t
text_shown t = ap print_value (sym (rolls-Text t)) ∙ print_value-roll (Value-F.Text t)

flag_shown : (b : Bool) → print_value (Value.Flag b) ≡ flag_text b
flag_shown b = ap print_value (sym (rolls-Flag b)) ∙ print_value-roll (Value-F.Flag b)

turned_shown : (on : Bool) → print_value (Value.Text (turned_word on)) ≡ cond on (quoted (codes "on")) (quoted (codes "off"))
turned_shown true = text_shown (codes "on")
turned_shown false = text_shown (codes "off")

one : (k x y : Text) → y ≡ x → map_text ((k, x) ∷ []) ≡ map_text ((k, y) ∷ [])
one k x y e = ap (λ (z : Text). map_text ((k, z) ∷ [])) (sym e)

two : (k l x y v w : Text) → y ≡ x → w ≡ v → map_text ((k, x) ∷ (l, v) ∷ []) ≡ map_text ((k, y) ∷ (l, w) ∷ [])
two k l x y v w e h = ap (λ (z : Text). map_text ((k, z) ∷ (l, v) ∷ [])) (sym e) ∙ ap (λ (z : Text). map_text ((k, y) ∷ (l, z) ∷ [])) (sym h)

three : (k l m x y v w s t : Text) → y ≡ x → w ≡ v → t ≡ s → map_text ((k, x) ∷ (l, v) ∷ (m, s) ∷ []) ≡ map_text ((k, y) ∷ (l, w) ∷ (m, t) ∷ [])
three k l m x y v w s t e h i =
    ap (λ (z : Text). map_text ((k, z) ∷ (l, v) ∷ (m, s) ∷ [])) (sym e) ∙ ap (λ (z : Text). map_text ((k, y) ∷ (l, z) ∷ (m, s) ∷ [])) (sym h)
    ∙ ap (λ (z : Text). map_text ((k, y) ∷ (l, w) ∷ (m, z) ∷ [])) (sym i)

pub shown_pairs : (c : Cmd) → cmd_text c ≡ print_pairs (pairs_of c)
shown_pairs (Cmd.Report entity text attributes) =
    three (codes "report") (codes "state") (codes "attributes") _ _ _ _ _ _ (text_shown (entity_text entity)) (text_shown text) (of_pairs attributes)
shown_pairs (Cmd.Gone entity) = one (codes "gone") _ _ (text_shown (entity_text entity))
shown_pairs (Cmd.Event kind pairs) = two (codes "event") (codes "data") _ _ _ _ (text_shown kind) (of_pairs pairs)
shown_pairs (Cmd.Moment at) = one (codes "moment") _ _ (text_shown (moment_text at))
shown_pairs (Cmd.Switch name on stop) =
    three (codes "switch") (codes "to") (codes "stop_actions") _ _ _ _ _ _ (text_shown (codes "automation." ++ name)) (turned_shown on) (flag_shown stop)
shown_pairs (Cmd.Trigger name skip) = two (codes "trigger") (codes "skip_condition") _ _ _ _ (text_shown (codes "automation." ++ name)) (flag_shown skip)
shown_pairs Cmd.Restart = one (codes "restart") _ _ (flag_shown true)
shown_pairs (Cmd.Reload text config) = one (codes "reload") _ _ (text_shown text)
shown_pairs (Cmd.Refused code) = one (codes "refused") _ _ (text_shown (line_code code))
shown_pairs Cmd.Lost = one (codes "lost") _ _ (flag_shown true)
shown_pairs Cmd.TooLong = one (codes "too_long") _ _ (flag_shown true)

-- ---- a moment's text is ASCII

abbrev AllLow : List ℕ → Type 0
AllLow [] = Unit {0}
AllLow (b ∷ bs) = (b < 128) × AllLow bs

all_ascii : (bs : List ℕ) → AllLow bs → IsAscii bs
all_ascii [] h = IsAscii-nil
all_ascii (b ∷ bs) h = IsAscii-cons b bs h.0 (all_ascii bs h.1)

low : (n : ℕ) → digit n < 128
low n = omega arith

civil_ascii : (y m d t : ℕ) → IsAscii (civil_text y m d t)
civil_ascii y m d t = all_ascii (civil_text y m d t) (
  low (y / 1000),
  (
    low (y / 100),
    (
      low (y / 10),
      (
        low y,
        (
          omega arith,
          (
            low (m / 10),
            (
              low m,
              (
                omega arith,
                (
                  low (d / 10),
                  (
                    low d,
                    (
                      omega arith,
                      (
                        low (t / 36_000_000),
                        (
                          low (t / 3_600_000),
                          (
                            omega arith,
                            (
                              low (t / 60_000 % 60 / 10),
                              (
                                low (t / 60_000 % 60),
                                (
                                  omega arith,
                                  (low (t / 1000 % 60 / 10), (low (t / 1000 % 60), (omega arith, (low (t / 100), (low (t / 10), (low t, (omega arith, tt))))))),
                                ),
                              ),
                            ),
                          ),
                        ),
                      ),
                    ),
                  ),
                ),
              ),
            ),
          ),
        ),
      ),
    ),
  ),
)

pub moment_ascii : (at : ℕ) → IsAscii (moment_text at)
unfolding moment_text
moment_ascii at = civil_ascii (unsigned_abs (year_on (at / 86_400_000))) (months_on (at / 86_400_000) + 1) (day_on (at / 86_400_000)) (at % 86_400_000)
