-- What the words of the program ask for, or that they ask for nothing that it does.
use Rattle.std.specs.Prelude.{ℕ, ◌≤◌, List, [], ◌∷◌, Option, Some, None, IsSome, IsUtf8, is_some}
use Rattle.std.specs.Prelude.{option_map, option_and_then, unwrap_or, codes, if◌then◌else◌}
use Rattle.std.specs.Str.{bytes_eq}
use Rattle.clap.specs.Words.{Text, first_of, matches_of}
use Rattle.ha_clock.specs.Local.{last_moment}
use Rattle.ha_clock.specs.MomentText.{moment_of}
use Rattle.ha_clock.specs.Zone.{zone_of}
use Rattle.ha_words.specs.declared.texts.RunTexts.{RunTexts}
use Rattle.ha_words.specs.declared.plan.RunWords.{RunWords}
use Rattle.ha_words.specs.declared.plan.Plan.{Plan}
use Rattle.ha_words.specs.declared.plan.Plan.TheVariants.{Run, Check, Replay, Rehearse}
use Rattle.ha_words.specs.Counts.{count_of, most_lines}
use Rattle.ha_words.specs.Grammar.{one_word_app, takes_words}
use Rattle.ha_words.specs.Texts.{HasFew, is_value, texts_of}

-- the zone is UTC where none is given
abbrev pub zone_text : RunTexts → Text
zone_text t = unwrap_or t.zone (codes "UTC")

-- the start is a moment, and the zone is one
abbrev pub run_at : RunTexts → ℕ → Option RunWords
run_at t start =
    if is_some (zone_of (zone_text t))
    then Some (record { config = t.config; start = start; zone = zone_text t; trace = t.trace; sources = t.sources }) else None

abbrev pub run_read : RunTexts → Option RunWords
run_read t = option_and_then (run_at t) (moment_of t.start)

abbrev pub run_of : List Text → Option RunWords
run_of words = option_and_then run_read (texts_of words)

-- the one word of a command
abbrev pub value_or_none : Option Text → Option Text
value_or_none o = option_and_then (λ w. if is_value w then Some w else None) o

unfoldable pub one_word : Text → List Text → Option Text
one_word name words = if takes_words (one_word_app name) words
    then value_or_none (first_of (codes "word") (matches_of (one_word_app name) words)) else None

-- the one word of a command, which is a number of lines
abbrev pub one_count : Text → List Text → Option ℕ
one_count name words = option_and_then count_of (one_word name words)

-- the words after the command of this name
abbrev pub plan_by : Text → List Text → Option Plan
plan_by name words =
    if bytes_eq name (codes "run") then option_map (λ w. Run w) (run_of words)
    else (if bytes_eq name (codes "check") then option_map (λ w. Check w) (one_word (codes "check") words)
    else (if bytes_eq name (codes "replay") then option_map (λ w. Replay w) (one_word (codes "replay") words)
    else (if bytes_eq name (codes "rehearse") then option_map (λ n. Rehearse n) (one_count (codes "rehearse") words)
    else None)))

-- the first word names the command
unfoldable pub plan_of : List Text → Option Plan
plan_of [] = None
plan_of (name ∷ words) = plan_by name words

-- what every plan of `run` has: so many sources as it takes, a start that is no later than the last moment, and a zone, whose
-- text is UTF-8
pub record IsRunnable (words : RunWords) : Type 0 where
  pub few : HasFew words.sources
  pub in_time : words.start ≤ last_moment
  pub zoned : IsSome (zone_of words.zone)
  pub zone_is_text : IsUtf8 words.zone

abbrev pub IsSound : Plan → Type 0
IsSound (Run words) = IsRunnable words
IsSound (Check name) = Unit {0}
IsSound (Replay name) = Unit {0}
IsSound (Rehearse lines) = lines ≤ most_lines
