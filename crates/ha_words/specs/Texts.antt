-- The texts that `run` was given, and which of them may stand.
use Rattle.std.specs.Prelude.{ℕ, ◌≤◌, ◌==◌, ◌&&◌, Bool, true, not, List, [], ◌∷◌, length, Option}
use Rattle.std.specs.Prelude.{Some, None, if◌then◌else◌, unwrap_or, nat_le, codes}
use Rattle.std.specs.List.{list_all}
use Rattle.std.specs.Option.{option_map_or}
use Rattle.clap.specs.Words.{Row, Text, all_of, first_of, matches_of}
use Rattle.ha_words.specs.declared.texts.RunTexts.{RunTexts}
use Rattle.ha_words.specs.Grammar.{run_app, takes_words}

-- what stands at each place, as written
abbrev pub run_texts : List Row → RunTexts
run_texts rows = record {
  config = unwrap_or (first_of (codes "config") rows) [];
  start = unwrap_or (first_of (codes "start") rows) [];
  zone = first_of (codes "zone") rows;
  trace = first_of (codes "trace") rows;
  sources = unwrap_or (all_of (codes "source") rows) [];
}

-- a value begins with no hyphen
abbrev pub is_value : Text → Bool
is_value [] = true
is_value (b ∷ rest) = not (b == 45)

abbrev pub are_values : RunTexts → Bool
are_values t = is_value t.config && (is_value t.start && (option_map_or is_value t.zone true
    && (option_map_or is_value t.trace true && list_all is_value t.sources)))

-- how many sources `run` takes
abbrev pub most_sources : ℕ
most_sources = 16

abbrev pub has_few_sources : RunTexts → Bool
has_few_sources t = nat_le 1 (length t.sources) && nat_le (length t.sources) most_sources

-- the same of sources that were taken
pub record HasFew (sources : List Text) : Type 0 where
  pub some_source : 1 ≤ length sources
  pub few_sources : length sources ≤ most_sources

abbrev pub checked : RunTexts → Option RunTexts
checked t = if are_values t && has_few_sources t then Some t else None

-- the texts of the words after `run`
unfoldable pub texts_of : List Text → Option RunTexts
texts_of words = if takes_words run_app words then checked (run_texts (matches_of run_app words)) else None
