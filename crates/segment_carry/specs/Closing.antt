-- What stands for a journal whose last segment closes.
use Rattle.std.specs.Prelude.{◌≡◌, Bool, ◌+◌, ◌<◌, ◌≤◌, ◌^◌, ℕ, List, None, count_by, length, map, Option, option_map, slice_get, slice_index_or, unwrap_or}
use Rattle.ha_config.specs.declared.config.Automation.{Automation}
use Rattle.ha_config.specs.declared.config.Config.{Config}
use Rattle.ha_config.specs.Names.{names_of}
use Rattle.ha_config.specs.Words.{Text}
use Rattle.ha_journal.specs.Force.{IsAlike}
use Rattle.ha_journal.specs.declared.carry.Carry.{Carry}
use Rattle.ha_journal.specs.declared.entry.Entry.{Entry}
use Rattle.ha_journal.specs.declared.entry.Entry.TheVariants.{Again}
use Rattle.ha_journal.specs.Journal.{Journal, automations, configured, now, units}
use Rattle.ha_model.specs.Records as one
use Rattle.ha_model.specs.Records.{has_name}
use Rattle.ha_sight.specs.Sight.{Automations}
use Rattle.ha_whole.specs.Lasts.{last_triggered}
use Rattle.ha_whole.specs.Segments as whole
use Rattle.ha_whole.specs.Segments.{carried_number, segment, segments}
use Rattle.ha_whole.specs.Whole.{AreEntries, records_of}
use Rattle.segment_runs.specs.Segment.{SegmentTable, all_of}
use Rattle.switch_book.specs.Book.{StandsFor}
use Rattle.segment_carry.specs.ByName.{by_name, listed, numbers_with}
use Rattle.segment_carry.specs.Sources.{lines_with, shut_with}

-- the number of the last run of a name, over all segments, and 0 where it had none
abbrev pub last_number : Journal → Text → ℕ
last_number s name = carried_number s name + count_by (has_name s name) (one.records_of s)

-- the front, the number of segments, the present moment, the configuration in force, the table of runs, the names of all units of the
-- segment and their last numbers, the switches, and the moments at which the automations in force last triggered stand for the journal
pub record Closes (k : Journal) (front count at : ℕ) (config : Config) (runs : SegmentTable) (names : List Text) (last : List ℕ) (switches : Automations) (lasts : List (Option ℕ)) : Type 0 where
  pub entries : AreEntries k
  pub small : length k < 2 ^ 56
  pub config_is : IsAlike config (configured (segment k))
  pub few : length config.automations ≤ 1_024
  pub front_is : front ≡ whole.front k
  pub count_is : count ≡ length (segments k)
  pub at_is : at ≡ now (segment k)
  pub runs_are : length (all_of runs.closed runs.list) ≡ length (records_of k)
  pub names_are : names ≡ names_of (units (segment k))
  pub last_are : last ≡ map (last_number (segment k)) names
  pub switches_are : StandsFor switches (segment k)
  pub lasts_are : lasts ≡ map {A = Automation} {B = Option ℕ} (λ x. last_triggered (segment k) x.name) (automations (segment k))

-- ---- what is made of these

-- what stands at a place, else 0
abbrev pub number_in : List ℕ → ℕ → ℕ
number_in numbers a = slice_index_or numbers a 0

-- the switch at a place
abbrev pub flag_in : Automations → ℕ → Option Bool
flag_in switches a = option_map (λ p. p.2) (slice_get switches a)

-- what the next segment takes over: of all units by their names, and of the automations in force by theirs in this order, by what the
-- closed one took over, its entries behind its opening, how many runs there are, the last numbers of the units, and the moments at which
-- the automations last triggered
abbrev pub carry_made : List Text → List Text → List ℕ → Carry → List Entry → ℕ → List ℕ → List (Option ℕ) → Carry
carry_made names rules by_rule before entries serials last lasts = record {
  serials = serials;
  numbers = numbers_with (number_in last) 0 names before.numbers;
  lines = lines_with before.lines entries;
  shut = shut_with before.shut entries;
  last = listed rules (λ a. unwrap_or (slice_get lasts a) None) by_rule;
}

abbrev pub again_made : List Text → List Text → Carry → List Entry → ℕ → ℕ → ℕ → List ℕ → Automations → List (Option ℕ) → Entry
again_made names rules before entries number at serials last switches lasts =
    Again number at (listed rules (flag_in switches) (by_name rules)) (carry_made names rules (by_name rules) before entries serials last lasts)
