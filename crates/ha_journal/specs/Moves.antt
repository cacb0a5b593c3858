-- What moves a trigger at an entry.
use Rattle.std.specs.Prelude.{ℕ, suc, Bool, false, not, ◌&&◌, [], Option, Some, None, take, slice_get, is_some, is_none, filter_map, if◌then◌else◌}
use Rattle.std.specs.List.{list_all}
use Rattle.std.specs.Option.{option_map_or}
use Rattle.ha_value.specs.declared.value.EntityId.{EntityId}
use Rattle.ha_value.specs.declared.value.Num.{Num}
use Rattle.ha_config.specs.declared.config.Trigger.{Trigger}
use Rattle.ha_config.specs.declared.config.TriggerRule.{TriggerRule}
use Rattle.ha_journal.specs.declared.entry.Entry.{Entry}
use Rattle.ha_journal.specs.Entries.{Reported, texts_in, is_boot, is_moment, opens_segment}
use Rattle.ha_config.specs.Words.{Text, same_entity, longest_end, last_of, first_of_list, one_of}
use Rattle.ha_config.specs.Numbers.{in_bounds}
use Rattle.ha_journal.specs.Journal.{Journal, scripts_in, zone_of, now}
use Rattle.ha_sight.specs.Sight.{Sight}
use Rattle.ha_journal.specs.Helpers.{known, event_for, events_of}
use Rattle.ha_journal.specs.States.{states, switches_seen}
use Rattle.ha_sight.specs.Templates.{rendered, says}
use Rattle.ha_sight.specs.Conditions.{number_watched}
use Rattle.ha_sight.specs.Rules.{starts, passed, state_moves, pair_holds}

-- what a place sees
abbrev pub sight : Journal → ℕ → Sight
sight j n = record {
  states = states (take n j);
  now = now (take n j);
  zone = zone_of j;
  automations = switches_seen (take n j);
  scripts = scripts_in (take n j);
  helpers = known (take n j);
}

-- the number that a text gives of e
abbrev pub number_in_text : EntityId → Option Text → Reported → Option Num
number_in_text e name r = if same_entity r.entity e then number_watched name r.text r.attributes else None

-- the number that an entry gives of e, in a Report or in a change of the helper
abbrev pub report_number : EntityId → Option Text → Entry → Option Num
report_number e name x = first_of_list (filter_map (number_in_text e name) (texts_in x))

-- after the last Restart, the latest number that was given of e, whether or not e went in between
abbrev pub latest_number : EntityId → Option Text → Journal → Option Num
latest_number e name j = last_of (filter_map (report_number e name) (longest_end (λ x. not (opens_segment x)) j))

-- the rule of a trigger moves at entry x, by what is seen before the entry and after it, and the journal before it; `held` says whether the
-- trigger has a `for`
abbrev pub looks : Sight → Sight → Journal → TriggerRule → Bool → Option EntityId → Entry → Bool
looks b a past (TriggerRule.State entities attribute from to) held (Some e) x = state_moves attribute from to held (b.states e) (a.states e)
looks b a past (TriggerRule.State entities attribute from to) held None x = false
looks b a past (TriggerRule.Numeric entities attribute above below) held (Some e) x =
    option_map_or (in_bounds above below) (report_number e attribute x) false
    && not (option_map_or (in_bounds above below) (latest_number e attribute past) false)
looks b a past (TriggerRule.Numeric entities attribute above below) held None x = false
looks b a past (TriggerRule.Event kinds pairs) held e x =
    option_map_or (λ v. one_of v.kind kinds && list_all (pair_holds v.pairs) pairs) (event_for e (events_of past x)) false
looks b a past (TriggerRule.Time seconds) held (Some e) x = false
looks b a past (TriggerRule.Time seconds) held None x = is_moment x && passed (TriggerRule.Time seconds) b.zone b.now a.now
looks b a past (TriggerRule.Pattern hours minutes seconds) held (Some e) x = false
looks b a past (TriggerRule.Pattern hours minutes seconds) held None x =
    is_moment x && passed (TriggerRule.Pattern hours minutes seconds) b.zone b.now a.now
looks b a past (TriggerRule.Template t) held (Some e) x = false
looks b a past (TriggerRule.Template t) held None x = says (rendered a t []) && not (says (rendered b t []))
looks b a past TriggerRule.Start held e x = false

module _ (j : Journal) where
  abbrev pub before : ℕ → Sight
  before p = sight j p

  abbrev pub after : ℕ → Sight
  after p = sight j (suc p)

  -- the rule moves at place p, at which the entry is x
  abbrev pub rule_moves : TriggerRule → Bool → Option EntityId → ℕ → Entry → Bool
  rule_moves rule held e p x = looks (before p) (after p) (take p j) rule held e x

  -- trigger t, without its `for`, moves at place p: at a Boot start triggers alone, at a Restart none, elsewhere those whose rule moves
  abbrev pub moves : Trigger → Option EntityId → ℕ → Bool
  moves t e p = option_map_or at (slice_get j p) false
    where
      at : Entry → Bool
      at x = if opens_segment x then is_boot x && starts t.rule && is_none e else rule_moves t.rule (is_some t.hold) e p x
