-- Where a trigger fires: where it moves, or where what it watches has stayed as it was for as long as its `for` says.
use Rattle.std.specs.Prelude.{ℕ, suc, ◌+◌, ◌-◌, Bool, false, not, ◌&&◌, ◌||◌, nat_eq, nat_le, nat_lt, List, [], Option, Some, None, take, slice_get, is_none, map, find, option_and_then}
use Rattle.std.specs.List.{list_all, list_any}
use Rattle.std.specs.Option.{option_map_or}
use Rattle.ha_value.specs.declared.value.EntityId.{EntityId}
use Rattle.ha_config.specs.declared.config.Trigger.{Trigger}
use Rattle.ha_config.specs.declared.config.TriggerRule.{TriggerRule}
use Rattle.ha_journal.specs.Entries.{is_moment}
use Rattle.ha_config.specs.Words.{same, first_pair, up_to}
use Rattle.ha_config.specs.Equal.{same_flag}
use Rattle.ha_config.specs.Numbers.{in_bounds}
use Rattle.ha_journal.specs.Journal.{Journal}
use Rattle.ha_sight.specs.Sight.{Sight}
use Rattle.ha_sight.specs.Templates.{rendered, says}
use Rattle.ha_sight.specs.Rules.{same_optional, starts}
use Rattle.ha_journal.specs.Moves.{latest_number, after, moves}

-- what a hold watches is the same, by what is seen after two places and the journals up to them: the state text, the attribute as written,
-- whether the latest number is in the bounds, or whether the template is true
abbrev pub watches : Sight → Sight → Journal → Journal → TriggerRule → Option EntityId → Bool
watches one two first second (TriggerRule.State entities (Some name) from to) (Some e) =
    same_optional
    (option_and_then (λ s. first_pair name s.attributes) (one.states e))
    (option_and_then (λ s. first_pair name s.attributes) (two.states e))
watches one two first second (TriggerRule.State entities None from to) (Some e) =
    option_map_or (λ s. option_map_or (λ o. same o.text s.text) (one.states e) false) (two.states e) (is_none (one.states e))
watches one two first second (TriggerRule.State entities attribute from to) None = false
watches one two first second (TriggerRule.Numeric entities attribute above below) (Some e) =
    same_flag
    (option_map_or (in_bounds above below) (latest_number e attribute first) false)
    (option_map_or (in_bounds above below) (latest_number e attribute second) false)
watches one two first second (TriggerRule.Numeric entities attribute above below) None = false
watches one two first second (TriggerRule.Template t) (Some e) = false
watches one two first second (TriggerRule.Template t) None = same_flag (says (rendered one t [])) (says (rendered two t []))
watches one two first second (TriggerRule.Event kinds pairs) e = false
watches one two first second (TriggerRule.Time seconds) e = false
watches one two first second (TriggerRule.Pattern hours minutes seconds) e = false
watches one two first second TriggerRule.Start e = false

module _ (j : Journal) where
  -- what a hold watches after place p is what it is after place i
  abbrev pub same_watched : TriggerRule → Option EntityId → ℕ → ℕ → Bool
  same_watched rule e i p = watches (after j i) (after j p) (take (suc i) j) (take (suc p) j) rule e

  -- the places from i to p
  abbrev pub between : ℕ → ℕ → List ℕ
  between i p = map (λ k. i + k) (up_to (suc p - i))

  -- Fires: trigger t, since a place, fires at place p, having moved at place i
  abbrev pub fires : Trigger → Option EntityId → ℕ → ℕ → ℕ → Bool
  fires t e since p i = of t.hold
    where
      of : Option ℕ → Bool
      of None = nat_eq i p && moves j t e p && (nat_lt since p || starts t.rule)
      of (Some d) =
          nat_lt since i && moves j t e i
          && option_map_or is_moment (slice_get j p) false && nat_le ((after j i).now + d) (after j p).now
          && not (list_any
          (λ q. option_map_or is_moment (slice_get j q) false && nat_le ((after j i).now + d) (after j q).now)
          (between i (p - 1)))
          && list_all (same_watched t.rule e i) (between i p)

  -- the place at which a trigger that fires at p moved
  abbrev pub fired_from : Trigger → Option EntityId → ℕ → ℕ → Option ℕ
  fired_from t e since p = find (fires t e since p) (up_to (suc p))
