-- Whom the index of a set has.
use Rattle.std.specs.Prelude.{◌≡◌, ℕ, Bool, true, false, ◌&&◌, nat_eq, List, Some}
use Rattle.std.specs.List.{list_any}
use Rattle.ha_value.specs.declared.value.EntityId.{EntityId}
use Rattle.ha_config.specs.declared.config.Trigger.{Trigger}
use Rattle.ha_config.specs.declared.config.TriggerRule.{TriggerRule}
use Rattle.ha_past.specs.Firings.{Owner}
use Rattle.event_bus.specs.declared.index.Index.{Index}
use Rattle.tpl_reads.specs.Reads.{entities_read}
use Rattle.event_bus.specs.Subjects.{Subject, by_entity, by_kinds, by_moments, by_read, knows}
use Rattle.trig_set.specs.Order.{ascend}

-- what concerns a trigger with this rule: its entities, those that its template reads, its types of events, moments, or each entry
abbrev pub heeds : TriggerRule → Subject → Bool
heeds (TriggerRule.State entities attribute from to) s = list_any (λ e. by_entity (Some e) s) entities
heeds (TriggerRule.Numeric entities attribute above below) s = list_any (λ e. by_entity (Some e) s) entities
heeds (TriggerRule.Event kinds pairs) s = by_kinds kinds s
heeds (TriggerRule.Time seconds) s = by_moments s
heeds (TriggerRule.Pattern hours minutes seconds) s = by_moments s
heeds (TriggerRule.Template t) s = by_read (entities_read t) s
heeds TriggerRule.Start s = false

-- one of the triggers is concerned by the subject
abbrev pub heed : List Trigger → Subject → Bool
heed triggers s = list_any (λ t. heeds t.rule s) triggers

-- one of those that are attached under the number is
abbrev pub heed_under : List Owner → ℕ → Subject → Bool
heed_under owners n s = list_any (λ o. nat_eq o.owner n && heed o.triggers s) owners

-- the owners ascend, and the index has a number for exactly what concerns one of the triggers that are attached under it
pub record AreKnown (index : Index) (owners : List Owner) : Type 0 where
  pub ascend : ascend owners ≡ true
  pub exact : (s : Subject) (n : ℕ) → knows index s n ≡ heed_under owners n s

-- nobody has a trigger on the entity, nor one that each entry concerns
pub record IsFree (owners : List Owner) (e : EntityId) : Type 0 where
  pub entries : (n : ℕ) → heed_under owners n Subject.Entries ≡ false
  pub entity : (n : ℕ) → heed_under owners n (Subject.Entity e) ≡ false
