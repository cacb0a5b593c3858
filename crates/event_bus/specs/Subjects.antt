-- What a trigger is concerned by: an entity, those that its template reads, a type of events, moments, or each entry.
use Rattle.std.specs.Prelude.{ℕ, Bool, true, false, List, Option, Some, None}
use Rattle.std.specs.List.{list_any}
use Rattle.ha_value.specs.declared.value.EntityId.{EntityId}
use Rattle.ha_config.specs.declared.config.TriggerRule.{TriggerRule}
use Rattle.ha_config.specs.Words.{Text, one_of, same_entity}
use Rattle.tpl_reads.specs.Reads.{entities_read}
use Rattle.event_bus.specs.declared.index.Index.{Index}
use Rattle.event_bus.specs.Lists.{has, has_at, has_for}

pub data Subject : Type 0 where
  Entity : EntityId → Subject
  Event : Text → Subject
  Moments : Subject
  Entries : Subject

-- the subjects of an entity, where a trigger has one; of types of events; of moments; and of each entry
abbrev pub by_entity : Option EntityId → Subject → Bool
by_entity (Some f) (Subject.Entity e) = same_entity f e
by_entity None Subject.Entries = true
by_entity o s = false

abbrev pub by_kinds : List Text → Subject → Bool
by_kinds kinds (Subject.Event q) = one_of q kinds
by_kinds kinds s = false

abbrev pub by_moments : Subject → Bool
by_moments Subject.Moments = true
by_moments s = false

abbrev pub by_entries : Subject → Bool
by_entries Subject.Entries = true
by_entries s = false

-- a template asks where the state of an entity that it reads changes; at each entry where these are not known
abbrev pub by_read : Option (List EntityId) → Subject → Bool
by_read (Some es) (Subject.Entity e) = list_any (λ f. same_entity f e) es
by_read None Subject.Entries = true
by_read read s = false

-- the entities that the template of a rule reads, where they are known; other rules have none
abbrev pub read_of : TriggerRule → Option (List EntityId)
read_of (TriggerRule.Template t) = entities_read t
read_of rule = None

-- what concerns a trigger with this rule, for one of its entities where it has some
abbrev pub concerns : TriggerRule → Option EntityId → Subject → Bool
concerns (TriggerRule.State entities attribute from to) o s = by_entity o s
concerns (TriggerRule.Numeric entities attribute above below) o s = by_entity o s
concerns (TriggerRule.Event kinds pairs) o s = by_kinds kinds s
concerns (TriggerRule.Time seconds) o s = by_moments s
concerns (TriggerRule.Pattern hours minutes seconds) o s = by_moments s
concerns (TriggerRule.Template t) None s = by_read (entities_read t) s
concerns (TriggerRule.Template t) (Some e) s = by_entries s
concerns TriggerRule.Start o s = false

-- the index has a number for the subject
abbrev pub knows : Index → Subject → ℕ → Bool
knows index (Subject.Entity e) n = has_for index.entities e n
knows index (Subject.Event q) n = has_at index.events q n
knows index Subject.Moments n = has index.moments n
knows index Subject.Entries n = has index.entries n
