-- The firings of an owner, trigger by trigger and entity by entity.
use Rattle.std.proofs.Common.{◌≡◌, ℕ, List, [], ◌∷◌, ◌++◌, refl, ◌∙◌}
use Rattle.std.specs.Prelude.{Option, Some, None, map, filter_map, flat_map, option_map, codes}
use Rattle.std.specs.List.{enumerate_from, cons_option}
use Rattle.ha_value.specs.declared.value.EntityId.{EntityId}
use Rattle.ha_config.specs.declared.config.Trigger.{Trigger}
use Rattle.ha_journal.specs.declared.firing.Firing.{Firing}
use Rattle.ha_journal.specs.Journal.{Journal}
use Rattle.ha_journal.specs.Triggers as triggers
use Rattle.ha_journal.specs.Triggers.{Fired, entities_at}
use Rattle.ha_journal.specs.Holds.{fired_from}
use Rattle.ha_journal.specs.Variables.{variables}
use Rattle.ha_past.specs.Firings.{Owner, firing_by, firing_for, firings_by, firings_of}

map-both : {X Y : Type 0} (f : X → Y) (xs ys : List X) → map f (xs ++ ys) ≡ map f xs ++ map f ys
map-both f [] ys = refl
map-both f (x ∷ xs) ys = (λ i. f x ∷ map-both f xs ys i)

module _ (j : Journal) (p : ℕ) (o : Owner) where
  one-by : (t : ℕ × Trigger) (e : Option EntityId) (i : Option ℕ) (rest : List Fired)
      → map (firing_by o) (cons_option (option_map {U = Fired} (λ n. record { trigger = t.0; entity = e; variables = variables j t.1 e n }) i) rest)
      ≡ cons_option (option_map {U = Firing} (λ n. record { owner = o.owner; trigger = t.0; entity = e; env = (codes "trigger", variables j t.1 e n) ∷ [] }) i) (map (firing_by o) rest)
  one-by t e None rest = refl
  one-by t e (Some i) rest = refl

  of-entities : (t : ℕ × Trigger) (es : List (Option EntityId)) → map (firing_by o) (filter_map (triggers.firing_for j o.since p t) es) ≡ filter_map (firing_for j p o t) es
  of-entities t [] = refl
  of-entities t (e ∷ es) =
      one-by t e (fired_from j t.1 e o.since p) (filter_map (triggers.firing_for j o.since p t) es)
      ∙ (λ i. cons_option (firing_for j p o t e) (of-entities t es i))

  of-triggers : (ts : List (ℕ × Trigger)) → map (firing_by o) (flat_map (triggers.firings_by j o.since p) ts) ≡ flat_map (firings_by j p o) ts
  of-triggers [] = refl
  of-triggers (t ∷ ts) =
      map-both (firing_by o) (triggers.firings_by j o.since p t) (flat_map (triggers.firings_by j o.since p) ts)
      ∙ (λ i. of-entities t (entities_at j p t.1.rule) i ++ of-triggers ts i)

  -- LAW: the firings of an owner are those of its triggers, each for its entities
  pub firings-by : firings_of j p o ≡ flat_map (firings_by j p o) (enumerate_from 0 o.triggers)
  firings-by = of-triggers (enumerate_from 0 o.triggers)
