-- What a report changes was listed before.
use Rattle.std.proofs.Common.{◌≡◌, ℕ, [], ◌∷◌, Bool, true, false, refl, ap, ◌∙◌}
use Rattle.std.specs.Prelude.{Option, Some, None, MatchOption, option_map, if◌then◌else◌}
use Rattle.ha_value.specs.declared.value.EntityId.{EntityId}
use Rattle.ha_config.specs.declared.command.Cmd.{Cmd}
use Rattle.ha_journal.specs.declared.entry.Entry.TheVariants.{Line}
use Rattle.ha_sight.specs.declared.state.StateObject.{StateObject}
use Rattle.ha_config.specs.Words.{Text, Pairs, same_entity}
use Rattle.ha_config.specs.Helpers.{is_helper}
use Rattle.ha_journal.specs.Journal.{Journal, helpers, now, more}
use Rattle.ha_journal.specs.States.{states}
use Rattle.ha_sight.specs.StateStep.{next_object}
use Rattle.ha_config.proofs.EqualLemmas.{entity-sound}
use Rattle.state_table.specs.Anew.{is_automation}
use Rattle.state_table.specs.Table.{at}
use Rattle.state_laws.specs.Stands.{StandsFor}
use Rattle.state_table.specs.declared.table.StateTable.{StateTable}
use Rattle.state_laws.proofs.StateLaws.{states-report, states-gone}
use Rattle.trig_set.specs.Next.{AreListed, reports}

-- LAW: where the table stands for the journal, its state of the reported entity is all that has to be listed
pub report-listed : (t : StateTable) (j : Journal) (k n : ℕ) (entity : EntityId) (text : Text) (attributes : Pairs) → StandsFor t j → is_automation entity ≡ false → is_helper (helpers j) entity ≡ false
    → AreListed j (Line k n (Cmd.Report entity text attributes)) ((entity, at t entity) ∷ [])
report-listed t j k n entity text attributes stands plain free e = by (same_entity entity e) refl
  where
    by : (c : Bool) → same_entity entity e ≡ c
        → MatchOption (option_map {T = EntityId × Option StateObject} {U = Option StateObject} (λ p. p.1) (if c then Some (entity, at t entity) else None)) ((states (more j (Line k n (Cmd.Report entity text attributes))) e ≡ states j e) × (reports e (Line k n (Cmd.Report entity text attributes)) ≡ false)) (λ old. old ≡ states j e)
    by true same = stands entity ∙ ap (states j) (entity-sound entity e same)
    by false other = (
      states-report j e entity k n plain free text attributes
          ∙ (λ i. if other i then Some (next_object (states j e) text attributes (now (more j (Line k n (Cmd.Report entity text attributes))))) else states j e),
      other,
    )

-- LAW: so it is with one that goes
pub gone-listed : (t : StateTable) (j : Journal) (k n : ℕ) (entity : EntityId) → StandsFor t j → is_automation entity ≡ false → is_helper (helpers j) entity ≡ false → AreListed j (Line k n (Cmd.Gone entity)) ((entity, at t entity) ∷ [])
gone-listed t j k n entity stands plain free e = by (same_entity entity e) refl
  where
    by : (c : Bool) → same_entity entity e ≡ c
        → MatchOption (option_map {T = EntityId × Option StateObject} {U = Option StateObject} (λ p. p.1) (if c then Some (entity, at t entity) else None)) ((states (more j (Line k n (Cmd.Gone entity))) e ≡ states j e) × (reports e (Line k n (Cmd.Gone entity)) ≡ false)) (λ old. old ≡ states j e)
    by true same = stands entity ∙ ap (states j) (entity-sound entity e same)
    by false other = (states-gone j e entity k n plain free ∙ (λ i. if other i then None else states j e), refl)
