-- How a table that changes at one entity stands for a journal with one more entry.
use Rattle.std.proofs.Common.{◌≡◌, ℕ, Bool, true, false, ◌&&◌, Option, sym, refl, ap, ◌∙◌}
use Rattle.std.specs.Prelude.{Some, None, not, if◌then◌else◌}
use Rattle.ha_value.specs.declared.value.EntityId.{EntityId}
use Rattle.ha_config.specs.declared.command.Cmd.{Cmd}
use Rattle.ha_journal.specs.declared.entry.Entry.TheVariants.{Line}
use Rattle.ha_sight.specs.declared.state.StateObject.{StateObject}
use Rattle.ha_config.specs.Words.{Text, Pairs, same_entity}
use Rattle.ha_config.specs.Helpers.{is_helper}
use Rattle.ha_journal.specs.Journal.{Journal, helpers, now, more}
use Rattle.ha_sight.specs.StateStep.{next_object}
use Rattle.ha_journal.specs.States.{states}
use Rattle.ha_config.proofs.EqualLemmas.{entity-sound}
use Rattle.state_table.specs.Anew.{is_automation}
use Rattle.state_laws.specs.Stands.{sets_anew}
use Rattle.state_laws.proofs.StateLaws.{states-report, states-gone, states-restart}
pub use Rattle.state_laws.proofs.StateLaws.{states-empty}
use Rattle.state_table.proofs.TableLemmas.{Seen}

module _ (old new : Seen) (entity : EntityId) where
  abbrev pub Changes : Option StateObject → Type 0
  Changes w = (q : EntityId) → new q ≡ (if same_entity entity q then w else old q)

  pub stands-report : (text : Text) (attributes : Pairs) (at : ℕ) → Changes (Some (next_object (old entity) text attributes at))
      → (j : Journal) (k n : ℕ) → ((q : EntityId) → old q ≡ states j q) → is_automation entity ≡ false → is_helper (helpers j) entity ≡ false
      → at ≡ now (more j (Line k n (Cmd.Report entity text attributes)))
      → (q : EntityId) → new q ≡ states (more j (Line k n (Cmd.Report entity text attributes))) q
  stands-report text attributes at c j k n stands other free is q = c q ∙ by (same_entity entity q) refl ∙ sym (states-report j q entity k n other free text attributes)
    where
      by : (b : Bool) → same_entity entity q ≡ b → (if b then Some (next_object (old entity) text attributes at) else old q)
          ≡ (if b then Some (next_object (states j q) text attributes (now (more j (Line k n (Cmd.Report entity text attributes))))) else states j q)
      by true h = (λ i. Some (next_object ((ap old (entity-sound entity q h) ∙ stands q) i) text attributes (is i)))
      by false h = stands q

  pub stands-gone : Changes None → (j : Journal) (k n : ℕ) → ((q : EntityId) → old q ≡ states j q) → is_automation entity ≡ false → is_helper (helpers j) entity ≡ false
      → (q : EntityId) → new q ≡ states (more j (Line k n (Cmd.Gone entity))) q
  stands-gone c j k n stands other free q = c q ∙ (λ i. if same_entity entity q then None else stands q i) ∙ sym (states-gone j q entity k n other free)

  pub stands-switch : (object : StateObject) → Changes (Some object)
      → (j : Journal) (left : EntityId → Bool) → ((q : EntityId) → left q ≡ false → old q ≡ states j q) → states j entity ≡ Some object
      → (q : EntityId) → (left q && not (same_entity entity q)) ≡ false → new q ≡ states j q
  stands-switch object c j left stands is q out = c q ∙ by (same_entity entity q) refl
    where
      kept : (a b : Bool) → (a && not b) ≡ false → b ≡ false → a ≡ false
      kept true true h k = k
      kept true false h k = h
      kept false b h k = refl

      by : (b : Bool) → same_entity entity q ≡ b → (if b then Some object else old q) ≡ states j q
      by true h = sym is ∙ ap (states j) (entity-sound entity q h)
      by false h = stands q (kept (left q) (same_entity entity q) out h)

pub stands-clear : (new : Seen) → ((q : EntityId) → new q ≡ None) → (j : Journal) (k n : ℕ)
    → (q : EntityId) → sets_anew j (Line k n Cmd.Restart) q ≡ false → is_helper (helpers j) q ≡ false → new q ≡ states (more j (Line k n Cmd.Restart)) q
stands-clear new empty j k n q out free = empty q ∙ sym (states-restart j q k n out free)
