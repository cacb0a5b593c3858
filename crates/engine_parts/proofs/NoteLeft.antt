-- The triggers and the waits are told of a report of an entity that concerns nobody.
use Rattle.std.proofs.Common.{◌≡◌, ℕ, suc, ◌-◌, List, [], ◌∷◌, length, refl, sym, ap, subst, ◌∙◌, arith}
use Rattle.std.specs.Prelude.{Option}
use Rattle.ha_value.specs.declared.value.EntityId.{EntityId}
use Rattle.ha_config.specs.declared.command.Cmd.{Cmd}
use Rattle.ha_journal.specs.declared.entry.Entry.{Entry}
use Rattle.ha_journal.specs.declared.entry.Entry.TheVariants.{Line}
use Rattle.ha_sight.specs.declared.state.StateObject.{StateObject}
use Rattle.ha_journal.specs.declared.firing.Firing.{Firing}
use Rattle.ha_config.specs.Words.{Text, Pairs}
use Rattle.ha_journal.specs.Journal.{Journal, now, more}
use Rattle.ha_sight.specs.Sight.{Sight}
use Rattle.ha_journal.specs.Helpers.{last_events}
use Rattle.ha_journal.specs.Moves.{sight}
use Rattle.ha_journal.proofs.EventLaws.{helps-none, last-events}
use Rattle.ha_journal.proofs.MoreLemmas.{length-more}
use Rattle.state_table.specs.declared.table.StateTable.{StateTable}
use Rattle.trig_set.specs.Next.{IsNext}
use Rattle.ha_past.specs.Firings.{firings}
use Rattle.trig_set.specs.Stands as triggers
use Rattle.trig_set.specs.declared.set.TrigSet.{TrigSet}
use Rattle.wait_set.specs.Asked.{WaitTable}
use Rattle.wait_set.specs.Stands as waits
use Rattle.engine_parts.specs.Kept.{Looks}
use Rattle.engine_parts.specs.Stages.{UntoldLeft}
use Rattle.engine_parts.proofs.NoteEntry.{last-at, untold-next, untold-told}

module _ (k : Journal) (t : TrigSet) (w : WaitTable) (e : EntityId) (text : Text) (attributes : Pairs) (h : UntoldLeft k t w e text attributes) where
  abbrev pub report : Entry
  report = Line h.source h.number (Cmd.Report e text attributes)

  pub left-is : k ≡ more h.untold.j report
  left-is = h.untold.journal_is ∙ ap (more h.untold.j) h.x_is

  -- LAW: the report is the next entry
  pub left-next : (table : StateTable) (numbers : List ℕ) (zone : Text) (at : ℕ) → Looks k table numbers zone at → IsNext h.untold.j (length k - 1) report ((e, h.old) ∷ []) [] (sight k (length k)) (triggers.attached t)
  left-next table numbers zone at looks =
      subst (λ (y : Entry). IsNext h.untold.j (length k - 1) y ((e, h.old) ∷ []) [] (sight k (length k)) (triggers.attached t)) h.x_is
      (untold-next k t w ((e, h.old) ∷ []) h.untold table numbers zone at [] (sight k (length k)) looks none refl)
    where
      -- it gives no event of a helper
      none : [] ≡ last_events k
      none = sym (ap last_events left-is ∙ last-events h.untold.j report ∙ helps-none h.untold.j report refl refl)

  pub left-now : (table : StateTable) (numbers : List ℕ) (zone : Text) (at : ℕ) → Looks k table numbers zone at → at ≡ now (more h.untold.j report)
  left-now table numbers zone at looks = looks.now_is ∙ ap now left-is

  -- LAW: where nothing fires at such an entry, nothing fires at the last one
  pub left-quiet : (table : StateTable) (numbers : List ℕ) (zone : Text) (at : ℕ) → Looks k table numbers zone at
      → ((j : Journal) (i n place : ℕ) (old : Option StateObject) (seen : Sight) → triggers.StandsFor t j
      → IsNext j place (Line i n (Cmd.Report e text attributes)) ((e, old) ∷ []) [] seen (triggers.attached t)
      → firings (more j (Line i n (Cmd.Report e text attributes))) place (triggers.attached t) ≡ [])
      → firings (more h.untold.j report) (length k - 1) (triggers.attached t) ≡ []
  left-quiet table numbers zone at looks law = law h.untold.j h.source h.number (length k - 1) h.old (sight k (length k)) h.untold.triggers_stand (left-next table numbers zone at looks)

  module _ (none : firings (more h.untold.j report) (length k - 1) (triggers.attached t) ≡ []) where
    -- LAW: nothing fires at the last entry
    pub left-none : firings k (length k - 1) (triggers.attached t) ≡ []
    left-none = ap (λ (i : Journal). firings i (length k - 1) (triggers.attached t)) left-is ∙ none

    -- LAW: so it is the next entry of the waits
    pub left-waits : (seen : Sight) (fired : List Firing) → seen ≡ sight k (length k) → fired ≡ [] → waits.IsNext h.untold.j (length k - 1) report seen fired w.asks
    left-waits seen fired sees empty =
        let one = last-at k t w ((e, h.old) ∷ []) h.untold in
        let longer = length-more h.untold.j report in
        let long : length (more h.untold.j report) ≡ suc (length k - 1) = omega (arith, one, longer) in
        record {
          at = one;
          some = h.untold.some;
          sees = sees ∙ ap (λ (i : Journal). sight i (length i)) left-is ∙ ap (sight (more h.untold.j report)) long;
          fires =
              subst (λ (l : List Firing). waits.AreFired (more h.untold.j report) (length k - 1) l w.asks)
              (ap (λ (y : Entry). firings (more h.untold.j y) (length k - 1) (triggers.attached t)) h.x_is ∙ none ∙ sym empty)
              (subst (λ (y : Entry). waits.AreFired (more h.untold.j y) (length k - 1) (firings (more h.untold.j h.untold.x) (length k - 1) (triggers.attached t)) w.asks) h.x_is
              (untold-told k t w ((e, h.old) ∷ []) h.untold));
        }
