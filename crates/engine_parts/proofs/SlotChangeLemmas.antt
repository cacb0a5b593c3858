-- The frames of the live runs where the records of an entry are told.
use Rattle.std.proofs.Common.{◌≡◌, ℕ, inl, inr, List, [], ◌∷◌, sym, subst, ◌∙◌}
use Rattle.std.specs.Prelude.{Option, Some, None}
use Rattle.timer_queue.specs.Timers.{Timer}
use Rattle.ha_model.specs.declared.record.Record.{Record}
use Rattle.ha_config.specs.Words.{Pairs}
use Rattle.ha_journal.specs.Journal.{Journal, units}
use Rattle.ha_sight.specs.Scripts.{Branch}
use Rattle.ha_model.specs.Records.{actions_of, spots, CallEnds}
use Rattle.script_step.specs.Gates.{Gate, Fronts}
use Rattle.engine_parts.specs.Fronts.{fronts, Stands}
use Rattle.script_step.specs.declared.frames.Frames.{Frames}
use Rattle.engine_parts.specs.Waiting.{AsksKept}
use Rattle.wait_set.specs.Asked.{WaitTable as Waits}
use Rattle.ha_ready.specs.RunPast.{SameScript}
use Rattle.engine_parts.specs.Runs.{GateKept, GatesKept, LiveKept, SlotKept, HasEnd}
use Rattle.engine_parts.specs.Changes.{SlotChanges}

module _ (told : CallEnds) (k : Journal) (delays : List Timer) (w w' : Waits) where
  gate-waits : (s : ℕ) → AsksKept w w' s → (g : Branch × Gate) → GateKept told k delays w s g → GateKept told k delays w' s g
  gate-waits s asks (b, Gate.Free) h = tt
  gate-waits s asks (b, Gate.From due) h = h
  gate-waits s asks (b, Gate.Behind ask p) h = (h.0, asks b ∙ h.1, h.2, h.3, h.4, h.5, h.6, h.7)

  gates-waits : (s : ℕ) → AsksKept w w' s → (F : Fronts) → GatesKept told k delays w s F → GatesKept told k delays w' s F
  gates-waits s asks [] h = tt
  gates-waits s asks (g ∷ F) h = (gate-waits s asks g h.0, gates-waits s asks F h.1)

  -- the frames of a run that goes on are kept
  live-changed : (r r' : Record) (f : Frames) → SameScript r r' → r.end ≡ r'.end → AsksKept w w' r'.serial → LiveKept told k delays w r f → LiveKept told k delays w' r' f
  live-changed r r' f same end asks live =
      let own : GatesKept told k delays w r'.serial (fronts f (spots k r'.serial)) = subst (λ q. GatesKept told k delays w q (fronts f (spots k q))) same.serial live.gates in
      record {
        live = sym end ∙ live.live;
        serial = live.serial ∙ same.serial;
        automation = live.automation ∙ same.automation;
        stands = subst (λ q. Stands f (actions_of (units k) r'.automation) r'.env (spots k q)) same.serial
            (subst (λ (env : Pairs). Stands f (actions_of (units k) r'.automation) env (spots k r.serial)) same.env
            (subst (λ a. Stands f (actions_of (units k) a) r.env (spots k r.serial)) same.automation live.stands));
        gates = gates-waits r'.serial asks (fronts f (spots k r'.serial)) own;
      }

  pub slot-changed : (r r' : Record) (o o' : Option Frames) → SlotChanges r r' o o' → (r'.end ≡ None → AsksKept w w' r'.serial) → SlotKept told k delays w r o → SlotKept told k delays w' r' o'
  slot-changed r r' o o' (same, inr ended) asks h = subst (SlotKept told k delays w' r') (sym ended.1) ended.0
  slot-changed r r' o o' (same, inl stays) asks h = subst (SlotKept told k delays w' r') (sym stays.1) (by o h)
    where
      by : (o : Option Frames) → SlotKept told k delays w r o → SlotKept told k delays w' r' o
      by None ended = subst HasEnd stays.0 ended
      by (Some f) live = live-changed r r' f same stays.0 (asks (sym stays.0 ∙ live.live)) live
