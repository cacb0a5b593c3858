-- A run that is listed anew has the pairs that it should.
use Rattle.std.proofs.Common.{◌≡◌, ℕ, zero, suc, ◌-◌, ◌<◌, List, [], ◌∷◌, length, true, refl, sym, ap, subst, ◌∙◌, arith}
use Rattle.std.specs.Prelude.{Option, Some, None, slice_get, option_and_then}
use Rattle.std.specs.Option.{option_map_or}
use Rattle.ha_model.specs.declared.record.Record.{Record}
use Rattle.ha_journal.specs.Journal.{Journal, units}
use Rattle.ha_sight.specs.Scripts.{Branch}
use Rattle.ha_model.specs.Records.{Records, actions_of, spots, CallEnds}
use Rattle.ha_model.specs.Lawful.{record_of}
use Rattle.script_step.specs.Gates.{open_now}
use Rattle.script_step.specs.Frames.{began_by, begins}
use Rattle.script_step.specs.Ready.{ready_of}
use Rattle.script_step.proofs.FrontLemmas.{ready-fronts}
use Rattle.engine_parts.specs.Fronts.{fronts}
use Rattle.script_step.specs.declared.frames.Frames.{Frames}
use Rattle.engine_parts.specs.Waiting.{ends}
use Rattle.wait_set.specs.Asked.{WaitTable as Waits}
use Rattle.ha_ready.specs.ReadyPairs.{with_run, branches_with, ready_with}
use Rattle.engine_parts.specs.Runs.{SlotKept, Waking}
use Rattle.ha_ready.specs.Agree.{step_at, touched, AgreesBut}
use Rattle.ha_ready.proofs.AgreeLemmas.{agree-step}
use Rattle.ha_ready.proofs.RunPast.{resting, resting-with}
use Rattle.engine_parts.proofs.SlotLemmas.{slots-at, listed-branches}

-- there is a record at each place below the length
found : (rs : Records) (i : ℕ) → i < length rs → (r : Record) × (slice_get rs i ≡ Some r)
found [] i lt = absurd (omega arith)
found (r ∷ rs) zero lt = (r, refl)
found (r ∷ rs) (suc i) lt = found rs i (omega (arith, lt))

module _ (told : CallEnds) (rs : Records) (k : Journal) (w : Waits) (os : List (Option Frames)) (at s p : ℕ) (waking : Waking told rs k w os at) (step : step_at k s p ≡ true) where
  abbrev Listed : Option Frames → List Branch → Type 0
  Listed None bs = bs ≡ []
  Listed (Some f) bs = actions_of (units k) f.automation ≡ f.script.value → bs ≡ ready_of f at (λ c. ends w f.serial c)

  -- LAW: the branches of the run that its frames list, and none where it has ended
  pub listed : (o : Option Frames) (bs : List Branch) → option_and_then (λ slot. slot) (slice_get os (s - 1)) ≡ o → Listed o bs → bs ≡ branches_with told rs k s
  listed o bs slot is =
      let there = found rs (s - 1) (omega (arith, (waking.numbered s p step).0, (waking.numbered s p step).1)) in
      let kept = slots-at (SlotKept told k waking.delays w) rs os (s - 1) there.0 waking.slots there.1 in
      let same : kept.0 ≡ o = (λ i. option_and_then {T = Option Frames} {U = Frames} (λ y. y) (sym kept.1 i)) ∙ slot in
      by o is there.0 there.1 (subst (SlotKept told k waking.delays w there.0) same kept.2)
    where
      by : (o : Option Frames) → Listed o bs → (r : Record) → record_of rs s ≡ Some r → SlotKept told k waking.delays w r o → bs ≡ branches_with told rs k s
      by None is r e ended = is ∙ sym (resting-with told k r (waking.resting s r e ended)) ∙ (λ i. option_map_or (ready_with told k) (sym e i) [])
      by (Some f) is r e live =
          let runs = waking.running s p r step e live.live in
          is (ap (actions_of (units k)) live.automation ∙ sym live.stands.stands.script)
          ∙ ready-fronts f.root f.script.value at (λ c. ends w f.serial c) (began_by begins (spots k r.serial))
          ∙ (λ i. open_now (waking.now_is i) (ends w (live.serial i)) (fronts f (spots k r.serial)))
          ∙ sym (listed-branches told k waking.delays w r f waking.stands runs.1 live)
          ∙ (λ i. option_map_or (ready_with told k) (sym e i) [])

  pub listed-agrees : (o : Option Frames) (bs : List Branch) (left : List ℕ) (pairs : List (ℕ × Branch)) → option_and_then (λ slot. slot) (slice_get os (s - 1)) ≡ o → Listed o bs → AgreesBut told (touched k (p ∷ left)) rs k pairs → AgreesBut told (touched k left) rs k (with_run s bs pairs)
  listed-agrees o bs left pairs slot is h =
      subst (λ l. AgreesBut told (touched k left) rs k (with_run s l pairs)) (sym (listed o bs slot is))
      (agree-step told p s left rs k pairs (waking.numbered s p step).0 (waking.numbered s p step).1 step h)
