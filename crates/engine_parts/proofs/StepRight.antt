-- The step of a picked pair, as the frames of its run give it, is right.
use Rattle.std.proofs.Common.{◌≡◌, ℕ, ◌≤◌, List, [], ◌∷◌, Bool, true, false, refl, sym, subst, ◌∙◌, rules}
use Rattle.std.specs.Prelude.{Option, Some, None, is_some, nat_le, option_map, find, bytes_eq, if◌then◌else◌}
use Rattle.std.specs.Option.{option_map_or}
use Rattle.ha_journal.specs.declared.entry.Entry.TheVariants.{Step}
use Rattle.ha_model.specs.declared.record.Record.{Record}
use Rattle.ha_sight.specs.declared.waiting.WaitEnd.{WaitEnd}
use Rattle.ha_sight.specs.declared.steps.StepOut.{StepOut}
use Rattle.ha_journal.specs.Journal.{Journal, now, units}
use Rattle.ha_sight.specs.Scripts.{Branch}
use Rattle.ha_model.specs.Records.{Records, actions_of, spots, next_spot, CallEnds, ask_end, spot_with}
use Rattle.ha_model.specs.Lawful.{Right, IsRightEntry, record_of, ready, pick}
use Rattle.ha_config.proofs.EqualLemmas.{same-sound}
use Rattle.ha_model.proofs.StepLaws.{picked-right}
use Rattle.timer_queue.specs.Timers.{Timer}
use Rattle.script_step.specs.Gates.{Gate, Fronts, opens, gate_at}
use Rattle.engine_parts.specs.Fronts.{fronts, IsOpen, IsGiven}
use Rattle.script_step.specs.declared.frames.Frames.{Frames}
use Rattle.engine_parts.proofs.FrontWords.{gate-is}
use Rattle.engine_parts.specs.Waiting.{ends, TellsEnds}
use Rattle.wait_set.specs.Asked.{WaitTable as Waits}
use Rattle.engine_parts.specs.Runs.{GateKept, GatesKept, LiveKept}
use Rattle.engine_parts.proofs.AttemptLemmas.{given-item}
use Rattle.engine_parts.proofs.GateLemmas.{gate-ends}
use Rattle.ha_ready.specs.ReadyPairs.{may_with}

-- ---- its gate

at-most-of : (a b : ℕ) → nat_le a b ≡ true → a ≤ b
at-most-of a b e = search (rules, e)

-- what is known of a gate that stands in the fronts
pub gate-known : (told : CallEnds) (j : Journal) (delays : List Timer) (w : Waits) (s : ℕ) (F : Fronts) (b : Branch) (g : Gate) → gate_at b F ≡ Some g → GatesKept told j delays w s F → GateKept told j delays w s (b, g)
gate-known told j delays w s [] b g e h = absurd (let bad : ◌≡◌ {A = Option Gate} None (Some g) = e in cc)
gate-known told j delays w s (x ∷ F) b g e h = by (bytes_eq x.0 b) refl e (λ later. gate-known told j delays w s F b g later h.1)
  where
    by : (c : Bool) → bytes_eq x.0 b ≡ c → option_map {T = Branch × Gate} {U = Gate} (λ y. y.1) (if c then Some x else find (λ y. bytes_eq y.0 b) F) ≡ Some g → (gate_at b F ≡ Some g → GateKept told j delays w s (b, g)) → GateKept told j delays w s (b, g)
    by true same is rec =
        let branch : x.0 ≡ b = same-sound x.0 b same in
        let gate : x.1 ≡ g = cc in
        subst (λ z. GateKept told j delays w s (b, z)) gate (subst (λ z. GateKept told j delays w s (z, x.1)) branch h.0)
    by false other is rec = rec is

module _ (told : CallEnds) (j : Journal) (delays : List Timer) (w : Waits) (s : ℕ) (b : Branch) (stands : TellsEnds w j) where
  -- the gate is open by the end of its wait that is kept
  is-open : (g : Gate) → opens g (spot_with told j b) ≡ true → GateKept told j delays w s (b, g) → IsOpen (Some g) (spot_with told j b) (ends w s b)
  is-open Gate.Free open' h = tt
  is-open (Gate.From due) open' h = at-most-of due (spot_with told j b).sight.now open'
  is-open (Gate.Behind ask p) open' h =
      let ended : ends w s b ≡ ask_end told j ask p = gate-ends told j delays w s stands b ask p h in
      let there = some-of (ask_end told j ask p) open' in
      (there.0, ended ∙ there.1, there.1)
    where
      some-of : (o : Option WaitEnd) → is_some o ≡ true → (e : WaitEnd) × (o ≡ Some e)
      some-of None h = absurd (let bad : ◌≡◌ {A = Bool} false true = h in cc)
      some-of (Some e) h = (e, refl)

  -- LAW: the gate of a branch that may step is open, for the step that is told the end of its wait
  pub allowed-open : (r : Record) (f : Frames) → r.serial ≡ s → LiveKept told j delays w r f → may_with told j r b ≡ true → IsOpen (gate_at b (fronts f (spots j r.serial))) (spot_with told j b) (ends w s b)
  allowed-open r f own live allowed =
      by (gate_at b (fronts f (spots j r.serial))) refl (sym (gate-is f (actions_of (units j) r.automation) r.env (spots j r.serial) live.stands (spot_with told j b)) ∙ allowed)
    where
      by : (o : Option Gate) → gate_at b (fronts f (spots j r.serial)) ≡ o → option_map_or (λ g. opens g (spot_with told j b)) o false ≡ true → IsOpen o (spot_with told j b) (ends w s b)
      by None e h = absurd (let bad : ◌≡◌ {A = Bool} false true = h in cc)
      by (Some g) e h = is-open g h (subst (λ q. GateKept told j delays w q (b, g)) own (gate-known told j delays w r.serial (fronts f (spots j r.serial)) b g e live.gates))

-- LAW: what the frames of a picked run give is a right Step
pub step-right : (j : Journal) (rs : Records) (k s : ℕ) (b : Branch) (out : StepOut) → Right j rs → pick k (ready rs j) ≡ Some (s, b)
    → ((r : Record) → record_of rs s ≡ Some r → IsGiven (actions_of (units j) r.automation) r.env (spots j r.serial) (next_spot j b) out) → IsRightEntry rs j (Step k s b out.item)
step-right j rs k s b out right is given = picked-right j rs k s b out.item right is (λ r e. given-item j r b out (given r e))
