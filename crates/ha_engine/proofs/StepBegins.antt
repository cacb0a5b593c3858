-- The run that was picked: it may step, and what is known of it behind its step.
use Rattle.std.proofs.Common.{◌≡◌, ℕ, suc, ◌+◌, ◌-◌, ◌<◌, List, [], ◌∷◌, ◌++◌, length, Bool, true, false, refl, sym, ap, subst, ◌∙◌, rules, arith}
use Rattle.std.specs.Prelude.{Option, Some, None, ◌&&◌, ◌||◌, is_none, is_some, nat_eq, slice_get, option_map, option_and_then, if◌then◌else◌}
use Rattle.std.specs.List.{list_any}
use Rattle.timer_queue.specs.Timers.{Timer}
use Rattle.ha_model.specs.declared.record.Record.{Record}
use Rattle.ha_sight.specs.declared.waiting.WaitEnd.{WaitEnd}
use Rattle.ha_journal.specs.Journal.{Journal, now, units}
use Rattle.ha_model.specs.Lawful.{Right, may_step, pick, ready}
use Rattle.ha_model.specs.Records.{Records, actions_of, ask_end, ran_on, spots, next_spot}
use Rattle.ha_sight.specs.Scripts.{Ask, Branch, Spot}
use Rattle.ha_config.specs.Words.{same}
use Rattle.ha_config.proofs.EqualLemmas.{same-sound}
use Rattle.ha_model.proofs.StepLaws.{ready-found, serial-at}
use Rattle.ha_ready.specs.Picked.{IsPicked}
use Rattle.ha_ready.specs.ReadyPairs.{ends_at}
use Rattle.ha_ready.proofs.Picked as pairs
use Rattle.ha_ready.proofs.RunPast.{all-past, past-at}
use Rattle.script_step.specs.declared.frames.Frames.{Frames}
use Rattle.script_step.specs.Continuation.{Began}
use Rattle.script_step.specs.Frames.{ask_of, began_by, begins, may}
use Rattle.script_step.specs.Gates.{Gate, gate_at, wait_of}
use Rattle.script_step.proofs.GateLemmas.{gated}
use Rattle.script_step.proofs.ToldLemmas.{wait-gate}
use Rattle.wait_set.specs.declared.asked.Asked as wait
use Rattle.wait_set.specs.Asked.{WaitTable as Waits, end_of as end_asked, is_of, wait_of as wait_asked}
use Rattle.engine_parts.specs.Fronts.{IsOpen, Stands, fronts}
use Rattle.engine_parts.specs.Kept.{RunsKept, nobody}
use Rattle.engine_parts.specs.Runs.{AreHeld, GateKept, GatesKept, IsHeld, IsWait, LiveKept, SlotKept}
use Rattle.engine_parts.specs.Waiting.{TellsEnds, ends}
use Rattle.engine_parts.proofs.FrontWords.{gate-is}
use Rattle.engine_parts.proofs.GateLemmas.{gate-ends, next-now}
use Rattle.engine_parts.proofs.SlotLemmas.{ended-off, slots-at}
use Rattle.engine_parts.proofs.StepRight.{allowed-open, gate-known}

-- ---- who was picked

module _ (j : Journal) (rs : Records) (worker s : ℕ) (b : Branch) (right : Right j rs) (is : pick worker (ready rs j) ≡ Some (s, b)) where
  pub the_pair : IsPicked rs j s b
  the_pair = pairs.picked j rs worker s b right is

  pub above : 0 < s
  above = (let one = ready-found j rs worker s b right is in omega (arith, one.0))

  pub own : (picked : IsPicked rs j s b) → picked.run.serial ≡ s
  own picked =
      (let numbered : picked.run.serial ≡ suc (s - 1) = serial-at j (s - 1) picked.run (ap (λ l. slice_get l (s - 1)) (sym right.records_are) ∙ picked.found) in
      omega (arith, numbered, above))

  -- LAW: its frames stand in its slot
  pub runner : (delays : List Timer) (w : Waits) (os : List (Option Frames)) (picked : IsPicked rs j s b) (pairs : List (ℕ × Branch)) → RunsKept (ends_at j) nobody j rs delays w os pairs
      → (f : Frames) × (slice_get os (s - 1) ≡ Some (Some f)) × LiveKept (ends_at j) j delays w picked.run f
  runner delays w os picked pairs kept = (let slot = slots-at (SlotKept (ends_at j) j delays w) rs os (s - 1) picked.run kept.slots picked.found in by slot.0 slot.1 slot.2)
    where
      by : (o : Option Frames) → slice_get os (s - 1) ≡ Some o → SlotKept (ends_at j) j delays w picked.run o → (f : Frames) × (slice_get os (s - 1) ≡ Some (Some f)) × LiveKept (ends_at j) j delays w picked.run f
      by None e ended =
          absurd (let bad : ◌≡◌ {A = Bool} true false
          = sym picked.running ∙ ended-off (length j) (length j) (omega arith) picked.run ended (past-at (length j) rs (s - 1) picked.run (all-past j rs right) picked.found) in cc)
      by (Some f) e live = (f, e, live)

-- ---- it may step

module _ (j : Journal) (delays : List Timer) (w : Waits) (s : ℕ) (b : Branch) (stands : TellsEnds w j) (r : Record) (own_is : r.serial ≡ s) (f : Frames) (live : LiveKept (ends_at j) j delays w r f) where
  abbrev pub began : Began
  began = began_by begins (spots j s)

  abbrev pub places : List Spot
  places = spots j s

  gates : GatesKept (ends_at j) j delays w s (fronts f places)
  gates = subst (λ q. GatesKept (ends_at j) j delays w q (fronts f (spots j q))) own_is live.gates

  pub script : Stands f (actions_of (units j) r.automation) r.env places
  script = subst (λ q. Stands f (actions_of (units j) r.automation) r.env (spots j q)) own_is live.stands

  -- the end of its wait is told
  pub tells : (ask : Ask) → ask_of f b ≡ Some ask → (next_spot j b).wait_end ask (began b) ≡ ends w s b
  tells ask e = by (gate_at b (fronts f places)) refl (sym (ap (option_map (λ q. (q, began b))) e) ∙ wait-gate b f.root f.script.value began)
    where
      by : (o : Option Gate) → gate_at b (fronts f places) ≡ o → Some (ask, began b) ≡ option_and_then wait_of o → ask_end (ends_at j) j ask (began b) ≡ ends w s b
      by None g h = absurd (let bad : ◌≡◌ {A = Option (Ask × ℕ)} (Some (ask, began b)) None = h in cc)
      by (Some Gate.Free) g h = absurd (let bad : ◌≡◌ {A = Option (Ask × ℕ)} (Some (ask, began b)) None = h in cc)
      by (Some (Gate.From due)) g h = absurd (let bad : ◌≡◌ {A = Option (Ask × ℕ)} (Some (ask, began b)) None = h in cc)
      by (Some (Gate.Behind a p)) g h =
          (let same : ◌≡◌ {A = Ask × ℕ} (ask, began b) (a, p) = cc in
          let known : GateKept (ends_at j) j delays w s (b, Gate.Behind a p) = gate-known (ends_at j) j delays w s (fronts f places) b (Gate.Behind a p) g gates in
          let ended : ends w s b ≡ ask_end (ends_at j) j a p = gate-ends (ends_at j) j delays w s stands b a p known in
          (λ i. ask_end (ends_at j) j (same i).0 (same i).1) ∙ sym ended)

  -- LAW: so it may step
  pub may-step : (all : Records) → may_step all j r b ≡ true → may f b (now j) (ends w s b) ≡ true
  may-step all allowed =
      (λ i. may f b (sym (next-now j b) i) (ends w s b))
      ∙ gated b f.root f.script.value began (next_spot j b) (ends w s b) tells
      ∙ sym (gate-is f (actions_of (units j) r.automation) r.env places script (next_spot j b))
      ∙ (λ i. is_some (ran_on j r (spots j (sym own_is i) ++ (next_spot j b ∷ []))))
      ∙ allowed

  -- ---- no wait of its branch is pending

  ended-gate : (all : Records) → may_step all j r b ≡ true → IsWait (gate_at b (fronts f places)) → (e : WaitEnd) × (ends w s b ≡ Some e)
  ended-gate all allowed at = by (gate_at b (fronts f places)) at (subst (λ q. IsOpen (gate_at b (fronts f (spots j q))) (next_spot j b) (ends w s b)) own_is (allowed-open (ends_at j) j delays w s b stands r f own_is live allowed))
    where
      by : (o : Option Gate) → IsWait o → IsOpen o (next_spot j b) (ends w s b) → (e : WaitEnd) × (ends w s b ≡ Some e)
      by None h open' = absurd h
      by (Some Gate.Free) h open' = absurd h
      by (Some (Gate.From due)) h open' = absurd h
      by (Some (Gate.Behind a p)) h open' = (open'.0, open'.1)

  eq-of : (x y : ℕ) → nat_eq x y ≡ true → x ≡ y
  eq-of x y e = search (rules, e)

  both : (p q : Bool) → (p && q) ≡ true → (p ≡ true) × (q ≡ true)
  both true q e = (refl, e)
  both false q e = absurd (let bad : ◌≡◌ {A = Bool} false true = e in cc)

  -- the others are of other runs or branches
  none-behind : (a : wait.Asked) (asks : List wait.Asked) → is_of s b a ≡ true → list_any (is_of a.ask.serial a.ask.branch) asks ≡ false → list_any (λ x. is_of s b x && is_none x.end) asks ≡ false
  none-behind a asks is none =
      (let parts = both (nat_eq a.ask.serial s) (same a.ask.branch b) is in
      walk asks (subst (λ c. list_any (is_of s c) asks ≡ false) (same-sound a.ask.branch b parts.1) (subst (λ q. list_any (is_of q a.ask.branch) asks ≡ false) (eq-of a.ask.serial s parts.0) none)))
    where
      left : (p q : Bool) → (p || q) ≡ false → (p ≡ false) × (q ≡ false)
      left true q e = absurd (let bad : ◌≡◌ {A = Bool} true false = e in cc)
      left false q e = (refl, e)

      walk : (l : List wait.Asked) → list_any (is_of s b) l ≡ false → list_any (λ x. is_of s b x && is_none x.end) l ≡ false
      walk [] h = refl
      walk (x ∷ l) h = (let parts = left (is_of s b x) (list_any (is_of s b) l) h in λ i. (parts.0 i && is_none x.end) || walk l parts.1 i)

  -- LAW: where it may step
  pub none-pending : (all : Records) → may_step all j r b ≡ true → (os : List (Option Frames)) → slice_get os (s - 1) ≡ Some (Some f) → AreHeld j os w.asks → list_any (λ a. is_of s b a && is_none a.end) w.asks ≡ false
  none-pending all allowed os there held = walk w.asks held (ended-gate all allowed)
    where
      at-gate : (a : wait.Asked) → IsHeld j os a → is_of s b a ≡ true → a.end ≡ None → IsWait (gate_at b (fronts f places))
      at-gate a h is none =
          (let one = h none in
          let parts = both (nat_eq a.ask.serial s) (same a.ask.branch b) is in
          let serial : a.ask.serial ≡ s = eq-of a.ask.serial s parts.0 in
          let found : Some (Some one.1) ≡ Some (Some f) = sym one.2 ∙ ap (λ q. slice_get os (q - 1)) serial ∙ there in
          let self : one.1 ≡ f = cc in
          subst (λ c. IsWait (gate_at c (fronts f places))) (same-sound a.ask.branch b parts.1)
          (subst (λ q. IsWait (gate_at a.ask.branch (fronts f (spots j q)))) serial (subst (λ (g : Frames). IsWait (gate_at a.ask.branch (fronts g (spots j a.ask.serial)))) self one.3)))

      not-none : (o : Option WaitEnd) (e : WaitEnd) → o ≡ Some e → is_none o ≡ false
      not-none None e h = absurd (let bad : ◌≡◌ {A = Option WaitEnd} None (Some e) = h in cc)
      not-none (Some x) e h = refl

      ended-first : (a : wait.Asked) → IsHeld j os a → is_of s b a ≡ true → (IsWait (gate_at b (fronts f places)) → (e : WaitEnd) × (a.end ≡ Some e)) → is_none a.end ≡ false
      ended-first a h is told = by a.end refl
        where
          by : (o : Option WaitEnd) → a.end ≡ o → is_none a.end ≡ false
          by None e = (let one = told (at-gate a h is e) in not-none a.end one.0 one.1)
          by (Some x) e = not-none a.end x e

      walk : (asks : List wait.Asked) → AreHeld j os asks → (IsWait (gate_at b (fronts f places)) → (e : WaitEnd) × (end_asked asks s b ≡ Some e)) → list_any (λ a. is_of s b a && is_none a.end) asks ≡ false
      walk [] h told = refl
      walk (a ∷ asks) h told = by (is_of s b a) refl (λ g. told g) (λ t. walk asks h.2 t)
        where
          by : (c : Bool) → is_of s b a ≡ c → (IsWait (gate_at b (fronts f places)) → (e : WaitEnd) × (end_asked (a ∷ asks) s b ≡ Some e))
              → ((IsWait (gate_at b (fronts f places)) → (e : WaitEnd) × (end_asked asks s b ≡ Some e)) → list_any (λ x. is_of s b x && is_none x.end) asks ≡ false)
              → ((is_of s b a && is_none a.end) || list_any (λ x. is_of s b x && is_none x.end) asks) ≡ false
          by true is t rec =
              (λ i. (is i && is_none a.end) || none-behind a asks is h.1 i)
              ∙ (λ i. ended-first a h.0 is (λ g. (let one = t g in (one.0, first is ∙ one.1))) i || false)
            where
              first : is_of s b a ≡ true → a.end ≡ end_asked (a ∷ asks) s b
              first yes' = (λ i. option_and_then {T = wait.Asked} {U = WaitEnd} (λ z. z.end) (pick-first (sym yes' i)))
                where
                  pick-first : Bool → Option wait.Asked
                  pick-first c = (if c then Some a else wait_asked s b asks)
          by false is t rec =
              (λ i. (is i && is_none a.end) || rec (λ g. (let one = t g in (one.0, later is ∙ one.1))) i)
            where
              later : is_of s b a ≡ false → end_asked asks s b ≡ end_asked (a ∷ asks) s b
              later no' = (λ i. option_and_then {T = wait.Asked} {U = WaitEnd} (λ z. z.end) (pick-first (sym no' i)))
                where
                  pick-first : Bool → Option wait.Asked
                  pick-first c = (if c then Some a else wait_asked s b asks)
