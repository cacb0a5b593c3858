-- The frames of the run that made a step are kept behind it.
use Rattle.std.proofs.Common.{◌≡◌, ℕ, suc, ◌+◌, ◌<◌, ◌≤◌, ◌⊎◌, inl, inr, List, [], ◌∷◌, ◌++◌, length, take, true, false, refl, sym, subst, ◌∙◌, rules, arith}
use Rattle.std.specs.Prelude.{Some, None, ◌≢◌, nat_eq, if◌then◌else◌}
use Rattle.std.specs.Option.{option_map_or}
use Rattle.std.proofs.lemmas.List.{take_all}
use Rattle.timer_queue.specs.Timers.{Timer, due_of}
use Rattle.ha_journal.specs.declared.entry.Entry.{Entry}
use Rattle.ha_journal.specs.declared.entry.Entry.TheVariants.{Step}
use Rattle.ha_sight.specs.declared.item.Item.{Item}
use Rattle.ha_model.specs.declared.record.Record.{Record}
use Rattle.ha_sight.specs.declared.steps.StepOut.{StepOut}
use Rattle.ha_journal.specs.Entries.{step_of}
use Rattle.ha_journal.specs.Journal.{Journal, HasEntry, now, more, units}
use Rattle.ha_sight.specs.Scripts.{Branch}
use Rattle.ha_model.specs.Records.{actions_of, spots, next_spot, CallEnds, ask_end}
use Rattle.ha_journal.proofs.ForceLaws.{units-more}
use Rattle.ha_journal.proofs.MoreLemmas.{length-more}
use Rattle.ha_config.proofs.ListLemmas.{get-last}
use Rattle.ha_journal.proofs.StateLemmas.{now-snoc}
use Rattle.ha_model.proofs.FoldLaws.{spots-more}
use Rattle.script_step.specs.Gates.{Gate, Fronts}
use Rattle.script_step.specs.Told.{IsAsk}
use Rattle.engine_parts.specs.Fronts.{fronts, Stands}
use Rattle.script_step.specs.Told.{StandsIn, Stays, IsTold, EachTold, AreTold}
use Rattle.script_step.specs.declared.frames.Frames.{Frames}
use Rattle.wait_set.specs.Asked.{WaitTable as Waits, is_bare}
use Rattle.engine_parts.specs.Runs.{GateKept, GatesKept, LiveKept, first_wait}
use Rattle.ha_ready.specs.Agree.{step_at}
use Rattle.engine_parts.specs.Touched.{QueueKept}
use Rattle.engine_parts.specs.Stepped.{DueTaken, AskTaken, OthersKept}
use Rattle.engine_parts.proofs.GateLemmas.{gate-more, begins-bare}

module _ (was so : CallEnds) (j : Journal) (same : (p : ℕ) → p < length j → so p ≡ was p) (last : so (length j) ≡ None) (k s : ℕ) (b : Branch) (item : Item) (delays delays' : List Timer) (w w' : Waits) where
  abbrev x : Entry
  x = Step k s b item

  abbrev j' : Journal
  j' = more j x

  same-now : now j' ≡ now j
  same-now = omega (arith, now-snoc j x)

  -- a Step of the run stands at the new place
  here : step_at j' s (length j) ≡ true
  here = (λ i. option_map_or (λ y. option_map_or (λ t. nat_eq t.serial s) (step_of y) false) (get-last j x i) false) ∙ (let self : nat_eq s s ≡ true = search rules in self)

  -- what was known of an old front
  old-known : (F : Fronts) (g : Branch × Gate) → GatesKept was j delays w s F → StandsIn g F → GateKept was j delays w s g
  old-known [] g kept there = absurd there
  old-known (y ∷ ys) g kept (inl same) = subst (λ z. GateKept was j delays w s z) same kept.0
  old-known (y ∷ ys) g kept (inr later) = old-known ys g kept.1 later

  -- an old front of another branch is known behind the step
  stays-known : (F : Fronts) (g : Branch × Gate) → QueueKept (now j') delays delays' → OthersKept w w' s b → GatesKept was j delays w s F → Stays b F g → GateKept so j' delays' w' s g
  stays-known F g queue others kept stays = by g (old-known F g kept stays.1) stays.0
    where
      by : (g : Branch × Gate) → GateKept was j delays w s g → g.0 ≢ b → GateKept so j' delays' w' s g
      by (c, Gate.Free) h apart = tt
      by (c, Gate.From due) h apart = gate-more was so j x same delays delays' w w s (c, Gate.From due) queue (λ d. refl) h
      by (c, Gate.Behind ask p) h apart = (let moved = gate-more was so j x same delays delays' w w s (c, Gate.Behind ask p) queue (λ d. refl) h in (moved.0, others c apart ∙ moved.1, moved.2, moved.3, moved.4, moved.5, moved.6, moved.7))

  whole : take (suc (length j)) j' ≡ j'
  whole = take_all (suc (length j)) j' (omega (arith, length-more j x))

  -- each front that the step tells of is known
  told-known : (old new : Fronts) (out : StepOut) → QueueKept (now j') delays delays' → OthersKept w w' s b → DueTaken (now j') (length j) b new delays' → AskTaken (length j) s b out w' → GatesKept was j delays w s old
      → (g : Branch × Gate) → IsTold s (length j) (now j) b old new out g → GateKept so j' delays' w' s g
  told-known old new out queue others due ask kept (c, Gate.Free) told = tt
  told-known old new out queue others due ask kept (c, Gate.From at) (inl stays) = stays-known old (c, Gate.From at) queue others kept stays
  told-known old new out queue others due ask kept (c, Gate.From at) (inr own) = by (due at own.1)
    where
      by : (at ≤ now j') ⊎ (due_of (length j) delays' ≡ Some at) → GateKept so j' delays' w' s (c, Gate.From at)
      by (inl over) = inl over
      by (inr queued) = inr (length j, queued, here)
  told-known old new out queue others due ask kept (c, Gate.Behind a p) (inl stays) = stays-known old (c, Gate.Behind a p) queue others kept stays
  told-known old new out queue others due ask kept (c, Gate.Behind a p) (inr own) =
      let place : length j ≡ p = sym own.1 in
      let asks_here : IsAsk (now (take (suc (length j)) j')) a own.2 = subst (λ n. IsAsk n a own.2) (sym same-now ∙ (λ i. now (sym whole i))) own.6 in
      let not-yet : is_bare own.2 ≡ true → ask_end so j' a (length j) ≡ None = λ bare. begins-bare so j' (length j) a own.2 bare asks_here last in
      let known : GateKept so j' delays' w' s (b, Gate.Behind a (length j))
      = (
        record { owner = first_wait + length j; place = length j; ask = own.2; named = None },
        ask own.2 own.3,
        refl,
        refl,
        omega (arith, length-more j x),
        here,
        asks_here,
        λ bare. sym (not-yet bare),
      ) in
      subst (λ q. GateKept so j' delays' w' s (c, Gate.Behind a q)) place (subst (λ d. GateKept so j' delays' w' s (d, Gate.Behind a (length j))) (sym own.0) known)

  all-told : (old new : Fronts) (out : StepOut) → QueueKept (now j') delays delays' → OthersKept w w' s b → DueTaken (now j') (length j) b new delays' → AskTaken (length j) s b out w' → GatesKept was j delays w s old
      → (F : Fronts) → EachTold s (length j) (now j) b old new out F → GatesKept so j' delays' w' s F
  all-told old new out queue others due ask kept [] told = tt
  all-told old new out queue others due ask kept (g ∷ F) told = (told-known old new out queue others due ask kept g told.0, all-told old new out queue others due ask kept F told.1)

  -- LAW: the frames of the run that made a step are kept behind it, where its new delay and its new wait were taken in
  pub stepped-kept : (r : Record) (f f' : Frames) (out : StepOut) → HasEntry j → r.serial ≡ s → LiveKept was j delays w r f → f'.serial ≡ f.serial → f'.automation ≡ f.automation
      → Stands f' (actions_of (units j) r.automation) r.env (spots j s ++ (next_spot j b ∷ []))
      → AreTold s (length j) (now j) b (fronts f (spots j s)) (fronts f' (spots j s ++ (next_spot j b ∷ []))) out
      → QueueKept (now j') delays delays' → OthersKept w w' s b → DueTaken (now j') (length j) b (fronts f' (spots j s ++ (next_spot j b ∷ []))) delays' → AskTaken (length j) s b out w' → LiveKept so j' delays' w' r f'
  stepped-kept r f f' out h own live serial automation stands told queue others due ask =
      let self : nat_eq s s ≡ true = search rules in
      let places : spots j s ++ (next_spot j b ∷ []) ≡ spots j' r.serial
      = (λ i. spots j s ++ (if sym self i then next_spot j b ∷ [] else [])) ∙ sym (spots-more j x s) ∙ (λ i. spots j' (sym own i)) in
      let script : actions_of (units j) r.automation ≡ actions_of (units j') r.automation = (λ i. actions_of (units-more j x h refl i) r.automation) in
      let new : Fronts = fronts f' (spots j s ++ (next_spot j b ∷ [])) in
      record {
        live = live.live;
        serial = serial ∙ live.serial;
        automation = automation ∙ live.automation;
        stands = subst (λ ss. Stands f' (actions_of (units j') r.automation) r.env ss) places (subst (λ actions. Stands f' actions r.env (spots j s ++ (next_spot j b ∷ []))) script stands);
        gates = subst (λ ss. GatesKept so j' delays' w' r.serial (fronts f' ss)) places (subst (λ q. GatesKept so j' delays' w' q new) (sym own) (all-told (fronts f (spots j s)) new out queue others due ask (subst (λ q. GatesKept was j delays w q (fronts f (spots j q))) own live.gates) new told));
      }
