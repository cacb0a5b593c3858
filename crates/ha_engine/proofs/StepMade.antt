-- What is known of the run that made a step, from the step of its frames.
use Rattle.std.proofs.Common.{◌≡◌, ℕ, List, [], ◌∷◌, ◌++◌, length, refl, sym, ap, subst, ◌∙◌}
use Rattle.std.specs.Prelude.{Option, Some, None, ◌≢◌, option_map, option_and_then}
use Rattle.timer_queue.specs.Timers.{Timer}
use Rattle.ha_config.specs.declared.config.Action.{Action}
use Rattle.ha_journal.specs.declared.entry.Entry.TheVariants.{Step}
use Rattle.ha_sight.specs.declared.item.Item.{Item}
use Rattle.ha_model.specs.declared.record.Record.{Record}
use Rattle.ha_sight.specs.declared.waiting.WaitAsk.{WaitAsk}
use Rattle.ha_sight.specs.declared.waiting.WaitEnd.{WaitEnd}
use Rattle.ha_sight.specs.declared.steps.StepOut.{StepOut}
use Rattle.ha_journal.specs.Journal.{Journal, now, more, units}
use Rattle.ha_model.specs.Lawful.{Right, pick, ready, record_of}
use Rattle.ha_model.specs.Records.{Records, actions_of, ran_on, script_end, spots, next_spot}
use Rattle.ha_sight.specs.Scripts.{Ask, Branch, Outcome, Spot, Status, prefixed, whole}
use Rattle.ha_journal.specs.Moves.{sight}
use Rattle.ha_config.specs.Words.{Pairs}
use Rattle.ha_config.proofs.ListLemmas.{append-nil}
use Rattle.ha_ready.specs.Picked.{IsPicked}
use Rattle.ha_ready.specs.ReadyPairs.{ends_at}
use Rattle.script_step.specs.declared.frames.Frames.{Frames}
use Rattle.script_step.specs.declared.strand.End.{End}
use Rattle.script_step.specs.Continuation.{Began, placed}
use Rattle.script_step.specs.Frames as run
use Rattle.script_step.specs.Frames.{ask_of, asked_by, began_by, begins, may}
use Rattle.script_step.specs.Gates.{Gate, fronts_of, gate_at, wait_of}
use Rattle.script_step.specs.Sides.{end_of, progress_by}
use Rattle.script_step.specs.Told.{AreTold}
use Rattle.script_step.proofs.FrameLemmas.{stands-step}
use Rattle.script_step.proofs.ToldLemmas.{wait-gate}
use Rattle.wait_set.specs.Asked.{WaitTable as Waits}
use Rattle.wait_set.specs.Stands as waits
use Rattle.engine_parts.specs.Fronts.{IsGiven, Stands, fronts, progress_of}
use Rattle.script_calls.specs.Waiting.{Waiting}
use Rattle.engine_parts.specs.Called.{CallsKept}
use Rattle.engine_parts.specs.Kept.{RunsKept, nobody}
use Rattle.engine_parts.specs.Runs.{IsWait, LiveKept}
use Rattle.engine_entry.specs.Stepping.{SlotStep, StepRuns, cause_of}
use Rattle.engine_parts.specs.Waiting.{TellsEnds, ends}
use Rattle.ha_engine.proofs.ApartTaken.{other-stays}
use Rattle.engine_parts.proofs.GateLemmas.{next-now}
use Rattle.ha_engine.proofs.OutcomeLemmas.{last-snoc, on-nothing, status_by}
use Rattle.ha_engine.proofs.StepBegins.{above, may-step, none-pending, own, runner, script, tells, the_pair}
use Rattle.engine_parts.proofs.StepRight.{step-right}
use Rattle.engine_parts.proofs.WaitWords.{stands-tells}

began-snoc : (before : Began) (given : List Spot) (s : Spot) → began_by before (given ++ (s ∷ [])) ≡ placed s.branch s.place (began_by before given)
began-snoc before [] s = refl
began-snoc before (x ∷ given) s = began-snoc (placed x.branch x.place before) given s

progress-by : (o : Option End) → progress_by o ≡ progress_of (status_by o)
progress-by None = refl
progress-by (Some End.Done) = refl
progress-by (Some End.Stopped) = refl
progress-by (Some End.Faulted) = refl

pub cause-end : (s : Status) → cause_of (progress_of s) ≡ script_end s
cause-end Status.Open = refl
cause-end Status.Done = refl
cause-end Status.Stopped = refl
cause-end Status.Faulted = refl

-- what a run's script gives where its new frames stand for it
outcome-by : (f : Frames) (actions : List Action) (env : Pairs) (ss : List Spot) (items : List Item) (item : Item) → run.Stands f actions env ss (items ++ (item ∷ []))
    → whole actions env ss ≡ Some (record { items = items ++ (item ∷ []); status = status_by (end_of f.root) })
outcome-by f actions env ss items item h =
    ap (whole actions env) (sym (append-nil ss))
    ∙ h.goes []
    ∙ ap (prefixed (items ++ (item ∷ []))) (on-nothing f.root f.script.value [] (began_by begins ss) f.settled)
    ∙ (λ i. Some (record { items = append-nil (items ++ (item ∷ [])) i; status = status_by (end_of f.root) }))

-- the gate of a branch that waits
waiting-gate : (f : Frames) (began : Began) (c : Branch) (ask : Ask) → ask_of f c ≡ Some ask → IsWait (gate_at c (fronts_of f began))
waiting-gate f began c ask e = by (gate_at c (fronts_of f began)) (sym (ap (option_map (λ q. (q, began c))) e) ∙ wait-gate c f.root f.script.value began)
  where
    by : (o : Option Gate) → Some (ask, began c) ≡ option_and_then wait_of o → IsWait o
    by None h = absurd (let bad : ◌≡◌ {A = Option (Ask × ℕ)} (Some (ask, began c)) None = h in cc)
    by (Some Gate.Free) h = absurd (let bad : ◌≡◌ {A = Option (Ask × ℕ)} (Some (ask, began c)) None = h in cc)
    by (Some (Gate.From due)) h = absurd (let bad : ◌≡◌ {A = Option (Ask × ℕ)} (Some (ask, began c)) None = h in cc)
    by (Some (Gate.Behind a p)) h = tt

module _ (j : Journal) (rs : Records) (worker s : ℕ) (b : Branch) (right : Right j rs) (is : pick worker (ready rs j) ≡ Some (s, b)) (delays : List Timer) (w : Waits) (os : List (Option Frames)) (pairs : List (ℕ × Branch))
    (waiting : Waiting) (kept : RunsKept (ends_at j) nobody j rs delays w os pairs) (calls_kept : CallsKept (ends_at j) j rs waiting os) (stand : waits.StandsFor w.asks j) (wait : Option WaitEnd) (wait_is : wait ≡ ends w s b) (os' : List (Option Frames)) (out : StepOut) (due : Option ℕ)
    (step : SlotStep (sight j (length j)) s b wait os os' out due) where
  abbrev pub picked : IsPicked rs j s b
  picked = the_pair j rs worker s b right is

  abbrev pub r : Record
  r = picked.run

  pub own_is : r.serial ≡ s
  own_is = own j rs worker s b right is picked

  pub ends-told : TellsEnds w j
  ends-told = stands-tells w j stand

  -- its frames are those in its slot
  pub live : LiveKept (ends_at j) j delays w r step.old
  live =
      let found = runner j rs worker s b right is delays w os picked pairs kept in
      let same : Some (Some found.0) ≡ Some (Some step.old) = sym found.1 ∙ step.there in
      let self : found.0 ≡ step.old = cc in
      subst (LiveKept (ends_at j) j delays w r) self found.2

  abbrev pub actions : List Action
  actions = actions_of (units j) r.automation

  abbrev pub ss : List Spot
  ss = spots j s

  abbrev pub sp : Spot
  sp = next_spot j b

  pub script_is : Stands step.old actions r.env ss
  script_is = script j delays w s b ends-told r own_is step.old live

  pub stands_new : run.Stands step.new actions r.env (ss ++ (sp ∷ [])) (script_is.items ++ (out.item ∷ []))
  stands_new =
      stands-step actions r.env ss script_is.items step.old step.new out.item (sight j (length j)) wait sp script_is.stands step.step.steps refl
      (λ ask e. tells j delays w s b ends-told r own_is step.old live ask e ∙ sym wait_is)

  pub given : IsGiven actions r.env ss sp out
  given = record {
    outcome = record { items = script_is.items ++ (out.item ∷ []); status = status_by (end_of step.new.root) };
    whole_is = outcome-by step.new actions r.env (ss ++ (sp ∷ [])) script_is.items out.item stands_new;
    item = last-snoc script_is.items out.item;
    progress = step.step.progress ∙ progress-by (end_of step.new.root);
  }

  pub given-for : (q : Record) → record_of rs s ≡ Some q → IsGiven (actions_of (units j) q.automation) q.env (spots j q.serial) sp out
  given-for q e =
      (let found = sym picked.found ∙ e in
      let same : r ≡ q = cc in
      subst (λ (z : Record). IsGiven (actions_of (units j) z.automation) z.env (spots j z.serial) sp out) same
      (subst (λ n. IsGiven actions r.env (spots j n) sp out) (sym own_is) given))

  behind-is : began_by begins (ss ++ (sp ∷ [])) ≡ placed b (length j) (began_by begins ss)
  behind-is = began-snoc begins ss sp

  pub told : AreTold s (length j) (now j) b (fronts step.old ss) (fronts step.new (ss ++ (sp ∷ []))) out
  told =
      subst (λ (began : Began). AreTold s (length j) (now j) b (fronts step.old ss) (fronts_of step.new began) out) (sym behind-is)
      (subst (λ n. AreTold s (length j) n b (fronts step.old ss) (fronts_of step.new (placed b (length j) (began_by begins ss))) out) (next-now j b)
      (subst (λ n. AreTold n (length j) sp.sight.now b (fronts step.old ss) (fronts_of step.new (placed b (length j) (began_by begins ss))) out) (live.serial ∙ own_is) (step.step.told (began_by begins ss) (length j))))

  pub asked : (ask : WaitAsk) → out.wait ≡ Some ask → (ask.serial ≡ s) × (ask.branch ≡ b) × IsWait (gate_at b (fronts step.new (ss ++ (sp ∷ []))))
  asked ask e = by (ask_of step.new b) refl (sym e ∙ step.step.wait_is)
    where
      by : (o : Option Ask) → ask_of step.new b ≡ o → Some ask ≡ option_map (asked_by step.old.serial b sp.sight.now) o
          → (ask.serial ≡ s) × (ask.branch ≡ b) × IsWait (gate_at b (fronts step.new (ss ++ (sp ∷ []))))
      by None g h = absurd (let bad : ◌≡◌ {A = Option WaitAsk} (Some ask) None = h in cc)
      by (Some q) g h =
          (let same : ask ≡ asked_by step.old.serial b sp.sight.now q = cc in
          (ap (λ (a : WaitAsk). a.serial) same ∙ live.serial ∙ own_is, ap (λ (a : WaitAsk). a.branch) same, waiting-gate step.new (began_by begins (ss ++ (sp ∷ []))) b q g))

  pub others : (c : Branch) → c ≢ b → IsWait (gate_at c (fronts step.old ss)) → IsWait (gate_at c (fronts step.new (ss ++ (sp ∷ []))))
  others c apart at =
      subst (λ (began : Began). IsWait (gate_at c (fronts_of step.new began))) (sym behind-is)
      (other-stays step.old step.new (began_by begins ss) sp out.item wait (sight j (length j)) step.step.steps refl (λ ask e. tells j delays w s b ends-told r own_is step.old live ask e ∙ sym wait_is)
      ((λ i. may step.old b (next-now j b i) (wait_is i)) ∙ may-step j delays w s b ends-told r own_is step.old live rs picked.allowed) c apart at)

  -- LAW: all that is known of the runs behind the step
  unfoldable pub made : StepRuns (more j (Step worker s b out.item)) rs out.progress out.wait due w delays os' pairs waiting
  made = record {
    j = j;
    worker = worker;
    serial = s;
    branch = b;
    out = out;
    journal_is = refl;
    right = right;
    fair = step-right j rs worker s b out right is given-for;
    picked = picked;
    own = own_is;
    low = above j rs worker s b right is;
    waits_stand = stand;
    os = os;
    runs_kept = kept;
    calls_kept = calls_kept;
    old = step.old;
    new = step.new;
    there = step.there;
    live = live;
    slots = step.behind;
    serial_is = step.step.serial;
    automation_is = step.step.automation;
    stands = record { items = script_is.items ++ (out.item ∷ []); stands = stands_new };
    told = told;
    due_is = step.due_is (began_by begins (ss ++ (sp ∷ [])));
    wait_is = refl;
    asked = asked;
    others = others;
    free = none-pending j delays w s b ends-told r own_is step.old live rs picked.allowed os step.there kept.held;
    end_is = ap cause_of given.progress ∙ cause-end given.outcome.status ∙ sym (ap (option_and_then (λ (o : Outcome). script_end o.status)) (ap (λ n. ran_on j r (spots j n ++ (sp ∷ []))) own_is ∙ given.whole_is));
  }
