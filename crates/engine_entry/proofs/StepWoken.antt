-- The runs behind a step.
use Rattle.std.proofs.Common.{◌≡◌, ℕ, zero, suc, ◌-◌, ◌<◌, ◌≤◌, ◌⊎◌, List, [], ◌∷◌, ◌++◌, length, set, Bool, true, false, refl, sym, ap, subst, ◌∙◌}
use Rattle.std.specs.Prelude.{Option, None, Some, ◌||◌, nat_eq, is_some, option_and_then}
use Rattle.std.specs.List.{list_any}
use Rattle.std.specs.Option.{option_map_or}
use Rattle.timer_queue.specs.Timers.{Timer, due_of}
use Rattle.ha_journal.specs.declared.entry.Entry.{Entry}
use Rattle.ha_journal.specs.declared.entry.Entry.TheVariants.{Step}
use Rattle.ha_sight.specs.declared.waiting.WaitAsk.{WaitAsk}
use Rattle.ha_sight.specs.declared.steps.Progress.{Progress}
use Rattle.ha_journal.specs.Journal.{Journal, now, more}
use Rattle.ha_sight.specs.Scripts.{Branch}
use Rattle.ha_model.specs.Records.{CallEnds, Records, spots, next_spot}
use Rattle.ha_model.specs.Lawful.{ready}
use Rattle.ha_journal.proofs.MoreLemmas.{has-entry}
use Rattle.ha_ready.specs.Agree.{AgreesBut, step_at, touched}
use Rattle.ha_ready.specs.ReadyPairs.{branches_with, ends_at, pairs_from}
use Rattle.ha_ready.proofs.RunPast.{all-past}
use Rattle.ha_ready.proofs.ReadyLemmas.{ready-pairs}
use Rattle.script_step.specs.declared.frames.Frames.{Frames}
use Rattle.script_calls.specs.Waiting.{Waiting}
use Rattle.script_step.specs.Frames.{ask_of}
use Rattle.script_step.specs.Gates as gates
use Rattle.script_step.specs.Gates.{Fronts}
use Rattle.trig_set.specs.declared.set.TrigSet.{TrigSet}
use Rattle.trig_set.specs.Stands as triggers
use Rattle.wait_set.specs.Asked.{WaitTable}
use Rattle.wait_set.specs.Timers.{timer_added}
use Rattle.engine_parts.specs.declared.parts.Parts.{Parts}
use Rattle.engine_parts.specs.declared.ready.Ready.{Ready}
use Rattle.engine_parts.specs.Called.{CallsKept, told_by}
use Rattle.engine_parts.specs.Fronts.{fronts}
use Rattle.engine_parts.specs.Kept.{Going, KeysBelow, Owned, SlotBut, nobody}
use Rattle.engine_parts.specs.Pending.{AreOthers, AreWaits}
use Rattle.engine_parts.specs.Runs.{AreHeld, LiveKept, SlotsKept, Waking}
use Rattle.engine_parts.specs.Stages.{Noted}
use Rattle.engine_parts.specs.Stepped.{AskTaken, DueTaken, OthersKept, OthersTold}
use Rattle.engine_entry.specs.Stepping.{CallBegun, StepRuns, asks_with}
use Rattle.engine_parts.specs.Touched.{QueueKept, due_places, wait_places}
use Rattle.engine_parts.specs.Waiting.{TellsEnds, fresh}
use Rattle.engine_entry.proofs.DelayLemmas.{due-added, places-added, queue-added, queue-both}
use Rattle.engine_entry.proofs.CallsStepped.{calls-stepped}
use Rattle.engine_parts.proofs.ToldLemmas.{told-first, told-last}
use Rattle.engine_parts.proofs.ForgetLemmas.{slots-length}
use Rattle.engine_parts.proofs.StepKept.{stepped-kept}
use Rattle.engine_parts.proofs.StepWakes.{step-agrees, step-slots, step-waking}
use Rattle.engine_entry.proofs.TakenWaits.{held-taken, taken-branches, taken-ends, taken-others, taken-own}
use Rattle.engine_parts.proofs.WaitWords.{stands-tells}

-- pairs that agree but for some runs agree but for more
agrees-less : (told : CallEnds) (left left' : ℕ → Bool) (rs : Records) (k : Journal) (pairs : List (ℕ × Branch)) → ((s : ℕ) → left' s ≡ false → left s ≡ false) → AgreesBut told left rs k pairs → AgreesBut told left' rs k pairs
agrees-less told left left' rs k pairs less h = record { by = h.by; pairs_are = h.pairs_are; agree = λ s low high none. h.agree s low high (less s none) }

any-append : {X : Type 0} (p : X → Bool) (xs ys : List X) → list_any p (xs ++ ys) ≡ (list_any p xs || list_any p ys)
any-append p [] ys = refl
any-append p (x ∷ xs) ys = by (p x) (any-append p xs ys)
  where
    by : (b : Bool) → list_any p (xs ++ ys) ≡ (list_any p xs || list_any p ys) → (b || list_any p (xs ++ ys)) ≡ ((b || list_any p xs) || list_any p ys)
    by true e = refl
    by false e = e

or-left : (a b : Bool) → (a || b) ≡ false → a ≡ false
or-left true b h = absurd (let bad : ◌≡◌ {A = Bool} true false = h in cc)
or-left false b h = refl

or-right : (a b : Bool) → (a || b) ≡ false → b ≡ false
or-right true b h = absurd (let bad : ◌≡◌ {A = Bool} true false = h in cc)
or-right false b h = h

set-length : {X : Type 0} (xs : List X) (i : ℕ) (x : X) → length (set xs i x) ≡ length xs
set-length [] i x = refl
set-length (y ∷ xs) zero x = refl
set-length (y ∷ xs) (suc i) x = ap suc (set-length xs i x)

module _ (rs : Records) (w0 w1 : WaitTable) (delays0 : List Timer) (p : Parts) (delays' : List Timer) (t' : TrigSet) (ready' : Ready) (calls' : Waiting) (progress : Progress) (wait : Option WaitAsk) (due : Option ℕ) (place : ℕ) where
  -- what the work on a journal k says
  abbrev pub IsStepWoken : Journal → Type 0
  IsStepWoken k =
      ((j : Journal) → triggers.StandsFor p.triggers j → triggers.StandsFor t' j) × ((j : Journal) → AreWaits p.waits.fresh → AreOthers p.waits.fresh p.waits.asks → Owned j p.triggers p.waits → Owned j t' p.waits)
      × QueueKept p.at p.delays delays' × ((n : ℕ) → KeysBelow n p.delays → KeysBelow n delays')
      × ((told : CallEnds) (rs : Records) → Waking told rs k p.waits p.frames.items p.at → AgreesBut told (touched k (place ∷ (due_places p.at p.delays ++ wait_places (fresh p.waits)))) rs k p.ready.pairs.items
      → ready'.pairs.items ≡ pairs_from 0 (length rs) (branches_with told rs k))

  module _ (k0 : Journal) (h : StepRuns k0 rs progress wait due w0 delays0 p.frames.items p.ready.pairs.items p.calls) (here : length h.j ≡ place) (asks : w1.asks ≡ asks_with (length h.j) wait w0.asks)
      (queue_is : p.delays ≡ timer_added due (length h.j) delays0) (keys : KeysBelow (length h.j) delays0)
      (begun : CallBegun (option_map_or (λ ask. ask.called) (ask_of h.new h.branch) false) (length p.frames.items) h.serial h.branch p.calls calls') where
    abbrev j : Journal
    j = h.j

    abbrev x : Entry
    x = Step h.worker h.serial h.branch h.out.item

    abbrev k : Journal
    k = more j x

    abbrev s : ℕ
    s = h.serial

    abbrev b : Branch
    b = h.branch

    -- where called runs ended as far as it is told
    abbrev so : CallEnds
    so = told_by nobody k rs

    same-told : (q : ℕ) → q < length j → so q ≡ ends_at j q
    same-told q lt = told-first j x rs h.right.records_are q lt

    none-last : so (length j) ≡ None
    none-last = told-last j x rs (all-past j rs h.right)

    abbrev behind : Fronts
    behind = fronts h.new (spots j s ++ (next_spot j b ∷ []))

    whose : (ask : WaitAsk) → wait ≡ Some ask → (ask.serial ≡ s) × (ask.branch ≡ b)
    whose ask e = (let own = h.asked ask e in (own.0, own.1))

    module _ (noted : Noted k w1 p) (woken : IsStepWoken k) where
      same-now : now k ≡ p.at
      same-now = sym noted.sees.looks.now_is

      others-told : OthersTold w0 p.waits s
      others-told = record {
        asks = λ q other c. noted.told.asks q c ∙ taken-others (length j) s b wait w0 w1 whose asks q other c;
        grow = λ q other c a found.
            noted.told.grow q c a (taken-others (length j) s b wait w0 w1 whose asks q other c ∙ found)
            ∙ ap (λ o. is_some o || list_any (nat_eq a.owner) (fresh p.waits)) (taken-ends (length j) s b wait w0 w1 whose asks q other c);
      }

      others-kept : OthersKept w0 p.waits s b
      others-kept c apart = noted.told.asks s c ∙ taken-branches (length j) s b wait w0 w1 whose asks c apart

      ask-taken : AskTaken (length j) s b h.out p.waits
      ask-taken ask e = noted.told.asks s b ∙ taken-own (length j) s b wait w0 w1 whose asks ask (h.wait_is ∙ e)

      queue : QueueKept (now k) delays0 delays'
      queue =
          subst (λ n. QueueKept n delays0 delays') (sym same-now)
          (queue-both p.at delays0 p.delays delays' (subst (QueueKept p.at delays0) (sym queue_is) (queue-added p.at (length j) due delays0 keys)) woken.2)

      due-taken : DueTaken (now k) (length j) b behind delays'
      due-taken d e =
          (let own : due ≡ Some d = h.due_is ∙ ap (option_and_then gates.due_of) e in
          let queued : due_of (length j) p.delays ≡ Some d = ap (due_of (length j)) (queue_is ∙ ap (λ o. timer_added o (length j) delays0) own) ∙ due-added (length j) d delays0 keys in
          subst (λ n. (d ≤ n) ⊎ (due_of (length j) delays' ≡ Some d)) (sym same-now) (woken.2 (length j) d queued))

      live-behind : LiveKept so k delays' p.waits h.picked.run h.new
      live-behind =
          stepped-kept (ends_at j) so j same-told none-last h.worker s b h.out.item delays0 delays' w0 p.waits h.picked.run h.old h.new h.out (has-entry j h.right.journal) h.own h.live h.serial_is h.automation_is h.stands h.told queue others-kept due-taken ask-taken

      before-told : TellsEnds w0 j
      before-told = stands-tells w0 j h.waits_stand

      after-told : TellsEnds p.waits k
      after-told = stands-tells p.waits k noted.told.waits_stand

      waking : Waking so rs k p.waits p.frames.items p.at
      waking =
          subst (λ (os : List (Option Frames)). Waking so rs k p.waits os p.at) (sym h.slots)
          (step-waking so j same-told rs h.worker s b h.out.item delays0 delays' w0 p.waits h.os h.right others-told h.picked h.own h.new p.at noted.sees.looks.now_is queue after-told h.runs_kept.slots live-behind)

      slots : SlotsKept so k delays' p.waits rs p.frames.items
      slots =
          subst (λ (os : List (Option Frames)). SlotsKept so k delays' p.waits rs os) (sym h.slots)
          (step-slots so j same-told rs h.worker s b h.out.item delays0 delays' w0 p.waits h.os h.right others-told h.picked h.own h.new queue h.runs_kept.slots live-behind)

      -- what the work touches, and what the step did
      less : (q : ℕ) → touched k (place ∷ (due_places p.at p.delays ++ wait_places (fresh p.waits))) q ≡ false → touched k (length j ∷ (due_places (now k) delays0 ++ wait_places (fresh p.waits))) q ≡ false
      less q none =
          (let test : ℕ → Bool = step_at k q in
          let parts : (list_any test (due_places p.at p.delays) || list_any test (wait_places (fresh p.waits))) ≡ false
          = sym (any-append test (due_places p.at p.delays) (wait_places (fresh p.waits))) ∙ or-right (test place) (list_any test (due_places p.at p.delays ++ wait_places (fresh p.waits))) none in
          let waits' : list_any test (wait_places (fresh p.waits)) ≡ false = or-right (list_any test (due_places p.at p.delays)) (list_any test (wait_places (fresh p.waits))) parts in
          let dues' : list_any test (due_places p.at delays0) ≡ false
          = places-added test p.at due (length j) delays0 (ap (λ l. list_any test (due_places p.at l)) (sym queue_is) ∙ or-left (list_any test (due_places p.at p.delays)) (list_any test (wait_places (fresh p.waits))) parts) in
          let own : test (length j) ≡ false = ap test here ∙ or-left (test place) (list_any test (due_places p.at p.delays ++ wait_places (fresh p.waits))) none in
          (λ i. own i || any-append test (due_places (same-now i) delays0) (wait_places (fresh p.waits)) i) ∙ (λ i. dues' i || waits' i))

      agrees : AgreesBut so (touched k (place ∷ (due_places p.at p.delays ++ wait_places (fresh p.waits)))) rs k p.ready.pairs.items
      agrees =
          subst (λ l. AgreesBut so (touched k (place ∷ (due_places p.at p.delays ++ wait_places (fresh p.waits)))) rs k l) (ready-pairs j rs h.right ∙ sym h.runs_kept.pairs_are)
          (agrees-less so (touched k (length j ∷ (due_places (now k) delays0 ++ wait_places (fresh p.waits)))) (touched k (place ∷ (due_places p.at p.delays ++ wait_places (fresh p.waits)))) rs k (ready rs j) less
          (step-agrees so j same-told rs h.worker s b h.out.item delays0 delays' w0 p.waits h.os h.right others-told before-told after-told h.runs_kept.slots))

      held : AreHeld k p.frames.items p.waits.asks
      held =
          noted.told.held k p.frames.items
          (subst (λ (os : List (Option Frames)). AreHeld k os w1.asks) (sym h.slots)
          (subst (AreHeld k (set h.os (s - 1) (Some h.new))) (sym asks)
          (held-taken j h.worker s b h.out.item h.os h.old h.new h.low h.there h.others (length j) wait h.asked w0.asks h.free h.runs_kept.held)))

      calls-kept : CallsKept so k rs calls' p.frames.items
      calls-kept =
          (let slots-are : length h.os ≡ length rs = slots-length (SlotBut nobody (ends_at j) j delays0 w0) rs h.os h.runs_kept.slots in
          let same-count : length p.frames.items ≡ length h.os = ap length h.slots ∙ set-length h.os (s - 1) (Some h.new) in
          subst (λ (os : List (Option Frames)). CallsKept so k rs calls' os) (sym h.slots)
          (calls-stepped j rs h.worker s b h.out h.right h.picked h.low h.own delays0 w0 h.os h.runs_kept.slots slots-are p.calls calls' h.calls_kept h.old h.new h.there h.live h.told h.others h.free
          (subst (λ n. CallBegun (option_map_or (λ ask. ask.called) (ask_of h.new b) false) n s b p.calls calls') same-count begun)))

      -- LAW: the parts stand for the journal with the step, but for the records that it changes
      pub step-woken : Going nobody k rs (record p { delays = delays'; triggers = t'; ready = ready'; calls = calls' })
      step-woken = record {
        sees = record {
          looks = noted.sees.looks;
          helpers_stand = noted.sees.helpers_stand;
          switches_stand = noted.sees.switches_stand;
          changed_is = noted.sees.changed_is;
          sound = noted.sees.sound;
          few = noted.sees.few;
          free_is = noted.sees.free_is;
          ascending_is = noted.sees.ascending_is;
        };
        triggers_stand = woken.0 k noted.told.triggers_stand;
        waits_stand = noted.told.waits_stand;
        owned = woken.1 k noted.told.fresh noted.told.others noted.told.owned;
        keys_early = woken.3 (length k) noted.keys_early;
        runs_kept = record { slots = slots; pairs_are = woken.4 so rs waking agrees; held = held };
        calls_kept = calls-kept;
      }

    -- LAW: the same at the journal as it is
    pub step-woken-as : Noted k0 w1 p → IsStepWoken k0 → Going nobody k0 rs (record p { delays = delays'; triggers = t'; ready = ready'; calls = calls' })
    step-woken-as noted woken =
        subst (λ (i : Journal). Going nobody i rs (record p { delays = delays'; triggers = t'; ready = ready'; calls = calls' })) (sym h.journal_is)
        (step-woken (subst (λ (i : Journal). Noted i w1 p) h.journal_is noted) (subst IsStepWoken h.journal_is woken))
