-- A worker's step, from what is kept before it.
use Rattle.std.proofs.Common.{◌≡◌, ℕ, suc, ◌+◌, ◌-◌, ◌<◌, ◌≤◌, List, [], ◌∷◌, length, length-append, Bool, true, false, refl, sym, ap, subst, ◌∙◌, rules, arith}
use Rattle.std.specs.Prelude.{Option, Some, None, IsTrue, ◌&&◌, is_none, option_map}
use Rattle.std.specs.List.{list_any}
use Rattle.engine_parts.specs.Slots.{SlotTable}
use Rattle.ha_journal.specs.declared.entry.Entry.TheVariants.{Step}
use Rattle.ha_sight.specs.declared.waiting.WaitAsk.{WaitAsk}
use Rattle.ha_sight.specs.declared.waiting.WaitEnd.{WaitEnd}
use Rattle.ha_sight.specs.declared.steps.StepOut.{StepOut}
use Rattle.ha_journal.specs.Journal.{Journal, now, more, units}
use Rattle.ha_model.specs.Lawful.{is_empty, pick, ready}
use Rattle.ha_model.specs.Records.{Records, actions_of}
use Rattle.ha_sight.specs.Scripts.{Ask, Branch}
use Rattle.ha_config.specs.Sound.{are_sound_actions, are_sound_triggers}
use Rattle.ha_journal.specs.Moves.{sight}
use Rattle.ha_ready.specs.Picked.{IsPicked}
use Rattle.ha_ready.specs.ReadyPairs.{ends_at}
use Rattle.std.proofs.lemmas.Option.{slice_get_within}
use Rattle.segment_runs.specs.Goes.{moved_all}
use Rattle.segment_runs.specs.Segment.{Closed, all_of, number_at}
use Rattle.script_step.specs.declared.frames.Frames.{Frames}
use Rattle.script_step.specs.Frames.{ask_of, asked_by, may}
use Rattle.wait_set.specs.Asked.{is_of}
use Rattle.engine_parts.specs.declared.parts.Parts.{Parts}
use Rattle.engine_parts.specs.Runs.{LiveKept}
use Rattle.engine_entry.specs.Stepping.{MaySlot, SlotStep, StepPushed, StepRuns, Stepping}
use Rattle.engine_parts.specs.Waiting.{TellsEnds, ends}
use Rattle.ha_engine.proofs.AskSound.{ask-sound}
use Rattle.engine_parts.proofs.KeptLemmas.{kept-ready}
use Rattle.ha_engine.proofs.StepBegins.{may-step, own, runner, the_pair}
use Rattle.ha_engine.proofs.StepMade.{live, made, picked}
use Rattle.engine_parts.proofs.WaitWords.{stands-tells}

some-pair : (xs : List (ℕ × Branch)) → is_empty xs ≡ false → 0 < length xs
some-pair [] h = absurd (let bad : ◌≡◌ {A = Bool} true false = h in cc)
some-pair (x ∷ xs) h = omega arith

true-is : (b : Bool) → b ≡ true → IsTrue b
true-is b h = search (rules, h)

module _ (j : Journal) (rs : Records) (p : Parts) (h : Stepping j rs p) (acts : (a : ℕ) → are_sound_actions (actions_of (units j) a) ≡ true) where
  same-pairs : p.ready.pairs.items ≡ ready rs j
  same-pairs = kept-ready j rs p h.right h.kept

  -- LAW: some pair is ready
  pub pairs-there : 0 < length p.ready.pairs.items
  pairs-there = subst (λ (l : List (ℕ × Branch)). 0 < length l) (sym same-pairs) (some-pair (ready rs j) h.busy)

  module _ (worker s : ℕ) (b : Branch) (found : pick worker p.ready.pairs.items ≡ Some (s, b)) where
    -- LAW: the definition picks it
    pub picks : pick worker (ready rs j) ≡ Some (s, b)
    picks = ap (pick worker) (sym same-pairs) ∙ found

    -- LAW: it is one of the runs, also behind those of closed segments
    pub within-all : (c : Closed) (base : ℕ) → length c.records ≡ base → base + s ≤ length (all_of c rs)
    within-all c base e =
        (let pair : IsPicked rs j s b = the_pair j rs worker s b h.right picks in
        let within : s - 1 < length rs = slice_get_within rs (s - 1) pair.run pair.found in
        omega (arith, e, within, length-append c.records (moved_all c.entries (length c.records) (number_at c.numbers) rs), long rs))
      where
        long : (xs : Records) → length (moved_all c.entries (length c.records) (number_at c.numbers) xs) ≡ length xs
        long [] = refl
        long (x ∷ xs) = ap suc (long xs)

    told-ends : TellsEnds p.waits j
    told-ends = stands-tells p.waits j h.kept.going.waits_stand

    module _ (wait : Option WaitEnd) (wait_is : wait ≡ ends p.waits s b) where
      -- LAW: and its run may step
      pub may-slot : MaySlot j s b p.at wait p.frames.items
      may-slot =
          (let pair : IsPicked rs j s b = the_pair j rs worker s b h.right picks in
          let run = runner j rs worker s b h.right picks p.delays p.waits p.frames.items pair p.ready.pairs.items h.kept.going.runs_kept in
          record {
            frames = run.0;
            there = run.1;
            script = ap (actions_of (units j)) run.2.automation ∙ sym run.2.stands.stands.script;
            may = (λ i. may run.0 b (h.kept.going.sees.looks.now_is i) (wait_is i))
                ∙ may-step j p.delays p.waits s b told-ends pair.run (own j rs worker s b h.right picks pair) run.0 run.2 rs pair.allowed;
          })

      module _ (frames' : SlotTable Frames) (out : StepOut) (due : Option ℕ) (step : SlotStep (sight j (length j)) s b wait p.frames.items frames'.items out due) where
        -- what the step asks of the waits has sound triggers
        sound : (ask : WaitAsk) → out.wait ≡ Some ask → IsTrue (are_sound_triggers ask.triggers)
        sound ask e = by (ask_of step.new b) (λ q f. f) (sym e ∙ step.step.wait_is)
          where
            lives : LiveKept (ends_at j) j p.delays p.waits (picked j rs worker s b h.right picks p.delays p.waits p.frames.items p.ready.pairs.items p.calls h.kept.going.runs_kept h.kept.going.calls_kept h.kept.going.waits_stand wait wait_is frames'.items out due step).run step.old
            lives = live j rs worker s b h.right picks p.delays p.waits p.frames.items p.ready.pairs.items p.calls h.kept.going.runs_kept h.kept.going.calls_kept h.kept.going.waits_stand wait wait_is frames'.items out due step

            script : are_sound_actions step.new.script.value ≡ true
            script = ap are_sound_actions (step.step.steps.script ∙ lives.stands.stands.script) ∙ acts (the_pair j rs worker s b h.right picks).run.automation

            by : (o : Option Ask) → ((q : Ask) → o ≡ Some q → ask_of step.new b ≡ Some q) → Some ask ≡ option_map (asked_by step.old.serial b (sight j (length j)).now) o → IsTrue (are_sound_triggers ask.triggers)
            by None is f = absurd (let bad : ◌≡◌ {A = Option WaitAsk} (Some ask) None = f in cc)
            by (Some q) is f =
                (let same : ask ≡ asked_by step.old.serial b (sight j (length j)).now q = cc in
                true-is (are_sound_triggers ask.triggers) (ap (λ (a : WaitAsk). are_sound_triggers a.triggers) same ∙ ask-sound b step.new.root step.new.script.value q script (is q refl)))

        free-of : (m : StepRuns (more j (Step worker s b out.item)) rs out.progress out.wait due p.waits p.delays frames'.items p.ready.pairs.items p.calls) (ask : WaitAsk) → out.wait ≡ Some ask
            → list_any (λ a. is_of ask.serial ask.branch a && is_none a.end) p.waits.asks ≡ false
        free-of m ask e =
            (let whose = m.asked ask e in
            subst (λ n. list_any (λ a. is_of n ask.branch a && is_none a.end) p.waits.asks ≡ false) (sym whose.0)
            (subst (λ (c : Branch). list_any (λ a. is_of m.serial c a && is_none a.end) p.waits.asks ≡ false) (sym whose.1) m.free))

        -- LAW: what is known once it was pushed
        pub pushed : StepPushed (more j (Step worker s b out.item)) rs (record p { frames = frames' }) out.progress out.wait due
        unfolding made
        pushed =
            (let runs : StepRuns (more j (Step worker s b out.item)) rs out.progress out.wait due p.waits p.delays frames'.items p.ready.pairs.items p.calls
            = made j rs worker s b h.right picks p.delays p.waits p.frames.items p.ready.pairs.items p.calls h.kept.going.runs_kept h.kept.going.calls_kept h.kept.going.waits_stand wait wait_is frames'.items out due step in
            let sees = h.kept.going.sees in
            record {
              runs = runs;
              room = h.room;
              sees = record { looks = sees.looks; helpers_stand = sees.helpers_stand; switches_stand = sees.switches_stand; changed_is = sees.changed_is; sound = sees.sound; few = sees.few; free_is = sees.free_is; ascending_is = sees.ascending_is };
              triggers_stand = h.kept.going.triggers_stand;
              owned = h.kept.going.owned;
              keys_early = h.kept.going.keys_early;
              rested_is = h.kept.rested_is;
              taken = record { sound = sound; free = free-of runs };
            })
