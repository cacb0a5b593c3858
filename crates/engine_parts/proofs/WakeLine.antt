-- The runs behind a line.
use Rattle.std.proofs.Common.{◌≡◌, ℕ, ◌<◌, List, ◌++◌, length, sym, subst, ◌∙◌}
use Rattle.timer_queue.specs.Timers.{Timer}
use Rattle.ha_config.specs.declared.command.Cmd.{Cmd}
use Rattle.ha_journal.specs.declared.entry.Entry.{Entry}
use Rattle.ha_journal.specs.declared.entry.Entry.TheVariants.{Line}
use Rattle.ha_journal.specs.Journal.{Journal, now, more}
use Rattle.ha_model.specs.Records.{CallEnds, Records}
use Rattle.ha_model.specs.Lawful.{Right, ready}
use Rattle.trig_set.specs.declared.set.TrigSet.{TrigSet}
use Rattle.trig_set.specs.Stands as triggers
use Rattle.wait_set.specs.Asked.{WaitTable}
use Rattle.wait_set.specs.Stands as waits
use Rattle.engine_parts.specs.declared.parts.Parts.{Parts}
use Rattle.engine_parts.specs.declared.ready.Ready.{Ready}
use Rattle.engine_parts.specs.Waiting.{fresh}
use Rattle.engine_parts.specs.Pending.{AreOthers, AreWaits}
use Rattle.ha_ready.specs.ReadyPairs.{pairs_from, branches_with, ends_at}
use Rattle.engine_parts.specs.Runs.{Waking}
use Rattle.ha_ready.specs.Agree.{AgreesBut, touched}
use Rattle.engine_parts.specs.Touched.{QueueKept, due_places, wait_places}
use Rattle.engine_parts.specs.Kept.{Going, KeysBelow, Owned, RunsKept, nobody}
use Rattle.engine_parts.specs.Stages.{Noted, RunsBefore}
use Rattle.ha_ready.proofs.ReadyLemmas.{ready-pairs}
use Rattle.engine_parts.proofs.SteppersRun.{line-agrees, line-slots, line-waking}
use Rattle.engine_parts.proofs.WaitWords.{stands-tells}
use Rattle.engine_parts.proofs.HeldLemmas.{line-held}
use Rattle.engine_parts.specs.Called.{CallsKept, told_by}
use Rattle.engine_parts.proofs.ToldLemmas.{told-first}
use Rattle.engine_parts.proofs.CalledLemmas.{calls-line}

module _ (rs : Records) (w : WaitTable) (p : Parts) (delays' : List Timer) (t' : TrigSet) (ready' : Ready) where
  -- what the work on a journal k says
  abbrev pub IsWoken : Journal → Type 0
  IsWoken k =
      ((j : Journal) → triggers.StandsFor p.triggers j → triggers.StandsFor t' j) × ((j : Journal) → AreWaits p.waits.fresh → AreOthers p.waits.fresh p.waits.asks → Owned j p.triggers p.waits → Owned j t' p.waits)
      × QueueKept p.at p.delays delays' × ((n : ℕ) → KeysBelow n p.delays → KeysBelow n delays')
      × ((told : CallEnds) (rs : Records) → Waking told rs k p.waits p.frames.items p.at → AgreesBut told (touched k (due_places p.at p.delays ++ wait_places (fresh p.waits))) rs k p.ready.pairs.items
      → ready'.pairs.items ≡ pairs_from 0 (length rs) (branches_with told rs k))

  -- LAW: the parts stand for the journal with the line, but for the records that it changes
  woken-line : (j : Journal) (source number : ℕ) (cmd : Cmd) → Right j rs → waits.StandsFor w.asks j → RunsKept (ends_at j) nobody j rs p.delays w p.frames.items p.ready.pairs.items → CallsKept (ends_at j) j rs p.calls p.frames.items
      → Noted (more j (Line source number cmd)) w p → IsWoken (more j (Line source number cmd)) → Going nobody (more j (Line source number cmd)) rs (record p { delays = delays'; triggers = t'; ready = ready' })
  woken-line j source number cmd right stood runs calls noted woken =
      let x : Entry = Line source number cmd in
      let k : Journal = more j x in
      let told : CallEnds = told_by nobody k rs in
      let same : (p : ℕ) → p < length j → told p ≡ ends_at j p = told-first j x rs right.records_are in
      let before = stands-tells w j stood in
      let after = stands-tells p.waits k noted.told.waits_stand in
      let queue : QueueKept (now k) p.delays delays' = subst (λ n. QueueKept n p.delays delays') noted.sees.looks.now_is woken.2 in
      let waking : Waking told rs k p.waits p.frames.items p.at = line-waking told j same rs source number cmd p.delays delays' w p.waits p.frames.items p.at right noted.sees.looks.now_is queue noted.told.asks after runs.slots in
      let agrees : AgreesBut told (touched k (due_places (now k) p.delays ++ wait_places (fresh p.waits))) rs k (ready rs j) = line-agrees told j same rs source number cmd p.delays w p.waits p.frames.items right before after noted.told.asks noted.told.grow runs.slots in
      let old : ready rs j ≡ p.ready.pairs.items = ready-pairs j rs right ∙ sym runs.pairs_are in
      let at : now k ≡ p.at = sym noted.sees.looks.now_is in
      let left : AgreesBut told (touched k (due_places p.at p.delays ++ wait_places (fresh p.waits))) rs k p.ready.pairs.items
      = subst (λ n. AgreesBut told (touched k (due_places n p.delays ++ wait_places (fresh p.waits))) rs k p.ready.pairs.items) at (subst (λ l. AgreesBut told (touched k (due_places (now k) p.delays ++ wait_places (fresh p.waits))) rs k l) old agrees) in
      record {
        sees = record { looks = noted.sees.looks; helpers_stand = noted.sees.helpers_stand; switches_stand = noted.sees.switches_stand; changed_is = noted.sees.changed_is; sound = noted.sees.sound; few = noted.sees.few; free_is = noted.sees.free_is; ascending_is = noted.sees.ascending_is };
        triggers_stand = woken.0 k noted.told.triggers_stand;
        waits_stand = noted.told.waits_stand;
        owned = woken.1 k noted.told.fresh noted.told.others noted.told.owned;
        keys_early = woken.3 (length k) noted.keys_early;
        runs_kept = record { slots = line-slots told j same rs source number cmd p.delays delays' w p.waits p.frames.items right queue noted.told.asks runs.slots; pairs_are = woken.4 told rs waking left; held = line-held j source number cmd p.frames.items p.waits.asks (noted.told.held j p.frames.items runs.held) };
        calls_kept = calls-line (ends_at j) told j source number cmd same rs p.delays w p.frames.items right runs.slots p.calls calls;
      }

  pub woken : (k : Journal) → Noted k w p → RunsBefore k rs w p.delays p.frames.items p.ready.pairs.items p.calls → IsWoken k → Going nobody k rs (record p { delays = delays'; triggers = t'; ready = ready' })
  woken k noted before is =
      let move : more before.j (Line before.source before.number before.cmd) ≡ k = sym before.journal_is in
      subst (λ (i : Journal). Going nobody i rs (record p { delays = delays'; triggers = t'; ready = ready' })) move
      (woken-line before.j before.source before.number before.cmd before.right before.waits_stand before.runs_kept before.calls_kept (subst (λ (i : Journal). Noted i w p) before.journal_is noted) (subst IsWoken before.journal_is is))
