use Rattle.std.proofs.Common.{◌≡◌, ℕ, ◌-◌, List, length, set, filter, sym, subst, arith}
use Rattle.std.specs.Prelude.{Option, None, not, nat_eq}
use Rattle.ha_sight.specs.Scripts.{Branch}
use Rattle.script_step.specs.declared.frames.Frames.{Frames}
use Rattle.trig_set.specs.Stands.{attached}
use Rattle.wait_set.specs.Asked.{WaitTable, without_run}
use Rattle.engine_parts.specs.Kept.{Owned, RunsKept, SlotBut, left_branches}
use Rattle.engine_parts.specs.Lower.{Ascends}
use Rattle.engine_parts.specs.Records.{also}
use Rattle.engine_parts.specs.Called.{CallsKept}
use Rattle.engine_parts.proofs.CalledLemmas.{calls-forgot}
use Rattle.engine_parts.proofs.HeldLemmas.{held-without}
use Rattle.engine_parts.proofs.PutLemmas.{pairs-ascend}
use Rattle.engine_parts.proofs.ForgetLemmas.{owners-apart, others-one, owned-left, asks-left, run-gone, slots-length}
use Rattle.engine_parts.proofs.forget.clear_run.Goals as goal

pub returns-clause-going : goal.returns-clause-going
returns-clause-going c told gone k rs numbered low high going =
    let p = c.args.parts.now in
    let s : ℕ = c.args.serial in
    let rest : WaitTable = record { asks = without_run s p.waits.asks; fresh = p.waits.fresh } in
    let table : c.drop_run.new.self ≡ rest = (λ i. record { asks = c.drop_run.ensures.rest i; fresh = c.drop_run.ensures.fresh i }) in
    let owned = owned-left s k p.triggers p.waits going.owned in
    let size : length p.frames.items ≡ length rs = slots-length (SlotBut gone told k p.delays p.waits) rs p.frames.items going.runs_kept.slots in
    let by_runs : Ascends 0 p.ready.pairs.items = subst (Ascends 0) (sym going.runs_kept.pairs_are) (pairs-ascend 0 (length rs) (left_branches gone told rs k)) in
    let slot = c.clear_slot.ensures.slot (omega (arith, size, low, high)) in
    let runs : RunsKept told (also gone s) k rs p.delays rest (set p.frames.items (s - 1) None) (filter (λ (x : ℕ × Branch). not (nat_eq x.0 s)) p.ready.pairs.items)
    = run-gone told gone s k rs numbered low p.delays p.waits rest p.frames.items p.ready.pairs.items (asks-left s p.waits) (held-without k p.frames.items s None low p.waits.asks) going.runs_kept in
    record {
      sees = record { looks = going.sees.looks; helpers_stand = going.sees.helpers_stand; switches_stand = going.sees.switches_stand; changed_is = going.sees.changed_is; sound = going.sees.sound; few = going.sees.few; free_is = going.sees.free_is; ascending_is = going.sees.ascending_is };
      triggers_stand = c.detach_run.ensures.stands k going.triggers_stand;
      waits_stand = c.drop_run.ensures.stands k going.waits_stand;
      owned = subst (λ (w : WaitTable). Owned k c.detach_run.new.triggers w) (sym table)
          (c.detach_run.ensures.owned k (λ i o e. (let known = owners-apart s (length k) (attached p.triggers) p.waits.asks going.owned.apart going.owned.waits_owned i o e in
          (known.0, others-one o (without_run s p.waits.asks) known.1))) owned);
      keys_early = going.keys_early;
      runs_kept =
          subst (λ (l : List (ℕ × Branch)). RunsKept told (also gone s) k rs p.delays c.drop_run.new.self c.clear_slot.new.frames.items l) (sym (c.drop_pairs.ensures.rest by_runs))
          (subst (λ (os : List (Option Frames)). RunsKept told (also gone s) k rs p.delays c.drop_run.new.self os (filter (λ (x : ℕ × Branch). not (nat_eq x.0 s)) p.ready.pairs.items)) (sym slot)
          (subst (λ (w : WaitTable). RunsKept told (also gone s) k rs p.delays w (set p.frames.items (s - 1) None) (filter (λ (x : ℕ × Branch). not (nat_eq x.0 s)) p.ready.pairs.items)) (sym table) runs));
      calls_kept = subst (λ (os : List (Option Frames)). CallsKept told k rs c.drop_run-2.new.self os) (sym slot)
          (calls-forgot told k rs p.calls c.drop_run-2.new.self p.frames.items s low c.drop_run-2.ensures.rest going.calls_kept);
    }
