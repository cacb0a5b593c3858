use Rattle.std.proofs.Common.{◌≡◌, ◌∙◌, ℕ, length, refl, sym, ap, subst, arith}
use Rattle.std.specs.Prelude.{Option, [], None, Some, is_some, if◌then◌else◌}
use Rattle.std.specs.Option.{option_map_or}
use Rattle.ha_sight.specs.Scripts.{Branch}
use Rattle.script_calls.specs.Waiting.{Caller, caller_of}
use Rattle.wait_set.specs.Asked.{WaitTable, finished}
use Rattle.trig_set.specs.Stands.{attached}
use Rattle.wait_set.specs.Stands as waits
use Rattle.engine_parts.specs.Called.{owner_at}
use Rattle.engine_parts.specs.Without.{without_owners}
use Rattle.engine_parts.specs.declared.parts.Parts.{Parts}
use Rattle.engine_parts.specs.Kept.{GoingWith, left_branches}
use Rattle.engine_parts.proofs.EndedCallLemmas.{calls-after, so}
use Rattle.engine_parts.proofs.FinishedLemmas.{others-finished, owned-woken}
use Rattle.engine_parts.proofs.WokenLemmas.{pending, unwoken-runs, woken-runs, within}
use Rattle.engine_parts.proofs.called.wake_caller.Goals as goal

pub resume-requires : goal.resume-requires
resume-requires c =
    let fewer = c.run_ended.ensures.fewer in
    let one : ◌≡◌ {A = ℕ} (if is_some c.run_ended.result then 1 else 0) 1 = (λ i. if is_some (c.in-Some.is i) then 1 else 0) in
    omega (arith, c.requires.1, fewer, one)

pub returns-in-Some-clause-going : goal.returns-in-Some-clause-going
returns-in-Some-clause-going c told gone k rs table going =
    let p = c.args.parts.now in
    let s : ℕ = c.in-Some.serial in
    let b : Branch = c.in-Some.branch in
    let caller : caller_of c.args.called p.calls ≡ Some (s, b) = sym c.run_ended.ensures.caller ∙ c.in-Some.is in
    let runs = going.runs_kept in
    let calls = going.calls_kept in
    let wait = pending gone told k rs table c.args.called c.args.place p.calls p.delays p.waits p.frames.items runs.slots calls s b caller in
    let low = calls.callers c.args.called s b caller in
    let moved = woken-runs gone told k rs table c.args.called c.args.place p.calls p.delays p.waits p.frames.items runs.slots calls s b caller c.resume.new.parts.ready.pairs.items
    (c.resume.ensures.pairs (length rs) (left_branches gone told rs k) runs.pairs_are low.low (within gone told k rs table c.args.called c.args.place p.calls p.delays p.waits p.frames.items runs.slots calls s b caller)) runs.held in
    let v : WaitTable = record { asks = finished s b c.args.place p.waits.asks; fresh = p.waits.fresh } in
    let all : GoingWith (so told k rs c.args.called c.args.place p.calls) gone k rs (record p { calls = c.run_ended.new.self; triggers = c.resume.new.parts.triggers; waits = v; ready = c.resume.new.parts.ready })
    = record {
      sees = record { looks = going.sees.looks; helpers_stand = going.sees.helpers_stand; switches_stand = going.sees.switches_stand; changed_is = going.sees.changed_is; sound = going.sees.sound; few = going.sees.few; free_is = going.sees.free_is; ascending_is = going.sees.ascending_is };
      triggers_stand = c.resume.ensures.triggers k going.triggers_stand;
      waits_stand = subst (λ (w : WaitTable). waits.StandsFor w.asks k) c.resume.ensures.asks (c.resume.ensures.waits k wait.0 wait.1 wait.3 wait.5 going.waits_stand);
      owned = c.resume.ensures.owned k wait.0 v wait.1 (omega (arith, wait.4)) (others-finished s c.args.place b wait.0 p.waits.asks going.owned.apart wait.1) (owned-woken s c.args.place b k p.triggers p.waits going.owned);
      keys_early = going.keys_early;
      runs_kept = moved;
      calls_kept = calls-after told k rs c.args.called c.args.place p.calls c.run_ended.new.self c.run_ended.ensures.rest p.frames.items calls;
    } in
    subst (λ (x : Parts). GoingWith (so told k rs c.args.called c.args.place p.calls) gone k rs x) (sym c.resume.ensures.rest)
    (subst (λ (w : WaitTable). GoingWith (so told k rs c.args.called c.args.place p.calls) gone k rs (record p { calls = c.run_ended.new.self; triggers = c.resume.new.parts.triggers; waits = w; ready = c.resume.new.parts.ready })) (sym c.resume.ensures.asks) all)

pub returns-in-None-clause-going : goal.returns-in-None-clause-going
returns-in-None-clause-going c told gone k rs table going =
    let p = c.args.parts.now in
    let none : caller_of c.args.called p.calls ≡ None = sym c.run_ended.ensures.caller ∙ c.in-None.is in
    let runs = going.runs_kept in
    record {
      sees = record { looks = going.sees.looks; helpers_stand = going.sees.helpers_stand; switches_stand = going.sees.switches_stand; changed_is = going.sees.changed_is; sound = going.sees.sound; few = going.sees.few; free_is = going.sees.free_is; ascending_is = going.sees.ascending_is };
      triggers_stand = going.triggers_stand;
      waits_stand = going.waits_stand;
      owned = going.owned;
      keys_early = going.keys_early;
      runs_kept = unwoken-runs gone told k rs table c.args.called c.args.place p.calls p.delays p.waits p.waits p.frames.items runs.slots going.calls_kept none p.ready.pairs.items runs.pairs_are runs.held refl;
      calls_kept = calls-after told k rs c.args.called c.args.place p.calls c.run_ended.new.self c.run_ended.ensures.rest p.frames.items going.calls_kept;
    }

pub returns-in-Some-clause-room : goal.returns-in-Some-clause-room
returns-in-Some-clause-room c n h =
    let fewer = c.run_ended.ensures.fewer in
    let one : ◌≡◌ {A = ℕ} (if is_some c.run_ended.result then 1 else 0) 1 = (λ i. if is_some (c.in-Some.is i) then 1 else 0) in
    let frames = ap (λ (x : Parts). x.frames.spare) c.resume.ensures.rest in
    let calls = ap (λ (x : Parts). length x.calls) c.resume.ensures.rest in
    (omega (arith, h.0, frames), omega (arith, h.1, fewer, one, calls, c.resume.ensures.len, c.resume.ensures.capacity))

pub returns-in-None-clause-room : goal.returns-in-None-clause-room
returns-in-None-clause-room c n h = (h.0, omega (arith, h.1, c.run_ended.ensures.fewer))

pub returns-in-Some-clause-rested : goal.returns-in-Some-clause-rested
returns-in-Some-clause-rested c = ap (λ (x : Parts). x.rested) c.resume.ensures.rest

pub returns-in-Some-clause-attached : goal.returns-in-Some-clause-attached
returns-in-Some-clause-attached c =
    let p = c.args.parts.now in
    c.resume.ensures.attached
    ∙ ap (λ (o : Option Caller). without_owners (option_map_or (λ w. owner_at w.0 w.1 p.waits.asks) o []) (attached p.triggers)) (sym c.in-Some.is ∙ c.run_ended.ensures.caller)

pub returns-in-None-clause-attached : goal.returns-in-None-clause-attached
returns-in-None-clause-attached c =
    let p = c.args.parts.now in
    ap (λ (o : Option Caller). without_owners (option_map_or (λ w. owner_at w.0 w.1 p.waits.asks) o []) (attached p.triggers)) (sym c.in-None.is ∙ c.run_ended.ensures.caller)

pub returns-in-Some-clause-waits : goal.returns-in-Some-clause-waits
returns-in-Some-clause-waits c =
    let p = c.args.parts.now in
    ap (λ (w : WaitTable). w.asks) c.resume.ensures.asks
    ∙ ap (λ (o : Option Caller). option_map_or (λ w. finished w.0 w.1 c.args.place p.waits.asks) o p.waits.asks) (sym c.in-Some.is ∙ c.run_ended.ensures.caller)

pub returns-in-None-clause-waits : goal.returns-in-None-clause-waits
returns-in-None-clause-waits c =
    let p = c.args.parts.now in
    ap (λ (o : Option Caller). option_map_or (λ w. finished w.0 w.1 c.args.place p.waits.asks) o p.waits.asks) (sym c.in-None.is ∙ c.run_ended.ensures.caller)
