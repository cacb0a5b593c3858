use Rattle.std.proofs.Common.{ℕ, suc, ◌-◌, ◌<◌, List, ◌++◌, length, sym, subst, ◌∙◌, arith}
use Rattle.ha_sight.specs.Scripts.{Branch}
use Rattle.ha_model.specs.Records.{CallEnds, Records}
use Rattle.run_modes.specs.Table.{attempted}
use Rattle.engine_parts.specs.declared.parts.Parts.{Parts}
use Rattle.ha_engine.specs.Admits.{gone_by, pairs_by}
use Rattle.engine_parts.specs.Called.{CallsKept, told_by}
use Rattle.engine_parts.specs.Kept.{Going, Gone, RunsKept, nobody}
use Rattle.engine_parts.specs.Records.{IsTable}
use Rattle.named_runs.specs.Named.{first_in, runs_named}
use Rattle.ha_engine.proofs.NumberLemmas.{number-told}
use Rattle.ha_engine.proofs.AdmitLemmas.{prepared-calls, prepared-kept, prepared-tried}
use Rattle.ha_engine.proofs.admit.admit_one.Goals as goal

pub returns-clause-list : goal.returns-clause-list
returns-clause-list c k x is firsts at =
    let rs = c.args.runs.now.list in
    let a = c.args.prepared.automation in
    let number = suc (runs_named c.args.runs.now.firsts (first_in c.args.runs.now.firsts a) rs) in
    c.in-Ok.ensures.ok ∙ prepared-tried k rs x c.args.prepared is c.args.place number at (number-told k c.args.runs.now.firsts rs a firsts c.requires.known c.in-Ok.ensures.known)

pub returns-clause-going : goal.returns-clause-going
returns-clause-going c k x is firsts at some table going =
    let p = c.args.prepared in
    let here : c.args.place < length k = omega (arith, at, some) in
    let number = suc (runs_named c.args.runs.now.firsts (first_in c.args.runs.now.firsts p.automation) c.args.runs.now.list) in
    let way = c.clear_way.ensures.going k at table going in
    let gone : Gone = gone_by p.mode p.automation c.args.runs.now.list in
    let so : CallEnds = told_by gone k c.args.runs.now.list in
    let mid = c.clear_way.new.parts in
    let rs' : Records = c.attempt.new.self.list in
    let list = c.in-Ok.ensures.ok in
    let kept = prepared-kept so k c.args.runs.now.list table x p is c.args.place number here c.in-Ok.told c.in-Ok.ensures.answer mid.delays mid.waits mid.frames.items c.take_in.new.parts.frames.items mid.ready.pairs.items c.take_in.ensures.slots way.runs_kept in
    let more = prepared-calls k c.args.runs.now.list table x p is c.args.place number here at c.in-Ok.told c.in-Ok.ensures.answer mid.delays mid.waits mid.frames.items c.take_in.new.parts.frames.items mid.ready.pairs.items mid.calls c.take_in.ensures.slots way.runs_kept way.calls_kept in
    let runs = subst (λ (t : CallEnds). RunsKept t nobody k (attempted p.automation p.mode p.max c.args.place p.order number p.env c.args.runs.now.list) mid.delays mid.waits c.take_in.new.parts.frames.items (mid.ready.pairs.items ++ pairs_by c.in-Ok.told p.acts)) more.0 kept.1 in
    let runs' : RunsKept (told_by nobody k rs') nobody k rs' mid.delays mid.waits c.take_in.new.parts.frames.items c.take_in.new.parts.ready.pairs.items
    = subst (λ (l : List (ℕ × Branch)). RunsKept (told_by nobody k rs') nobody k rs' mid.delays mid.waits c.take_in.new.parts.frames.items l) (sym c.take_in.ensures.pairs)
    (subst (λ (l : Records). RunsKept (told_by nobody k l) nobody k l mid.delays mid.waits c.take_in.new.parts.frames.items (mid.ready.pairs.items ++ pairs_by c.in-Ok.told p.acts)) (sym list) runs) in
    let all : Going nobody k rs' (record mid { frames = c.take_in.new.parts.frames; ready = c.take_in.new.parts.ready })
    = record {
      sees = record { looks = way.sees.looks; helpers_stand = way.sees.helpers_stand; switches_stand = way.sees.switches_stand; changed_is = way.sees.changed_is; sound = way.sees.sound; few = way.sees.few; free_is = way.sees.free_is; ascending_is = way.sees.ascending_is };
      triggers_stand = way.triggers_stand;
      waits_stand = way.waits_stand;
      owned = way.owned;
      keys_early = way.keys_early;
      runs_kept = runs';
      calls_kept = subst (λ (l : Records). CallsKept (told_by nobody k l) k l mid.calls c.take_in.new.parts.frames.items) (sym list) more.1;
    } in
    (subst (λ (l : Records). IsTable k l) (sym list) kept.0, subst (λ (q : Parts). Going nobody k rs' q) (sym c.take_in.ensures.rest) all)

pub clear_way-requires : goal.clear_way-requires
clear_way-requires c = (omega arith, omega (arith, c.requires.parts.1))

pub take_in-requires : goal.take_in-requires
take_in-requires c = c.clear_way.ensures.room 1 c.requires.parts

pub returns-clause-room : goal.returns-clause-room
returns-clause-room c n h = c.take_in.ensures.room n (c.clear_way.ensures.room (suc n) h)
