use Rattle.std.proofs.Common.{ℕ, List, take, sym, ◌∙◌, arith}
use Rattle.run_modes.specs.Table.{live_of}
use Rattle.ha_engine.specs.Admits.{are_in}
use Rattle.ha_engine.proofs.LiveLemmas.{going-next, going-whole, going-all, live-fewer, live-range}
use Rattle.ha_engine.proofs.admit.forget_live.Goals as goal

pub forget-requires : goal.forget-requires
forget-requires c = c.runs.invariant.room 0 c.requires

pub runs-preserved : goal.runs-preserved
runs-preserved c = record {
  going = λ k at table going.
      (let rs = c.args.runs.now.list in
      let live : List ℕ = live_of c.args.automation rs in
      let found = sym c.live.ensures ∙ c.in-Some.is in
      let range = live-range c.args.automation 0 c.runs.at c.in-Some.serial rs table.numbered found in
      going-next k rs c.forget.new.parts live c.runs.at c.in-Some.serial found
      (c.forget.ensures.going (are_in (take c.runs.at live)) k rs at table range.0 (omega (arith, range.1)) (c.runs.invariant.going k at table going)));
  rested = c.forget.ensures.rested ∙ c.runs.invariant.rested;
  room = λ n h. c.forget.ensures.room n (c.runs.invariant.room n h);
}

pub returns-in-None-clause-going : goal.returns-in-None-clause-going
returns-in-None-clause-going c k at table going =
    going-whole k c.args.runs.now.list c.runs.parts (live_of c.args.automation c.args.runs.now.list) c.runs.at (sym c.live.ensures ∙ c.in-None.is) (c.runs.invariant.going k at table going)

pub returns-clause-going : goal.returns-clause-going
returns-clause-going c k at table going =
    let rs = c.args.runs.now.list in
    let live : List ℕ = live_of c.args.automation rs in
    let fewer = live-fewer c.args.automation rs in
    going-all k rs c.runs.parts live c.runs.at (omega (arith, fewer, c.runs-test.false, c.len-most.ensures)) (c.runs.invariant.going k at table going)
