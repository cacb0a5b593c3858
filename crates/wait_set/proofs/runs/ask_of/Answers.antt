use Rattle.std.proofs.Common.{◌∙◌, sym, arith}
use Rattle.wait_set.proofs.RunLemmas.{wait-here, wait-more, wait-none, wait-skip}
use Rattle.wait_set.proofs.runs.ask_of.Goals as goal

pub asks-init : goal.asks-init
asks-init c =
    let first = c.next_place-place.ensures in
    record {
      rest = sym (wait-skip c.args.serial c.args.branch.now c.args.asks.now 0 c.next_place-place.result first.fits.0 first.skipped);
      fits = first.fits.1;
    }

pub asks-preserved : goal.asks-preserved
asks-preserved c =
    let next = c.next_place-place-in-asks.ensures in
    let test = c.asks-test.true in
    let one = c.index-asks-place in
    record {
      rest = wait-more c.args.serial c.args.branch.now c.args.asks.now c.asks.place c.next_place-place-in-asks.result one.result (omega (arith, test)) one.is (sym c.is_of.ensures ∙ c.if-is_of.false) next.fits.0 next.skipped ∙ c.asks.invariant.rest;
      fits = next.fits.1;
    }

pub returns-then-is_of : goal.returns-then-is_of
returns-then-is_of c =
    let test = c.asks-test.true in
    let one = c.index-asks-place in
    wait-here c.args.serial c.args.branch.now c.args.asks.now c.asks.place one.result (omega (arith, test)) one.is (sym c.is_of.ensures ∙ c.if-is_of.true) ∙ c.asks.invariant.rest

pub returns : goal.returns
returns c = wait-none c.args.serial c.args.branch.now c.args.asks.now c.asks.place (omega (arith, c.asks-test.false)) ∙ c.asks.invariant.rest
