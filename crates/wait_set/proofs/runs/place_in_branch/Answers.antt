use Rattle.std.proofs.Common.{◌≡◌, ◌∙◌, ◌++◌, ◌+◌, sym, ap, suc, take, drop, arith}
use Rattle.wait_set.specs.Asked.{finished, is_of}
use Rattle.wait_set.proofs.FinishLemmas.{finished-end, finished-here, finished-other, finished-skip, same-at}
use Rattle.wait_set.proofs.runs.place_in_branch.Goals as goal

pub asks-init : goal.asks-init
asks-init c =
    let first = c.next_place-place.ensures in
    record {
      rest = λ p. finished-skip c.args.serial c.args.branch.now p c.args.asks.now 0 c.next_place-place.result first.fits.0 first.skipped;
      fits = first.fits.1;
    }

pub asks-preserved : goal.asks-preserved
asks-preserved c =
    let next = c.next_place-place-in-asks.ensures in
    let test = c.asks-test.true in
    let one = c.index-asks-place in
    record {
      rest = λ p. c.asks.invariant.rest p
          ∙ finished-other c.args.serial c.args.branch.now p c.args.asks.now c.asks.place one.result (omega (arith, test)) one.is (sym c.is_of.ensures ∙ c.if-is_of.false)
          ∙ (let more : suc c.asks.place ≡ c.asks.place + 1 = omega arith in λ k. take (more k) c.args.asks.now ++ finished c.args.serial c.args.branch.now p (drop (more k) c.args.asks.now))
          ∙ finished-skip c.args.serial c.args.branch.now p c.args.asks.now (c.asks.place + 1) c.next_place-place-in-asks.result next.fits.0 next.skipped;
      fits = next.fits.1;
    }

pub returns-then-is_of-clause-here : goal.returns-then-is_of-clause-here
returns-then-is_of-clause-here c lt p x is =
    let one = c.index-asks-place in
    let same = same-at c.args.asks.now c.asks.place x one.result lt is one.is in
    c.asks.invariant.rest p
    ∙ finished-here c.args.serial c.args.branch.now p c.args.asks.now c.asks.place x lt is (ap (is_of c.args.serial c.args.branch.now) same ∙ sym c.is_of.ensures ∙ c.if-is_of.true)

pub returns-clause-none : goal.returns-clause-none
returns-clause-none c le p =
    c.asks.invariant.rest p ∙ finished-end c.args.serial c.args.branch.now p c.args.asks.now c.asks.place le
