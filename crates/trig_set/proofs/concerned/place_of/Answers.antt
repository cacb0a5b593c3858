use Rattle.std.proofs.Common.{◌+◌, ◌-◌, ◌/◌, arith}
use Rattle.trig_set.proofs.HalvesLemmas.{between-above, between-all, between-below, between-none, behind-there}
use Rattle.trig_set.proofs.concerned.place_of.Goals as goal

pub halves-init : goal.halves-init
halves-init c = record {
  ordered = omega arith;
  within = omega arith;
  found = λ asc n. between-all c.args.owners.now c.args.owner n;
}

pub halves-preserved-then-owners-middle : goal.halves-preserved-then-owners-middle
halves-preserved-then-owners-middle c =
    let low = c.halves.low in
    let high = c.halves.high in
    let within = c.halves.invariant.within in
    let test = c.halves-test.true in
    record {
      ordered = omega (arith, test);
      within = within;
      found = λ asc n. between-above c.args.owners.now low high (low + (high - low) / 2) c.args.owner c.index-owners-middle.result (omega (arith, within, test)) asc n c.if-owners-middle.true (c.halves.invariant.found asc n);
    }

pub halves-preserved : goal.halves-preserved
halves-preserved c =
    let low = c.halves.low in
    let high = c.halves.high in
    let within = c.halves.invariant.within in
    let test = c.halves-test.true in
    record {
      ordered = omega arith;
      within = omega (arith, within, test);
      found = λ asc n. between-below c.args.owners.now low high (low + (high - low) / 2) c.args.owner c.index-owners-middle.result (omega (arith, within, test)) asc n c.if-owners-middle.false (c.halves.invariant.found asc n);
    }

pub returns-clause-behind : goal.returns-clause-behind
returns-clause-behind c asc n = between-none c.args.owners.now c.halves.low c.halves.high c.args.owner n c.halves-test.false (c.halves.invariant.found asc n)

pub returns-clause-there : goal.returns-clause-there
returns-clause-there c asc =
    let ordered = c.halves.invariant.ordered in
    let within = c.halves.invariant.within in
    behind-there c.args.owners.now c.halves.low c.args.owner (omega (arith, ordered, within)) asc
    (λ n. between-none c.args.owners.now c.halves.low c.halves.high c.args.owner n c.halves-test.false (c.halves.invariant.found asc n))
