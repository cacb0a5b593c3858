use Rattle.std.proofs.Common.{◌∙◌, arith}
use Rattle.wait_set.proofs.RunLemmas.{owners-end, owners-here, owners-skip}
use Rattle.wait_set.proofs.runs.owner_from.Goals as goal

pub returns-then-place-asks-clause-none : goal.returns-then-place-asks-clause-none
returns-then-place-asks-clause-none c none =
    let place = c.next_place-place in
    let past = c.if-place-asks.true in
    owners-skip c.args.serial c.args.asks.now c.args.from place.result place.ensures.fits.0 place.ensures.skipped
    ∙ owners-end c.args.serial c.args.asks.now place.result (omega (arith, past))

pub returns-clause-first : goal.returns-clause-first
returns-clause-first c =
    let place = c.next_place-place in
    let past = c.if-place-asks.false in
    owners-skip c.args.serial c.args.asks.now c.args.from place.result place.ensures.fits.0 place.ensures.skipped
    ∙ owners-here c.args.serial c.args.asks.now place.result c.owner_in.result (omega (arith, past)) place.ensures.of_run c.owner_in.ensures
