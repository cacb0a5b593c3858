use Rattle.std.proofs.Common.{arith}
use Rattle.ha_config.specs.Units.{units_of}
use Rattle.segment_carry.proofs.ByNameLemmas.{names-done, names-more}
use Rattle.segment_carry.proofs.lists.names.Goals as goal

pub units-preserved : goal.units-preserved
units-preserved c =
    names-more (units_of c.args.config.now) c.units.at _ _ _ (omega (arith, c.units-test.true, c.unit_count-count.ensures)) c.units.invariant c.in_ok-name.ensures c.in_ok-push.ensures.ok

pub returns : goal.returns
returns c = names-done (units_of c.args.config.now) c.units.at _ (omega (arith, c.units-test.false, c.unit_count-count.ensures)) c.units.invariant
