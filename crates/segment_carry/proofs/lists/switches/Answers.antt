use Rattle.segment_carry.specs.Closing.{flag_in}
use Rattle.segment_carry.proofs.ByNameLemmas.{listed-next}
use Rattle.segment_carry.proofs.lists.switches.Goals as goal

pub chosen-preserved : goal.chosen-preserved
chosen-preserved c =
    listed-next c.args.names.now (flag_in c.args.switches.now) c.args.order.now c.chosen.at-index _ _ _
    c.chosen-test.true c.chosen.invariant c.at-on.ensures c.in_ok-put.ensures
