use Rattle.std.specs.Prelude.{None, slice_get, unwrap_or}
use Rattle.segment_carry.proofs.ByNameLemmas.{listed-next}
use Rattle.segment_carry.proofs.lists.moments.Goals as goal

pub chosen-preserved : goal.chosen-preserved
chosen-preserved c =
    listed-next c.args.names.now (λ a. unwrap_or (slice_get c.args.lasts.now a) None) c.args.order.now c.chosen.at-index _ _ _
    c.chosen-test.true c.chosen.invariant c.moment_at-last.ensures c.in_ok-put.ensures
