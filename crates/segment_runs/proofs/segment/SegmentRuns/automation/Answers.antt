use Rattle.std.proofs.Common.{◌-◌, ◌∙◌, ap, arith, length}
use Rattle.std.specs.Prelude.{drop, option_map, slice_get}
use Rattle.ha_model.specs.declared.record.Record.{Record}
use Rattle.ha_model.specs.Lawful.{record_of}
use Rattle.segment_runs.proofs.OverLemmas.{over-automation}
use Rattle.segment_runs.proofs.segment.SegmentRuns.automation.Goals as goal

pub automation_at-requires : goal.automation_at-requires
automation_at-requires c = omega (arith, c.self.invariant.within, ap length c.list.ensures)

pub returns : goal.returns
returns c =
    c.automation_at.ensures
    ∙ (λ i. option_map (λ (r : Record). r.automation) (slice_get (drop c.self.inside.base (c.list.ensures i)) (c.args.serial - 1)))
    ∙ over-automation c.self.inside.front c.self.inside.base c.self.inside.numbers c.self.inside.all.list c.self.invariant c.args.serial
    ∙ (λ i. option_map (λ (r : Record). r.automation) (record_of (c.self.view_is i).list c.args.serial))
