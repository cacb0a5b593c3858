use Rattle.std.proofs.Common.{◌-◌, ◌∙◌, ap}
use Rattle.std.specs.Prelude.{option_map, slice_get}
use Rattle.run_modes.specs.Table.{live_of}
use Rattle.segment_runs.proofs.OverLemmas.{over-live}
use Rattle.segment_runs.proofs.segment.SegmentRuns.live.Goals as goal

pub returns : goal.returns
returns c =
    c.own_serial.ensures
    ∙ ap (option_map (λ q. q - c.self.inside.base)) c.live.ensures
    ∙ over-live c.self.inside.front c.self.inside.base c.self.inside.numbers c.self.inside.all.list c.self.invariant c.args.automation c.args.at
    ∙ (λ i. slice_get (live_of c.args.automation (c.self.view_is i).list) c.args.at)
