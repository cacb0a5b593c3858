use Rattle.std.proofs.Common.{◌∙◌, false}
use Rattle.std.specs.Option.{option_map_or}
use Rattle.script_step.specs.Continuation.{asks}
use Rattle.script_step.proofs.frames.Frames.calls.Goals as goal

pub returns : goal.returns
returns c script =
    c.calls_at.ensures ∙ (λ i. option_map_or (λ ask. ask.called) (asks c.args.self.now.root (script i) (c.as_slice.ensures i)) false)
