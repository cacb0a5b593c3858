use Rattle.std.proofs.Common.{length, true, ◌∙◌}
use Rattle.std.proofs.lemmas.List.{take-replicate}
use Rattle.engine_parts.proofs.rested.set_fewer.Goals as goal

pub returns : goal.returns
returns c = c.copy_from_slice.ensures.after ∙ take-replicate (length c.args.flags.now) 16 true c.requires
