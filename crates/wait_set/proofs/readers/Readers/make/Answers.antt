use Rattle.std.proofs.Common.{◌∙◌, ap, sym}
use Rattle.wait_set.specs.Readers.{hears, read_by}
use Rattle.wait_set.proofs.readers.Readers.make.Goals as goal

pub invariant_of-result : goal.invariant_of-result
invariant_of-result c s n = c.make.ensures s n ∙ sym (ap (λ es. hears s (read_by n es)) c.new.ensures.empty)
