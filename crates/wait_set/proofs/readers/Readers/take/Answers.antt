use Rattle.std.proofs.Common.{◌∙◌, ap}
use Rattle.wait_set.specs.Readers.{read_by}
use Rattle.wait_set.proofs.readers.Readers.take.Goals as goal

pub returns-clause-others : goal.returns-clause-others
returns-clause-others c n apart = c.take_out.ensures.others n apart ∙ ap (read_by n) c.self.view_is
