use Rattle.std.proofs.Common.{◌∙◌, ap}
use Rattle.std.specs.Prelude.{Some}
use Rattle.wait_set.specs.Readers.{read_by}
use Rattle.wait_set.proofs.OnLemmas.{on-then}
use Rattle.wait_set.proofs.readers.Readers.put.Goals as goal

pub returns-clause-own : goal.returns-clause-own
returns-clause-own c = on-then _ _ c.put_in.result (λ own. own ∙ ap Some c.in_ok-read.ensures) c.put_in.ensures.own

pub returns-clause-others : goal.returns-clause-others
returns-clause-others c n apart = c.put_in.ensures.others n apart ∙ c.take_out.ensures.others n apart ∙ ap (read_by n) c.self.view_is
