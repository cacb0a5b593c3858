use Rattle.std.proofs.Common.{◌∙◌, sym, ap}
use Rattle.script_step.proofs.StageLemmas.{strand-out}
use Rattle.script_step.proofs.WholeLemmas.{strand-stands}
use Rattle.script_step.specs.Gates.{gate_at}
use Rattle.script_step.proofs.StepTold.{fronts-strand}
use Rattle.script_step.proofs.step.settle_behind.Goals as goal

pub returns-clause-means : goal.returns-clause-means
returns-clause-means c = λ b began ps.
    c.finished-stage.ensures.means b began ps ∙ sym (strand-out (record { thread = c.finished-stage.new.thread; stage = c.finished-stage.result }) c.args.list.now b began ps)

pub returns-clause-settled : goal.returns-clause-settled
returns-clause-settled c = λ whole.
    ap (λ z. z.settled) (strand-stands (record { thread = c.finished-stage.new.thread; stage = c.finished-stage.result }) c.args.list.now) ∙ c.finished-stage.ensures.settled whole

pub returns-clause-told : goal.returns-clause-told
returns-clause-told c = λ began b g e.
    c.finished-stage.ensures.told began b g
    (sym (ap (gate_at b) (fronts-strand (record { thread = c.finished-stage.new.thread; stage = c.finished-stage.result }) c.args.list.now began)) ∙ e)
