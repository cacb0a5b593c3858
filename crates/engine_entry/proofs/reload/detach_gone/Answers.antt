use Rattle.std.proofs.Common.{◌∙◌}
use Rattle.trig_set.specs.Stands.{attached}
use Rattle.engine_entry.proofs.ReloadSteps.{gone-next, gone-none}
use Rattle.engine_entry.proofs.reload.detach_gone.Goals as goal

pub gone-preserved : goal.gone-preserved
gone-preserved c = record {
  owners = gone-next c.args.gone.now c.gone.at 0 c.gone-test.true (attached c.gone.triggers) (attached c.detach.new.self) c.detach.ensures.rest ∙ c.gone.invariant.owners;
  stands = λ j h. c.detach.ensures.stands j (c.gone.invariant.stands j h);
}

pub returns-clause-owners : goal.returns-clause-owners
returns-clause-owners c = gone-none c.args.gone.now c.gone.at c.gone-test.false (attached c.gone.triggers) ∙ c.gone.invariant.owners

pub returns-clause-stands : goal.returns-clause-stands
returns-clause-stands c = c.gone.invariant.stands
