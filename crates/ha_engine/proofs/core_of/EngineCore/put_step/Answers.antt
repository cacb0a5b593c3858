use Rattle.std.proofs.Common.{sym, subst}
use Rattle.ha_journal.specs.Commands.{AreRead}
use Rattle.ha_journal.specs.Journal.{Journal}
use Rattle.ha_engine.proofs.AnswerLemmas.{either-way}
use Rattle.ha_engine.proofs.ReaderLemmas.{read-step}
use Rattle.ha_engine.proofs.core_of.EngineCore.put_step.Goals as goal

pub invariant_of-self : goal.invariant_of-self
invariant_of-self g c =
    let read = g.P.Prepare.reads in
    let j : Journal = c.self.inside.machine.entries in
    either-way c.append_step.result c.append_step.ensures.put c.append_step.ensures.stays
    (λ made. subst (AreRead read) (sym made.4) (read-step read j c.args.worker made.0 made.1 made.2 c.self.invariant))
    (λ stays. subst (AreRead read) (sym stays.0) c.self.invariant)
