use Rattle.std.proofs.Common.{sym, subst}
use Rattle.ha_journal.specs.Commands.{AreRead}
use Rattle.ha_engine.proofs.boots.EngineBoots.boot.Goals as goal

pub invariant_of-result : goal.invariant_of-result
invariant_of-result g c = subst (AreRead g.P.Prepare.reads) (sym c.in_ok-machine.ensures.entries) (tt, tt)
