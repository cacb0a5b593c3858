use Rattle.engine_parts.proofs.DetachLemmas.{owned-detached}
use Rattle.engine_parts.proofs.wake.detach.Goals as goal

pub returns-clause-owned : goal.returns-clause-owned
returns-clause-owned c j left w low others owned = owned-detached j c.args.owner left c.args.triggers.now c.detach.new.self w low c.detach.ensures.rest others owned
