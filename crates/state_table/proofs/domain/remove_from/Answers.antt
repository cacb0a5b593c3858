use Rattle.std.proofs.Common.{refl}
use Rattle.state_table.proofs.DomainLemmas.{changes-name}
use Rattle.state_table.proofs.domain.remove_from.Goals as goal

pub returns-clause-rest : goal.returns-clause-rest
returns-clause-rest c = changes-name c.args.states.now c.remove.new.self _ _ _ refl c.remove.ensures.updates
