use Rattle.std.proofs.Common.{subst}
use Rattle.std.specs.Prelude.{Some}
use Rattle.state_table.specs.Domain.{ChangesName}
use Rattle.state_table.proofs.DomainLemmas.{changes-name}
use Rattle.state_table.proofs.domain.appear.Goals as goal

pub returns-clause-ok : goal.returns-clause-ok
returns-clause-ok c =
    let m = c.args.states.now in
    let n = c.insert.new.self in
    subst (λ o. ChangesName m n c.args.name.now (Some o)) c.in_ok-object.ensures
    (changes-name m n _ _ _ c.in_ok-key.ensures c.in_ok-insert.ensures.updates)
