use Rattle.std.proofs.Common.{rules, refl}
use Rattle.state_table.proofs.DomainLemmas.{changes-name, inserts-name}
use Rattle.state_table.proofs.domain.put_in.Goals as goal

pub returns-in-Some-clause-ok : goal.returns-in-Some-clause-ok
returns-in-Some-clause-ok c =
    changes-name c.args.states.now (c.get_mut.follows.lender c.args.object) _ _ _ refl ((c.get_mut.follows.holds c.args.object).3 (search rules))

pub returns-in_ok-insert-in-None-clause-ok : goal.returns-in_ok-insert-in-None-clause-ok
returns-in_ok-insert-in-None-clause-ok c =
    inserts-name c.get_mut.follows.lender-at-none c.args.states.now c.insert.new.self c.get_mut.follows.holds-at-none _ _ _ c.in_ok-key-in-None.ensures
    c.in_ok-insert-in-None.ensures.updates
