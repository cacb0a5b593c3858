use Rattle.std.proofs.Common.{rules, refl}
use Rattle.state_table.proofs.DomainLemmas.{reported-in, reported-new, same-as-before, says-the-same, ok-then, err-then}
use Rattle.state_table.proofs.domain.report_over.Goals as goal

pub returns-in-Some-clause-ok : goal.returns-in-Some-clause-ok
returns-in-Some-clause-ok c =
    let n = c.get_mut.follows.lender c.update_over.new.object in
    let u = (c.get_mut.follows.holds c.update_over.new.object).3 (search rules) in
    ok-then c.update_over.result (reported-in c.args.states.now n _ _ refl _ _ _ _ c.update_over.new.object c.in-Some.ensures.value u) c.update_over.ensures.ok

pub returns-in-Some-clause-err : goal.returns-in-Some-clause-err
returns-in-Some-clause-err c =
    let n = c.get_mut.follows.lender c.update_over.new.object in
    let u = (c.get_mut.follows.holds c.update_over.new.object).3 (search rules) in
    err-then c.update_over.result (says-the-same c.args.states.now n _ _ _ c.update_over.new.object refl c.in-Some.ensures.value u) c.update_over.ensures.err

pub returns-in-Ok-clause-ok : goal.returns-in-Ok-clause-ok
returns-in-Ok-clause-ok c =
    reported-new c.get_mut.follows.lender-at-none c.args.states.now c.appear.new.states c.get_mut.follows.holds-at-none _ _ _ _ _ refl c.in-None.ensures.value c.in-Ok.ensures.ok

pub returns-in-Err-clause-err : goal.returns-in-Err-clause-err
returns-in-Err-clause-err c =
    same-as-before c.get_mut.follows.lender-at-none c.args.states.now c.appear.new.states c.get_mut.follows.holds-at-none c.in-Err.ensures.err
