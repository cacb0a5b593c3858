use Rattle.std.proofs.Common.{rules, refl}
use Rattle.state_table.specs.Domain.{change_of}
use Rattle.state_table.proofs.DomainLemmas.{reported-in, reported-new, same-as-before, says-the-same, ok-then, err-then}
use Rattle.state_table.proofs.TableLemmas.{ok-along}
use Rattle.state_table.proofs.domain.report_in.Goals as goal

pub returns-in-Some-clause-ok : goal.returns-in-Some-clause-ok
returns-in-Some-clause-ok c =
    let n = c.get_mut.follows.lender c.update.new.object in
    let u = (c.get_mut.follows.holds c.update.new.object).3 (search rules) in
    ok-then c.update.result (reported-in c.args.states.now n _ _ refl _ _ _ _ c.update.new.object c.in-Some.ensures.value u) c.update.ensures.ok

pub returns-in-Some-clause-err : goal.returns-in-Some-clause-err
returns-in-Some-clause-err c =
    let n = c.get_mut.follows.lender c.update.new.object in
    let u = (c.get_mut.follows.holds c.update.new.object).3 (search rules) in
    err-then c.update.result (says-the-same c.args.states.now n _ _ _ c.update.new.object refl c.in-Some.ensures.value u) c.update.ensures.err

pub returns-in-None-clause-change : goal.returns-in-None-clause-change
returns-in-None-clause-change c =
    ok-along c.appear.result (λ o. change_of o c.args.text.now c.args.attributes.now) _ _ c.in-None.ensures.value c.appear.ensures.change

pub returns-in-None-clause-ok : goal.returns-in-None-clause-ok
returns-in-None-clause-ok c =
    ok-then c.appear.result
    (reported-new c.get_mut.follows.lender-at-none c.args.states.now c.appear.new.states c.get_mut.follows.holds-at-none _ _ _ _ _ refl c.in-None.ensures.value)
    c.appear.ensures.ok

pub returns-in-None-clause-err : goal.returns-in-None-clause-err
returns-in-None-clause-err c =
    err-then c.appear.result (same-as-before c.get_mut.follows.lender-at-none c.args.states.now c.appear.new.states c.get_mut.follows.holds-at-none) c.appear.ensures.err
