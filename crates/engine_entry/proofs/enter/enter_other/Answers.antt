use Rattle.std.proofs.Common.{[], ap, false, refl, sym, subst}
use Rattle.std.specs.Prelude.{is_some}
use Rattle.trig_set.specs.Next.{Listed}
use Rattle.engine_parts.specs.Stages.{Entered}
use Rattle.engine_entry.proofs.EnterPlain.{helpers-left, none-given, nothing-listed, now-before, other-keeps, other-plain, other-reports, other-waits, plain-entered, states-left}
use Rattle.engine_entry.proofs.enter.enter_other.Goals as goal

pub returns-clause-entered : goal.returns-clause-entered
returns-clause-entered c k rs h other =
    let p = c.args.parts.now in
    let old = h.kept.going.sees.looks in
    let plain = other-plain h.cmd other in
    let none = other-reports h.source h.number h.cmd other in
    let kept = other-keeps h.source h.number h.cmd other in
    let waits = other-waits h.source h.number h.cmd other in
    let still = ap is_some waits in
    subst (λ (l : Listed). Entered k (record p { given = c.make.result; changed = false }) l) (sym c.make-2.ensures)
    (plain-entered k rs p h plain p.states p.helpers c.make.result p.at [] (states-left k rs p h plain none kept still) (helpers-left k rs p h plain still) (none-given k rs p h plain c.make.result c.make.ensures still)
    (now-before k rs p h waits) old.in_time (nothing-listed k rs p h plain none kept still) (λ spared. refl))
