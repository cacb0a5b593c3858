use Rattle.std.proofs.Common.{◌∙◌, ◌++◌, append-nil, sym}
use Rattle.trig_set.proofs.OwnersLemmas.{fires-beyond}
use Rattle.trig_set.proofs.noted.note_there.Goals as goal

pub returns-else-place-owners-clause-fired : goal.returns-else-place-owners-clause-fired
returns-else-place-owners-clause-fired g c j shows sees all =
    sym ((λ i. c.args.fired.now ++ fires-beyond j c.args.scene.now.entry.now c.args.owners.now c.args.place c.if-place-owners.false i) ∙ append-nil c.args.fired.now)
