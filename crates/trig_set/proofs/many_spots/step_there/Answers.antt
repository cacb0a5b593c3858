use Rattle.trig_set.specs.Kept.{MovedAt}
use Rattle.trig_set.proofs.ManyLemmas.{at-beyond}
use Rattle.trig_set.proofs.many_spots.step_there.Goals as goal

pub returns-else-place-spots-clause-moved : goal.returns-else-place-spots-clause-moved
returns-else-place-spots-clause-moved g c j shows sees well keeps = at-beyond (MovedAt j c.args.scene.now.entry.now c.args.triggers.now c.args.since) c.args.spots.now c.args.place c.if-place-spots.false
