use Rattle.std.proofs.Common.{◌∙◌, subst, arith}
use Rattle.trig_set.specs.Next.{Listed}
use Rattle.trig_set.specs.Shifts.{AreMade}
use Rattle.std.proofs.lemmas.List.{take_all}
use Rattle.trig_set.proofs.ShiftLemmas.{made-shifts}
use Rattle.trig_set.proofs.shifts.shifts_of_several.Goals as goal

pub returns : goal.returns
returns g c j told e =
    let x = c.args.entry.now in
    let seen = g.A.Answers.sight c.args.answers.now in
    let whole = take_all c.loop-place.place c.as_slice-listed.result.now (omega arith) ∙ c.as_slice-listed.ensures in
    made-shifts c.args.events.now x seen j told.events_are told.sees told.helped e c.args.before.now c.loop-place.shifts
    (subst (λ (ps : Listed). AreMade c.args.events.now x seen ps c.loop-place.shifts) whole c.loop-place.invariant)
    told.apart (told.listed e)
