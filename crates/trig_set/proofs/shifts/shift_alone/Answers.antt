use Rattle.std.proofs.Common.{◌∷◌, [], refl}
use Rattle.trig_set.proofs.ShiftLemmas.{made-shifts}
use Rattle.trig_set.proofs.shifts.shift_alone.Goals as goal

pub returns : goal.returns
returns g c j told e =
    let x = c.args.entry.now in
    let seen = g.A.Answers.sight c.args.answers.now in
    let old = c.args.alone.now in
    made-shifts c.args.events.now x seen j told.events_are told.sees told.helped e ((old.entity, old.old) ∷ []) (record { entity = old.entity; old = old.old; new = c.in_ok-new.new } ∷ []) ((refl, refl, c.in_ok-new.ensures), tt) told.apart (told.listed e)
