use Rattle.std.proofs.Common.{subst, sym}
use Rattle.trig_set.specs.declared.scene.Shift.{Shift}
use Rattle.std.proofs.Common.{List, ◌++◌, ◌∷◌, []}
use Rattle.trig_set.specs.Shifts.{AreMade}
use Rattle.trig_set.proofs.ShiftLemmas.{made-more}
use Rattle.trig_set.proofs.shifts.push_shift.Goals as goal

pub returns : goal.returns
returns g c front all =
    let x = c.args.entry.now in
    let seen = g.A.Answers.sight c.args.answers.now in
    subst (λ (cs : List Shift). AreMade c.args.events.now x seen (front ++ (c.args.listed.now ∷ [])) cs) (sym c.in_ok-push.ensures.ok)
    (made-more c.args.events.now x seen front c.args.shifts.now c.args.listed.now c.in_ok-shift.field-0 all c.in_ok-shift.ensures)
