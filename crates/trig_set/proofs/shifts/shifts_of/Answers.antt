use Rattle.std.proofs.Common.{◌≡◌, ◌∙◌, ◌∷◌, [], ap, subst, sym}
use Rattle.trig_set.specs.declared.scene.Shift.{Shift}
use Rattle.trig_set.specs.Before.{listed_of}
use Rattle.trig_set.specs.Next.{Listed}
use Rattle.trig_set.specs.Shifts.{IsTold}
use Rattle.trig_set.proofs.shifts.shifts_of.Goals as goal

pub returns-in-Some : goal.returns-in-Some
returns-in-Some g c j told =
    let is : c.args.before ≡ (c.deref_mut.result.now.entity, c.deref_mut.result.now.old) ∷ []
    = sym c.before-2.view_is ∙ ap (λ o. listed_of o c.before-2.inside.several) c.in-Some.is ∙ ap (λ (s : Shift). (s.entity, s.old) ∷ []) (sym c.deref_mut.ensures.value) in
    c.in_ok-shift_alone-in-Some.ensures j (subst (λ (l : Listed). IsTold j c.args.entry.now l c.args.events.now (g.A.Answers.sight c.args.answers.now)) is told)
