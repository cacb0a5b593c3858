use Rattle.std.proofs.Common.{◌≡◌, refl, sym, subst, ◌∙◌, arith}
use Rattle.std.specs.Prelude.{Some, None}
use Rattle.std.proofs.lemmas.Option.{slice_get_past, slice_get_read}
use Rattle.ha_journal.specs.Journal.{Journal, configured}
use Rattle.segment_view.specs.Views.{IsStepper, step_at}
use Rattle.segment_view.proofs.ViewLemmas.{IsTold, stepper-behind, stepper-first, told-none, told-some}
use Rattle.segment_view.proofs.entries.Entries.stepper.Goals as goal

pub returns-then-place-eq0 : goal.returns-then-place-eq0
returns-then-place-eq0 c s =
    let v = c.self.inside in
    let front : c.args.place ≡ 0 = omega (arith, c.if-place-eq0.true) in
    (λ i. step_at (sym c.self.view_is i) s (front i)) ∙ stepper-first v.boot.now (configured v.before.now) v.opening.now v.settled.now v.base c.self.invariant.boots s

pub returns-in-Some : goal.returns-in-Some
returns-in-Some c =
    let v = c.self.inside in
    let x = c.in-Some.entry.now in
    let there = slice_get_read _ _ _ x refl c.in-Some.ensures.lookup.3.0 c.in-Some.ensures.lookup.1 in
    subst (λ (j : Journal). IsStepper j c.args.place c.serial_of.result) c.self.view_is (
    stepper-behind v.boot.now (configured v.before.now) v.opening.now v.settled.now v.base c.args.place (λ z. omega (arith, z, c.if-place-eq0.false)) (Some x) there c.serial_of.result
    (subst (IsTold v.base (Some x)) (sym c.serial_of.ensures) (told-some v.base x)))

pub returns-in-None : goal.returns-in-None
returns-in-None c =
    let v = c.self.inside in
    subst (λ (j : Journal). IsStepper j c.args.place None) c.self.view_is (
    stepper-behind v.boot.now (configured v.before.now) v.opening.now v.settled.now v.base c.args.place (λ z. omega (arith, z, c.if-place-eq0.false)) None (slice_get_past _ _ c.in-None.ensures.lookup.3) None (told-none v.base))
