use Rattle.std.proofs.Common.{arith, inl, inr, subst}
use Rattle.std.proofs.lemmas.Bool.Decides.{eqb_tells}
use Rattle.trig_set.specs.Kept.{At, place_of}
use Rattle.trig_set.specs.Listed.{HasAt}
use Rattle.trig_set.proofs.ManyLemmas.{all-listed, still-listed}
use Rattle.trig_set.proofs.many_spots.list_spots.Goals as goal

pub loop-place-preserved : goal.loop-place-preserved
loop-place-preserved c n lt =
    let at = c.loop-place.place in
    let new = c.list_spot.new.index in
    elim (eqb_tells at n) [
      | inl same ↦ subst (λ m. At c.args.spots.now m (λ s. HasAt new m c.args.triggers.now (place_of s))) same.1 c.in_ok-list_spot.ensures.own
      | inr other ↦ (let apart = other.1 in still-listed c.loop-place.index new c.args.triggers.now c.args.spots.now n c.in_ok-list_spot.ensures.kept (c.loop-place.invariant n (omega (arith, lt, apart))))
    ]

pub returns : goal.returns
returns c = all-listed c.loop-place.index c.args.triggers.now c.args.spots.now (λ n lt. c.loop-place.invariant n (omega (arith, lt)))
