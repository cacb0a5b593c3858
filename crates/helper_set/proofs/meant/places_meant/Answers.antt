use Rattle.std.proofs.Common.{◌∙◌, ap, map, sym}
use Rattle.helper_set.specs.Kept.{shown}
use Rattle.ha_sight.specs.Once.{with_number}
use Rattle.helper_set.proofs.MeantLemmas.{named-more}
use Rattle.helper_set.proofs.meant.places_meant.Goals as goal

pub loop-i-preserved : goal.loop-i-preserved
loop-i-preserved c =
    let t = c.index-targets-i.result in
    c.in_ok-add_once.ensures ∙ (λ k. with_number (c.place_meant.ensures k) c.loop-i.found.items) ∙ ap (with_number _) c.loop-i.invariant
    ∙ sym (named-more (map shown c.args.kept.now.items) c.args.service c.args.targets.now c.loop-i.i t c.loop-i-test.true c.index-targets-i.is)
