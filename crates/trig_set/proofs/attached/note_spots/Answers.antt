use Rattle.std.proofs.Common.{◌∙◌, ◌++◌, ap, subst, map}
use Rattle.std.specs.Prelude.{flat_map}
use Rattle.ha_past.specs.Firings.{Owner}
use Rattle.trig_set.specs.Kept.{AreTimed, cleared}
use Rattle.trig_set.specs.Timed.{firings_in}
use Rattle.trig_set.proofs.OnLemmas.{on-then}
use Rattle.trig_set.proofs.NoteLemmas.{spots-stand, spots-give}
use Rattle.trig_set.proofs.attached.note_spots.Goals as goal

pub returns-clause-stands : goal.returns-clause-stands
returns-clause-stands g c =
    on-then _ _ c.collect.result
    (λ e j shows sees well stand.
    let ripe = c.ripen_if.ensures (c.in_ok-step_all.ensures.timed stand.timed) in
    spots-stand j c.args.scene.now.entry.now c.args.triggers.now c.args.since well c.args.scene.now.to c.step_all.new.spots c.collect.new.spots c.ripen_if.new.timers shows.to
    (c.in_ok-step_all.ensures.moved j shows sees well stand.kept)
    (c.in_ok-step_all.ensures.places ∙ stand.places)
    (subst (λ l. AreTimed c.ripen_if.new.timers l) ripe.0 ripe.1)
    (e ∙ ap (map cleared) ripe.0))
    c.collect.ensures.cleared

pub returns-clause-fired : goal.returns-clause-fired
returns-clause-fired g c =
    on-then _ _ c.collect.result
    (λ e j shows sees well stand.
    let o : Owner = record { owner = c.args.owner; triggers = c.args.triggers.now; since = c.args.since } in
    let ripe = c.ripen_if.ensures (c.in_ok-step_all.ensures.timed stand.timed) in
    spots-give j c.args.scene.now.entry.now c.args.triggers.now c.args.since well c.args.owner c.args.scene.now.to c.step_all.new.spots c.args.fired.now c.collect.new.fired shows.to
    (c.in_ok-step_all.ensures.moved j shows sees well stand.kept)
    (c.in_ok-step_all.ensures.places ∙ stand.places)
    (e ∙ (λ i. c.args.fired.now ++ flat_map (firings_in o (shows.at i) (shows.events i)) (ripe.0 i))))
    c.collect.ensures.fired
