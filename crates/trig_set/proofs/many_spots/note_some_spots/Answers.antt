use Rattle.std.proofs.Common.{◌≡◌, ◌∙◌, ◌++◌, ℕ, ap, false, map, subst}
use Rattle.std.specs.Prelude.{flat_map}
use Rattle.ha_past.specs.Firings.{Owner}
use Rattle.event_bus.specs.Lists.{has}
use Rattle.trig_set.specs.Kept.{At, AreTimed, MovedAt, cleared}
use Rattle.trig_set.specs.Timed.{Unfired, firings_in}
use Rattle.trig_set.proofs.ManyLemmas.{aside-moved, aside-untimed, left-unfired}
use Rattle.trig_set.proofs.NoteLemmas.{spots-give, spots-stand}
use Rattle.trig_set.proofs.OnLemmas.{on-then}
use Rattle.trig_set.proofs.many_spots.note_some_spots.Goals as goal

pub returns-clause-stands : goal.returns-clause-stands
returns-clause-stands g c =
    on-then _ _ c.collect_some.result
    (λ e j shows sees well listed stand.
    let ripe = c.in_ok-ripen_noted_if.ensures.ripe (c.in_ok-step_some.ensures.timed stand.timed) in
    let calm : (n : ℕ) → has c.in_ok-places.places n ≡ false → At c.args.spots.now n (MovedAt j c.args.scene.now.entry.now c.args.triggers.now c.args.since)
    = λ n none. aside-moved c.args.scene.now j c.args.index.now c.args.triggers.now c.args.since shows c.requires.within well listed c.args.spots.now c.args.timers.now stand c.requires.late n (c.in_ok-places.ensures n c.args.scene.now.to none) in
    let o : Owner = record { owner = c.args.owner; triggers = c.args.triggers.now; since = c.args.since } in
    let place = c.args.scene.now.place in
    let events = c.args.scene.now.events.now in
    let unfired : (n : ℕ) → has c.ripen_noted_if.new.gone n ≡ false → Unfired o place events c.ripen_noted_if.new.spots n
    = λ n none.
    let ripened = c.in_ok-ripen_noted_if.ensures.elsewhere n none in
    left-unfired o place events j c.args.triggers.now c.args.since c.args.spots.now c.step_some.new.spots c.ripen_noted_if.new.spots n stand.kept
    (aside-untimed c.args.scene.now j c.args.index.now c.args.triggers.now c.args.since shows c.requires.within well listed c.args.spots.now c.args.timers.now stand c.requires.late c.args.owner n
    (c.in_ok-places.ensures n c.args.scene.now.to (c.in_ok-step_some.ensures.aside n ripened.0)))
    (c.in_ok-step_some.ensures.elsewhere n ripened.0).1 ripened.1 in
    spots-stand j c.args.scene.now.entry.now c.args.triggers.now c.args.since well c.args.scene.now.to c.step_some.new.spots c.collect_some.new.spots c.ripen_noted_if.new.timers shows.to
    (c.in_ok-step_some.ensures.moved j shows sees well stand.kept calm)
    (c.in_ok-step_some.ensures.places ∙ stand.places)
    (subst (λ l. AreTimed c.ripen_noted_if.new.timers l) ripe.0 ripe.1)
    (e unfired ∙ ap (map cleared) ripe.0))
    c.collect_some.ensures.cleared

pub returns-clause-fired : goal.returns-clause-fired
returns-clause-fired g c =
    on-then _ _ c.collect_some.result
    (λ e j shows sees well listed stand.
    let ripe = c.in_ok-ripen_noted_if.ensures.ripe (c.in_ok-step_some.ensures.timed stand.timed) in
    let calm : (n : ℕ) → has c.in_ok-places.places n ≡ false → At c.args.spots.now n (MovedAt j c.args.scene.now.entry.now c.args.triggers.now c.args.since)
    = λ n none. aside-moved c.args.scene.now j c.args.index.now c.args.triggers.now c.args.since shows c.requires.within well listed c.args.spots.now c.args.timers.now stand c.requires.late n (c.in_ok-places.ensures n c.args.scene.now.to none) in
    let o : Owner = record { owner = c.args.owner; triggers = c.args.triggers.now; since = c.args.since } in
    let place = c.args.scene.now.place in
    let events = c.args.scene.now.events.now in
    let unfired : (n : ℕ) → has c.ripen_noted_if.new.gone n ≡ false → Unfired o place events c.ripen_noted_if.new.spots n
    = λ n none.
    let ripened = c.in_ok-ripen_noted_if.ensures.elsewhere n none in
    left-unfired o place events j c.args.triggers.now c.args.since c.args.spots.now c.step_some.new.spots c.ripen_noted_if.new.spots n stand.kept
    (aside-untimed c.args.scene.now j c.args.index.now c.args.triggers.now c.args.since shows c.requires.within well listed c.args.spots.now c.args.timers.now stand c.requires.late c.args.owner n
    (c.in_ok-places.ensures n c.args.scene.now.to (c.in_ok-step_some.ensures.aside n ripened.0)))
    (c.in_ok-step_some.ensures.elsewhere n ripened.0).1 ripened.1 in
    spots-give j c.args.scene.now.entry.now c.args.triggers.now c.args.since well c.args.owner c.args.scene.now.to c.step_some.new.spots c.args.fired.now c.collect_some.new.fired shows.to
    (c.in_ok-step_some.ensures.moved j shows sees well stand.kept calm)
    (c.in_ok-step_some.ensures.places ∙ stand.places)
    (e unfired ∙ (λ i. c.args.fired.now ++ flat_map (firings_in o (shows.at i) (shows.events i)) (ripe.0 i))))
    c.collect_some.ensures.fired
