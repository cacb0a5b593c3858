use Rattle.std.proofs.Common.{[], ◌∷◌, ◌∙◌, ◌++◌, refl, ap, map, subst, sym}
use Rattle.std.specs.Prelude.{flat_map}
use Rattle.ha_past.specs.Firings.{Owner}
use Rattle.ha_journal.specs.Journal.{now}
use Rattle.trig_set.specs.Kept.{AreTimed, cleared}
use Rattle.trig_set.proofs.NoteLemmas.{spots-give, spots-stand}
use Rattle.trig_set.specs.Timed.{firings_in}
use Rattle.trig_set.proofs.OnLemmas.{on-then}
use Rattle.trig_set.proofs.OpeningLemmas.{boot-opens, none-ripe}
use Rattle.trig_set.proofs.OwnerLemmas.{own-alone}
use Rattle.trig_set.proofs.TimedLemmas.{opens-events}
use Rattle.trig_set.proofs.opening.open_listed.Goals as goal

pub returns-clause-stands : goal.returns-clause-stands
returns-clause-stands g c =
    on-then _ _ c.collect_own_of.result
    (λ e x since timers boot sees well stand.
    let ripe = none-ripe x boot (now (x ∷ [])) c.open_spots.new.spots in
    spots-stand [] x c.args.triggers.now since well (now (x ∷ [])) c.open_spots.new.spots c.collect_own_of.new.spots timers refl
    (c.in_ok-open_spots.ensures.moved x since boot sees stand.kept)
    (c.in_ok-open_spots.ensures.places ∙ stand.places)
    (subst (AreTimed timers) (sym ripe) (c.in_ok-open_spots.ensures.timed timers stand.timed))
    (e ∙ ap (map cleared) (sym ripe)))
    c.collect_own_of.ensures.cleared

pub returns-clause-fired : goal.returns-clause-fired
returns-clause-fired g c =
    on-then _ _ c.collect_own_of.result
    (λ e x since timers boot sees well stand.
    let o : Owner = record { owner = c.args.owner; triggers = c.args.triggers.now; since = since } in
    let ripe = none-ripe x boot (now (x ∷ [])) c.open_spots.new.spots in
    spots-give [] x c.args.triggers.now since well c.args.owner (now (x ∷ [])) c.open_spots.new.spots c.args.fired.now c.collect_own_of.new.fired refl
    (c.in_ok-open_spots.ensures.moved x since boot sees stand.kept)
    (c.in_ok-open_spots.ensures.places ∙ stand.places)
    (e
    ∙ (λ i. c.args.fired.now ++ own-alone o 0 c.open_spots.new.spots i)
    ∙ (λ i. c.args.fired.now ++ flat_map (firings_in o 0 (sym (opens-events [] x (boot-opens x boot)) i)) (sym ripe i))))
    c.collect_own_of.ensures.fired
