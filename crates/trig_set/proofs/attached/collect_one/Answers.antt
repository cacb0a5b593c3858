use Rattle.std.proofs.Common.{◌∙◌, ◌++◌, [], append_assoc}
use Rattle.std.specs.List.{cons_option}
use Rattle.ha_past.specs.Firings.{Owner}
use Rattle.trig_set.specs.Kept.{firing_in}
use Rattle.trig_set.specs.Timed.{timed_in}
use Rattle.trig_set.proofs.OnLemmas.{on-then}
use Rattle.trig_set.proofs.OwnerLemmas.{consed}
use Rattle.trig_set.proofs.attached.collect_one.Goals as goal

pub returns-clause-fired : goal.returns-clause-fired
returns-clause-fired c =
    let o : Owner = record { owner = c.args.owner; triggers = c.args.triggers.now; since = c.args.since } in
    let own = firing_in c.args.owner c.args.spot.now in
    let timed = timed_in o c.args.scene.now.place c.args.scene.now.events.now c.args.spot.now in
    on-then _ _ c.push_timed.result
    (λ e.
    e
    ∙ (λ i. c.in_ok-collect_own.ensures.fired i ++ timed)
    ∙ append_assoc c.args.fired.now (cons_option own []) timed
    ∙ (λ i. c.args.fired.now ++ consed own timed i))
    c.push_timed.ensures
