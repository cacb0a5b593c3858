use Rattle.std.proofs.Common.{◌∙◌, ap}
use Rattle.trig_set.specs.Kept.{is_true}
use Rattle.trig_set.proofs.OnLemmas.{on-then}
use Rattle.trig_set.proofs.opening.open_seen.Goals as goal

pub returns-clause-moved : goal.returns-clause-moved
returns-clause-moved g c =
    on-then _ _ c.open_spot.result
    (λ e x since boot sees keeps. e x since boot (c.in_ok-is.ensures ∙ ap (λ s. is_true s c.args.trigger.now.rule) sees) keeps)
    c.open_spot.ensures.moved
