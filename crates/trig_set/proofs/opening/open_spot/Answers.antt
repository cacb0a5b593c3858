use Rattle.std.proofs.Common.{◌∙◌, ap, None, Some}
use Rattle.std.specs.Prelude.{codes, is_none, is_some, ◌&&◌, if◌then◌else◌}
use Rattle.ha_value.specs.declared.value.Value.TheVariants.{Pairs as Map}
use Rattle.ha_sight.specs.Rules.{head_pairs, starts}
use Rattle.trig_set.proofs.OpeningLemmas.{spot-opens}
use Rattle.trig_set.proofs.opening.open_spot.Goals as goal

pub returns-clause-moved : goal.returns-clause-moved
returns-clause-moved c x since boot true-now keeps =
    let t = c.args.trigger.now in
    spot-opens x boot t since c.args.is c.args.spot.now c.in_ok-fired.fired
    (c.in_ok-fired.ensures ∙ ap (λ e. if is_some t.hold then None else if starts t.rule && is_none e then Some (Map (head_pairs (codes "homeassistant") t)) else None) c.as_ref.ensures.value)
    true-now keeps
