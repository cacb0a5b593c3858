use Rattle.std.proofs.Common.{◌∙◌, [], length}
use Rattle.std.specs.Prelude.{None, flat_map, option_map, slice_get, if◌then◌else◌}
use Rattle.ha_config.specs.Words.{up_to}
use Rattle.timer_queue.specs.Timers.{due_of}
use Rattle.helper_set.specs.Passes.{entity_at, idled}
use Rattle.helper_set.proofs.timers.pass.Goals as goal

pub returns-clause-passes : goal.returns-clause-passes
returns-clause-passes c =
    let old = c.args.kept.now.items in
    record {
      timers = λ n. c.in_ok-found.ensures.timers n ∙ (λ i. if c.in_ok-places.ensures n i then None else due_of n c.args.timers.now);
      kept = λ n. c.in_ok-found.ensures.kept n ∙ (λ i. if c.in_ok-places.ensures n i then option_map idled (slice_get old n) else slice_get old n);
    }

pub returns-clause-found : goal.returns-clause-found
returns-clause-found c =
    let old = c.args.kept.now.items in
    c.in_ok-found.ensures.found
    ∙ (λ i. flat_map (λ n. if c.in_ok-places.ensures n i then entity_at old n else []) (up_to (length old)))
