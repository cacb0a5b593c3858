use Rattle.std.proofs.Common.{[], ◌∙◌}
use Rattle.std.specs.Prelude.{Some}
use Rattle.std.specs.Option.{option_map_or}
use Rattle.ha_sight.specs.StateStep.{next_object}
use Rattle.engine_parts.specs.Texts.{first_of}
use Rattle.ha_engine.proofs.boot.first_states.Goals as goal

pub returns : goal.returns
returns c e =
    let none = c.make-states.ensures e in
    let firsts = c.as_slice-firsts.ensures ∙ c.in_ok-changes.ensures in
    c.in_ok-tell_all.ensures.states e
    ∙ (λ i. option_map_or (λ d. Some (next_object (none i) d.text [] c.args.start)) (first_of (firsts i) e) (none i))
