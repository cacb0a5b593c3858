use Rattle.std.proofs.Common.{◌∙◌}
use Rattle.std.specs.Option.{option_map_or}
use Rattle.ha_sight.specs.declared.steps.Inner.{Inner}
use Rattle.ha_sight.specs.Inner.{inner_of_helpers}
use Rattle.script_calls.specs.Seen.{sees}
use Rattle.script_calls.proofs.answers.SeeingAnswers.inner.Goals as goal

pub returns : goal.returns
returns c =
    c.in_ok-inner.ensures
    ∙ (λ i. option_map_or Inner.Does (c.in_ok-own.ensures i) (inner_of_helpers (sees c.args.self.now) c.args.service.now c.args.target.now c.args.fields.now))
