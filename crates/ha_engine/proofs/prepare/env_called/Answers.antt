use Rattle.std.proofs.Common.{◌∷◌, ◌++◌, ap, ◌∙◌, codes}
use Rattle.ha_config.specs.Words.{Pairs}
use Rattle.ha_engine.proofs.prepare.env_called.Goals as goal

pub returns : goal.returns
returns c =
    c.of_trigger_with.ensures ∙ ap (λ (l : Pairs). (codes "trigger", c.in_ok-trigger.trigger) ∷ l) c.in_ok-pairs.ensures
    ∙ ap (λ (l : Pairs). l ++ c.args.fields.now) c.in_ok-trigger.ensures
