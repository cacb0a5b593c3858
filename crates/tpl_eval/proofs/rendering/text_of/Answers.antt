use Rattle.std.proofs.Common.{subst, sym}
use Rattle.std.specs.Prelude.{Option}
use Rattle.ha_config.specs.Words.{Text}
use Rattle.tpl_fns.specs.Outcome.{Gives}
use Rattle.tpl_eval.proofs.rendering.text_of.Goals as goal

pub returns-in-Some : goal.returns-in-Some
returns-in-Some c = λ sight sees.
    subst (λ (o : Option Text). Gives {X = Text} c.trimmed.result o) (sym (c.in-Some.ensures sight c.args.env.now)) c.trimmed.ensures
