use Rattle.std.proofs.Common.{◌∙◌, ap}
use Rattle.ha_config.specs.Sound.{is_sound_expr}
use Rattle.trigger_tests.proofs.TestLemmas.{chosen-sound}
use Rattle.trigger_tests.proofs.reads.one_on.Goals as goal

pub returns : goal.returns
returns c =
    chosen-sound c.in_ok-test.test c.in_ok-yes.yes c.in_ok-no.no (ap is_sound_expr c.in_ok-test.ensures ∙ c.in_ok-is_on.ensures)
    (ap is_sound_expr c.in_ok-yes.ensures ∙ c.in_ok-is_on-2.ensures) (ap is_sound_expr c.in_ok-no.ensures ∙ c.in_ok-is_on-3.ensures)
