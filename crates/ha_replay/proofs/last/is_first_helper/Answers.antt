use Rattle.std.proofs.Common.{List, ◌∙◌, ap, rules}
use Rattle.ha_config.specs.declared.helper.Helper.{Helper}
use Rattle.ha_config.specs.Helpers.{is_helper}
use Rattle.ha_replay.proofs.CmdLemmas.{first-helpers, no-helpers}
use Rattle.ha_replay.proofs.last.is_first_helper.Goals as goal

pub returns-in-Some : goal.returns-in-Some
returns-in-Some c =
    c.helps_here.ensures ∙ ap (λ (hs : List Helper). is_helper hs c.args.entity.now) (first-helpers c.args.journal.now c.in-Some.entry.now (search (rules, c.first.ensures.value, c.in-Some.is)))

pub returns-in-None : goal.returns-in-None
returns-in-None c = no-helpers c.args.journal.now c.args.entity.now (search (rules, c.first.ensures.value, c.in-None.is))
