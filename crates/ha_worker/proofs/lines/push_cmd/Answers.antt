use Rattle.ha_config.specs.Helpers.{is_helper}
use Rattle.ha_journal.specs.Commands.{has_automation, lets_reload}
use Rattle.ha_journal.specs.Journal.{helpers}
use Rattle.std.proofs.Common.{List, [], ◌∷◌, ◌++◌, ◌∙◌, ap}
use Rattle.ha_config.specs.declared.command.Cmd.{Cmd}
use Rattle.ha_config.specs.Fair.{shuts_source}
use Rattle.ha_worker.proofs.CmdLemmas.{read_open}
use Rattle.ha_worker.proofs.ReadLemmas.{open_more}
use Rattle.ha_worker.proofs.lines.push_cmd.Goals as goal

pub returns-clause-open : goal.returns-clause-open
returns-clause-open c =
    rw (c.push_back_reserved.ensures.items ∙ ap (λ (cs : List Cmd). cs ++ (c.in_ok-cmd.cmd ∷ [])) c.reserve.ensures.items)
    (open_more c.args.cmds.now.items c.in_ok-cmd.cmd c.requires.open (ap shuts_source c.in_ok-cmd.ensures.exact ∙ read_open c.args.line.now, (λ read j. c.in_ok-cmd.ensures.fair read (has_automation j) (is_helper (helpers j)) (lets_reload j))))
