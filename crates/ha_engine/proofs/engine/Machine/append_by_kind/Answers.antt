use Rattle.std.proofs.Common.{◌≡◌, true, sym, ◌∙◌, rules}
use Rattle.ha_config.specs.declared.command.Cmd.{Cmd}
use Rattle.ha_journal.specs.declared.entry.Entry.TheVariants.{Line}
use Rattle.ha_journal.specs.Commands.{put_as}
use Rattle.ha_journal.specs.Entries.{restarts}
use Rattle.ha_whole.specs.Whole.{put}
use Rattle.ha_engine.proofs.FollowedLemmas.{restart-is}
use Rattle.ha_engine.proofs.engine.Machine.append_by_kind.Goals as goal

pub returns-in-Ok-append_restart-clause-put : goal.returns-in-Ok-append_restart-clause-put
returns-in-Ok-append_restart-clause-put c =
    let told : restarts c.args.cmd ≡ true = sym c.restarts.ensures ∙ search (rules, c.if-not-restarts.false) in
    let is : c.args.cmd ≡ Cmd.Restart = restart-is c.args.cmd told in
    let old = c.args.self.now.entries in
    c.in-Ok-append_restart.ensures.put ∙ (λ i. put old (Line c.args.source c.args.number (put_as old (sym is i))))
