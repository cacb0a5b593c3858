use Rattle.state_laws.proofs.StandLemmas.{stands-report}
use Rattle.std.proofs.Common.{ap, refl, sym, ◌∙◌}
use Rattle.ha_config.specs.declared.command.Cmd.{Cmd}
use Rattle.ha_journal.specs.declared.entry.Entry.TheVariants.{Line}
use Rattle.ha_config.specs.Helpers.{is_helper}
use Rattle.ha_journal.specs.Journal.{helpers}
use Rattle.state_table.specs.Table.{at}
use Rattle.engine_parts.proofs.SeeLemmas.{report-listed}
use Rattle.engine_entry.proofs.EnterPlain.{entered-as, fair-as, last-same, no-automation, no-helper, now-as}
use Rattle.engine_entry.proofs.enter.enter_left.Goals as goal

pub returns-clause-entered : goal.returns-clause-entered
returns-clause-entered c k rs h is left =
    let p = c.args.parts.now in
    let e = c.args.entity.now in
    let cmd : Cmd = Cmd.Report e c.args.text.now c.args.attributes.now in
    let fair = fair-as k rs p h cmd is in
    let plain = no-automation e fair.0.0.1 in
    let free = no-helper (is_helper (helpers h.j) e) fair.1 in
    let now_is = now-as k rs p h cmd is refl in
    let old = h.kept.going.sees.looks in
    let entered = entered-as k rs p h cmd is tt refl c.report.new.self c.make.result p.at e (at p.states e) c.make.ensures free
    (stands-report (at p.states) _ e c.args.text.now c.args.attributes.now p.at c.in_ok-report.ensures.ok h.j h.source h.number old.states_stand plain free now_is) now_is old.in_time
    (report-listed p.states h.j h.source h.number e c.args.text.now c.args.attributes.now old.states_stand plain free) in
    record {
      sees = entered.sees;
      untold = record { source = h.source; number = h.number; old = at p.states e; untold = entered.untold; x_is = last-same entered.untold.j h.j entered.untold.x (Line h.source h.number h.cmd) (sym entered.untold.journal_is ∙ h.journal_is) ∙ ap (Line h.source h.number) is; left = left };
      keys_early = entered.keys_early;
    }
