use Rattle.std.proofs.Common.{false, refl, sym, subst}
use Rattle.ha_config.specs.Helpers.{is_helper}
use Rattle.ha_config.specs.declared.command.Cmd.{Cmd}
use Rattle.ha_journal.specs.Journal.{helpers}
use Rattle.state_table.specs.Table.{at}
use Rattle.trig_set.specs.Next.{Listed}
use Rattle.engine_parts.specs.Stages.{Entered}
use Rattle.engine_parts.proofs.SeeLemmas.{report-listed}
use Rattle.engine_entry.proofs.EnterPlain.{entered-as, fair-as, no-automation, no-helper, now-as}
use Rattle.engine_entry.proofs.enter.enter_report.Goals as goal

pub returns-clause-entered : goal.returns-clause-entered
returns-clause-entered c k rs h is =
    let p = c.args.parts.now in
    let e = c.args.entity.now in
    let text = c.args.text.now in
    let attributes = c.args.attributes.now in
    let cmd : Cmd = Cmd.Report e text attributes in
    let fair = fair-as k rs p h cmd is in
    let plain = no-automation e fair.0.0.1 in
    let free = no-helper (is_helper (helpers h.j) e) fair.1 in
    let now_is = now-as k rs p h cmd is refl in
    let old = h.kept.going.sees.looks in
    subst (λ (l : Listed). Entered k (record p { states = c.see_report.new.states; given = c.make.result; changed = false }) l) (sym c.in_ok-before.ensures.one)
    (entered-as k rs p h cmd is tt refl c.see_report.new.states c.make.result p.at e (at p.states e) c.make.ensures free
    (c.in_ok-before.ensures.stands h.j h.source h.number old.states_stand plain free now_is) now_is old.in_time
    (report-listed p.states h.j h.source h.number e text attributes old.states_stand plain free))
