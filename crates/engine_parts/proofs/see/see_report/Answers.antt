use Rattle.state_table.specs.Table.{at}
use Rattle.state_laws.proofs.StandLemmas.{stands-report}
use Rattle.std.proofs.Common.{◌∙◌, ◌∷◌, [], ap, sym, subst}
use Rattle.std.specs.Prelude.{Option}
use Rattle.ha_config.specs.declared.command.Cmd.{Cmd}
use Rattle.ha_journal.specs.declared.entry.Entry.TheVariants.{Line}
use Rattle.ha_sight.specs.declared.state.StateObject.{StateObject}
use Rattle.trig_set.specs.Next.{AreListed, Listed}
use Rattle.engine_parts.proofs.SeeLemmas.{report-listed}
use Rattle.engine_parts.proofs.see.see_report.Goals as goal

pub returns-clause-listed : goal.returns-clause-listed
returns-clause-listed c j k n stands plain free =
    let is = c.in_ok-list.ensures ∙ ap (λ (s : Option StateObject). (c.args.entity.now, s) ∷ []) c.in_ok-before.ensures.before in
    subst (λ (l : Listed). AreListed j (Line k n (Cmd.Report c.args.entity.now c.args.text.now c.args.attributes.now)) l) (sym is)
    (report-listed c.args.states.now j k n c.args.entity.now c.args.text.now c.args.attributes.now stands plain free)

pub returns-clause-stands : goal.returns-clause-stands
returns-clause-stands c = stands-report (at c.args.states.now) _ c.args.entity.now c.args.text.now c.args.attributes.now c.args.now c.in_ok-before.ensures.ok

pub returns-clause-one : goal.returns-clause-one
returns-clause-one c = c.in_ok-list.ensures ∙ ap (λ (s : Option StateObject). (c.args.entity.now, s) ∷ []) c.in_ok-before.ensures.before
