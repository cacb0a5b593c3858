use Rattle.state_table.specs.Table.{at}
use Rattle.state_laws.proofs.StandLemmas.{stands-gone}
use Rattle.std.proofs.Common.{sym, subst}
use Rattle.ha_config.specs.declared.command.Cmd.{Cmd}
use Rattle.ha_journal.specs.declared.entry.Entry.TheVariants.{Line}
use Rattle.trig_set.specs.Next.{AreListed, Listed}
use Rattle.engine_parts.proofs.SeeLemmas.{gone-listed}
use Rattle.engine_parts.proofs.see.see_gone.Goals as goal

pub returns-clause-listed : goal.returns-clause-listed
returns-clause-listed c j k n stands plain free =
    subst (λ (l : Listed). AreListed j (Line k n (Cmd.Gone c.args.entity.now)) l) (sym c.in_ok-before.ensures)
    (gone-listed c.args.states.now j k n c.args.entity.now stands plain free)

pub returns-clause-stands : goal.returns-clause-stands
returns-clause-stands c = stands-gone (at c.args.states.now) _ c.args.entity.now c.gone.ensures.rest
