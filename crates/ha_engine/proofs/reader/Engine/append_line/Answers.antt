use Rattle.std.proofs.Common.{sym, ap, subst}
use Rattle.ha_config.specs.declared.command.Cmd.{Cmd}
use Rattle.ha_journal.specs.Commands.{AreRead, IsFair, put_as}
use Rattle.ha_engine.specs.Core.{Core}
use Rattle.ha_engine.proofs.AnswerLemmas.{put-told, read-after}
use Rattle.ha_engine.proofs.reader.Engine.append_line.Goals as goal

pub append_line-requires-clause-fair : goal.append_line-requires-clause-fair
append_line-requires-clause-fair g c =
    subst (λ (v : Core). IsFair v.entries (put_as v.entries c.in-Ok.cmd)) (sym c.self.view_is)
    (subst (λ (m : Cmd). IsFair c.args.self.now.entries (put_as c.args.self.now.entries m)) (sym c.in-Ok.ensures.value) c.requires.fair)

pub invariant_of-self : goal.invariant_of-self
invariant_of-self g c = subst (AreRead g.P.Prepare.reads) (sym c.spend.ensures.entries) c.self.invariant

pub invariant_of-self-2 : goal.invariant_of-self-2
invariant_of-self-2 g c =
    read-after g.P.Prepare.reads c.append_line.new.self.entries c.self.inside.machine.entries c.args.source c.args.number c.args.cmd c.in-Ok.cmd c.in-Ok.ensures.value
    _ c.append_line.result c.self.invariant c.append_line.ensures.put c.append_line.ensures.stays

pub returns-clause-put : goal.returns-clause-put
returns-clause-put g c =
    put-told g.P.Prepare.reads c.append_line.new.self.entries c.self.inside.machine.entries c.args.source c.args.number c.args.cmd c.in-Ok.cmd c.in-Ok.ensures.value
    c.args.self.now.entries c.append_line.result (ap (λ (v : Core). v.entries) c.self.view_is) c.append_line.ensures.put
