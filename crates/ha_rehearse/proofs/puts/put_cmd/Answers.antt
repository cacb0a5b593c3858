use Rattle.std.proofs.Common.{◌∙◌, ◌+◌, ap, arith}
use Rattle.std.proofs.lemmas.Result.{IfErr-weaker, on_ok_weaker}
use Rattle.ha_config.specs.declared.command.Cmd.{Cmd}
use Rattle.ha_journal.specs.declared.entry.Entry.TheVariants.{Line}
use Rattle.ha_journal.specs.Commands.{put_as}
use Rattle.ha_whole.specs.Whole.{put}
use Rattle.ha_rehearse.proofs.PutLemmas.{line_refused, lined_on}
use Rattle.ha_rehearse.proofs.puts.put_cmd.Goals as goal

pub settle-requires-clause-running : goal.settle-requires-clause-running
settle-requires-clause-running g c κs within =
    (lined_on (g.C.Core.entries c.args.core.now) (g.C.Core.entries c.put_line.new.self) (g.C.Core.runs c.args.core.now) (g.C.Core.runs c.put_line.new.self) c.args.i c.from.result c.args.cmd
    c.from.ensures c.requires.cmd c.requires.rested c.in-Ok.ensures.right (c.in-Ok.ensures.put ∙ ap (λ (d : Cmd). put (g.C.Core.entries c.args.core.now) (Line 0 c.from.result (put_as (g.C.Core.entries c.args.core.now) d))) (c.requires.still g.C.Prepare.Prepare.reads)) c.requires.on.0 c.requires.on.1).running

pub returns-in-Ok-clause-on : goal.returns-in-Ok-clause-on
returns-in-Ok-clause-on g c =
    on_ok_weaker c.settle.result (λ h boot o. h boot (c.args.i + 1)
    (lined_on (g.C.Core.entries c.args.core.now) (g.C.Core.entries c.put_line.new.self) (g.C.Core.runs c.args.core.now) (g.C.Core.runs c.put_line.new.self) c.args.i c.from.result c.args.cmd
    c.from.ensures c.requires.cmd c.requires.rested c.in-Ok.ensures.right (c.in-Ok.ensures.put ∙ ap (λ (d : Cmd). put (g.C.Core.entries c.args.core.now) (Line 0 c.from.result (put_as (g.C.Core.entries c.args.core.now) d))) (c.requires.still g.C.Prepare.Prepare.reads)) boot o)) c.settle.ensures.on

pub returns-in-Ok-clause-failed : goal.returns-in-Ok-clause-failed
returns-in-Ok-clause-failed g c =
    IfErr-weaker c.settle.result _ _ (λ fault h boot o. h boot (c.args.i + 1)
    (lined_on (g.C.Core.entries c.args.core.now) (g.C.Core.entries c.put_line.new.self) (g.C.Core.runs c.args.core.now) (g.C.Core.runs c.put_line.new.self) c.args.i c.from.result c.args.cmd
    c.from.ensures c.requires.cmd c.requires.rested c.in-Ok.ensures.right (c.in-Ok.ensures.put ∙ ap (λ (d : Cmd). put (g.C.Core.entries c.args.core.now) (Line 0 c.from.result (put_as (g.C.Core.entries c.args.core.now) d))) (c.requires.still g.C.Prepare.Prepare.reads)) boot o)) c.settle.ensures.failed

pub returns-in-Err-clause-failed : goal.returns-in-Err-clause-failed
returns-in-Err-clause-failed g c = λ boot o.
    line_refused (g.C.Core.entries c.args.core.now) (g.C.Core.entries c.put_line.new.self) (g.C.Core.runs c.args.core.now) (g.C.Core.runs c.put_line.new.self) c.in-Err.fault
    c.args.i (c.args.i + 1) c.args.cmd (omega arith) c.requires.cmd c.in-Err.ensures.full c.in-Err.ensures.stays boot o

pub put_line-requires-clause-fair : goal.put_line-requires-clause-fair
put_line-requires-clause-fair g c = c.requires.fair g.C.Prepare.Prepare.reads (g.C.Core.entries c.args.core.now)
