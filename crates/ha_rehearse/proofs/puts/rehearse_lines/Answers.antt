use Rattle.std.proofs.lemmas.Result.{IfErr-weaker, on_ok_weaker}
use Rattle.ha_rehearse.proofs.PutLemmas.{on_closing}
use Rattle.ha_rehearse.proofs.puts.rehearse_lines.Goals as goal

pub close-requires-clause-lawful : goal.close-requires-clause-lawful
close-requires-clause-lawful g c κs within = (c.in-Ok.ensures.on c.requires.on.0 c.requires.on.1).running.lawful

pub returns-in-Ok-clause-closing : goal.returns-in-Ok-clause-closing
returns-in-Ok-clause-closing g c =
    on_ok_weaker c.close.result
    (λ h boot o. h boot c.args.lines (on_closing boot c.args.lines (g.C.Core.entries c.put_lines.new.core) (g.C.Core.runs c.put_lines.new.core) (c.in-Ok.ensures.on boot o)))
    c.close.ensures.closing

pub returns-in-Ok-clause-failed : goal.returns-in-Ok-clause-failed
returns-in-Ok-clause-failed g c =
    IfErr-weaker c.close.result _ _
    (λ fault h boot o. h boot c.args.lines (on_closing boot c.args.lines (g.C.Core.entries c.put_lines.new.core) (g.C.Core.runs c.put_lines.new.core) (c.in-Ok.ensures.on boot o)))
    c.close.ensures.failed
