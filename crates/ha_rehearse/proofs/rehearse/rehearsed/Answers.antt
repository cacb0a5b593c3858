use Rattle.ha_rehearse.specs.Rehearsed.{boot_of}
use Rattle.ha_rehearse.proofs.BootLemmas.{boot_on, rehearsed_full}
use Rattle.ha_rehearse.proofs.rehearse.rehearsed.Goals as goal

pub returns-in-Ok-rehearse_lines-clause-rehearsed : goal.returns-in-Ok-rehearse_lines-clause-rehearsed
returns-in-Ok-rehearse_lines-clause-rehearsed g c =
    let b = c.in-Ok.ensures.boot in
    record {
      rehearses = record {
        config = b.0;
        reads = b.1;
        closing = c.in-Ok-rehearse_lines.ensures.closing (boot_of b.0) (boot_on (g.C.Core.entries c.in-Ok.core) (g.C.Core.runs c.in-Ok.core) (boot_of b.0) b.2 c.journal.ensures.right);
      };
      quiet = c.in-Ok-rehearse_lines.ensures.quiet;
    }

pub returns-in-Err-Full-clause-fault : goal.returns-in-Err-Full-clause-fault
returns-in-Err-Full-clause-fault g c =
    let b = c.in-Ok.ensures.boot in
    rehearsed_full c.args.lines b.0 c.in-Err-Full.field-0 (g.C.Core.entries c.rehearse_lines.new.core) (g.C.Core.runs c.rehearse_lines.new.core) b.1 c.in-Err-Full.field-0-is
    (c.in-Err-Full.ensures.failed (boot_of b.0) (boot_on (g.C.Core.entries c.in-Ok.core) (g.C.Core.runs c.in-Ok.core) (boot_of b.0) b.2 c.journal.ensures.right))
