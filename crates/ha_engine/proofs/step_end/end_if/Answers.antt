use Rattle.std.proofs.Common.{◌-◌, length, sym, subst, arith}
use Rattle.ha_model.specs.Records.{Records}
use Rattle.engine_parts.specs.Records.{IsTable}
use Rattle.engine_entry.proofs.EndLemmas.{ended-table}
use Rattle.ha_engine.proofs.step_end.end_if.Goals as goal

pub returns-in-Some-clause-kept : goal.returns-in-Some-clause-kept
returns-in-Some-clause-kept c h going =
    let k = c.args.journal.now in (
      subst (λ (l : Records). IsTable k l) (sym c.end_run.ensures.list) (ended-table c.args.serial (length k - 1) c.in-Some.cause k c.args.runs.now.list (omega (arith, h.some)) h.table),
      c.end_run.ensures.kept h going,
    )
