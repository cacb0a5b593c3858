use Rattle.ha_top.proofs.SameLemmas.{line_told}
use Rattle.ha_top.proofs.program.ended.Goals as goal

pub returns-clause-same_err : goal.returns-clause-same_err
returns-clause-same_err g c =
    let e = c.told-status.ensures in record { told = line_told _ _ _ _ e.line; faults = e.counts.faults_stay; zeros = e.counts.zeros_stay; same_name = e.same_name }
