use Rattle.ha_top.proofs.SameLemmas.{counts_told, line_told}
use Rattle.ha_top.proofs.program.rehearse.Goals as goal

pub returns-clause-same_out : goal.returns-clause-same_out
returns-clause-same_out g c =
    let e = c.rehearse_call-status.ensures in
    record { told = counts_told _ _ _ _ e.output; faults = e.out_counts.faults_stay; zeros = e.out_counts.zeros_stay; same_name = e.out_name }

pub returns-clause-same_err : goal.returns-clause-same_err
returns-clause-same_err g c =
    let e = c.rehearse_call-status.ensures in
    record { told = line_told _ _ _ _ e.line; faults = e.err_counts.faults_stay; zeros = e.err_counts.zeros_stay; same_name = e.err_name }
