use Rattle.ha_top.proofs.ToldLemmas.{told_answers}
use Rattle.ha_top.proofs.top.run_live.Goals as goal

pub returns : goal.returns
returns g c =
    told_answers c.args.words.now _ _ c.told-status.result _ c.run_files-status.ensures.lived c.told-status.ensures.status c.told-status.ensures.line c.told-status.ensures.counts.faults_stay
    c.told-status.ensures.counts.zeros_stay c.told-status.ensures.same_name c.run_files-status.ensures.asked c.run_files-status.ensures.stops c.run_files-status.ensures.handed
