use Rattle.std.specs.Prelude.{map, option_to_list}
use Rattle.ha_status.specs.Causes.{WriteCause}
use Rattle.ha_status.proofs.CauseLemmas.{falls_never, told_status}
use Rattle.ha_status.proofs.WrittenLemmas.{line_by_wider}
use Rattle.replay_file.proofs.ReplayLemmas.{replay_told}
use Rattle.replay_file.proofs.WriteLemmas.{cause_before, rose_within}
use Rattle.replay_file.proofs.replay.replay_call.Goals as goal

pub returns-clause-replay : goal.returns-clause-replay
returns-clause-replay g c =
    let first = c.replayed-status in
    replay_told (g.P.Place.holds c.args.place.now) c.args.name.now (map g.P.Source.Source.left (option_to_list first.result.1)) first.result.0 c.told.result c.told.ensures.status _ _ _ _ _ _
    (line_by_wider _ _ _ _ _ (rose_within _ _ _ _ _ _ first.ensures.err_counts.faults_stay first.ensures.err_counts.zeros_stay) c.told.ensures.line) first.ensures.replay

pub returns-clause-unwritten : goal.returns-clause-unwritten
returns-clause-unwritten g c =
    let first = c.replayed-status in
    told_status (WriteCause _ _) first.result.0 c.told.result c.told.ensures.status (cause_before _ _ _ _ _ _ _ _ _ _ _ c.told.ensures.counts first.ensures.unwritten) tt

pub returns-clause-err_counts : goal.returns-clause-err_counts
returns-clause-err_counts g c = falls_never _ _ _ _ _ _ c.replayed-status.ensures.err_counts c.told.ensures.counts
