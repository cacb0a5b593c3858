use Rattle.ha_status.proofs.CauseLemmas.{unread_alone}
use Rattle.replay_file.proofs.ReplayLemmas.{read_causes, read_replay}
use Rattle.replay_file.proofs.replay.replayed.Goals as goal

pub returns-in-Ok-read_front-clause-replay : goal.returns-in-Ok-read_front-clause-replay
returns-in-Ok-read_front-clause-replay g c =
    let front = c.in-Ok-read_front.front in
    read_replay (g.P.Place.holds c.args.place.now) c.args.name.now front.text.items c.as_slice.result.now front.end _ _ c.judge.result _ _ c.in-Ok.ensures.left c.in-Ok-read_front.ensures.read c.in-Ok-read_front.ensures.short
    c.as_slice.ensures.value c.judge.ensures.judged

pub returns-in-Ok-read_front-clause-unread : goal.returns-in-Ok-read_front-clause-unread
returns-in-Ok-read_front-clause-unread g c =
    let front = c.in-Ok-read_front.front in
    read_causes c.args.name.now c.as_slice.result.now front.end c.judge.result _ _ _ _ c.judge.ensures.judged
    (λ failed. unread_alone g.P.Source.Source.faults g.P.Source.Source.name _ c.read_front.new.source c.args.name.now c.in-Ok.ensures.no_faults (c.in-Ok-read_front.ensures.failed failed) c.in-Ok-read_front.ensures.same_name c.in-Ok.ensures.named)
