use Rattle.std.proofs.Common.{◌∙◌, ap, false, refl, sym, true}
use Rattle.ha_replay.specs.Traces.{reached, told}
use Rattle.trace_laws.specs.Runs.{line_count}
use Rattle.replay_file.proofs.StopLemmas.{behind_end}
use Rattle.replay_file.proofs.TakeLemmas.{at_same}
use Rattle.replay_file.proofs.judge.Replay.take.Goals as goal

pub returns-in-Ok-clause-goes_on : goal.returns-in-Ok-clause-goes_on
returns-in-Ok-clause-goes_on g c = λ text behind o e at.
    let s = c.args.self.now in
    let r = reached (g.E.Core.entries s.core) (g.E.Core.runs s.core) s.closing s.again in
    c.in-Ok.ensures.goes_on text behind o e (at_same text r r s.ended false _ o _ e _ refl (sym c.if-self.false) at)

pub returns-in-Err-clause-stops : goal.returns-in-Err-clause-stops
returns-in-Err-clause-stops g c = λ text behind end o e one at.
    let s = c.args.self.now in
    let r = reached (g.E.Core.entries s.core) (g.E.Core.runs s.core) s.closing s.again in
    c.in-Err.ensures.stops text behind end o e one (at_same text r r s.ended false _ o _ e _ refl (sym c.if-self.false) at)

pub returns-then-self-clause-stops : goal.returns-then-self-clause-stops
returns-then-self-clause-stops g c = λ text behind end o e one at.
    let s = c.args.self.now in
    let r = reached (g.E.Core.entries s.core) (g.E.Core.runs s.core) s.closing s.again in
    let at_end = at_same text r r s.ended true _ o _ e _ refl (sym c.if-self.true) at in
    behind_end text c.args.line.now behind end (told r) r.records s.lines o _ e _ one at_end (c.requires.ready.counted ∙ ap (line_count (told r)) c.if-self.true) c.status_of.result (c.status_of.ensures.refused refl)
