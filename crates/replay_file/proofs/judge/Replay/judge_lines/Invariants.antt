use Rattle.std.proofs.Common.{◌≡◌, ◌≤◌, length, Option}
use Rattle.ha_config.specs.Words.{Text}
use Rattle.ha_status.specs.Causes.{NeverFall}
use Rattle.ha_replay.specs.Traces.{reached, told}
use Rattle.replay_file.specs.Fronts.{most_bytes}
use Rattle.replay_file.specs.Judged.{IsAt}
use Rattle.replay_file.specs.Steps.{IsReady}
use Rattle.replay_file.proofs.judge.Replay.judge_lines.Given as goal

abbrev pub invariant-lines : goal.invariant-lines
invariant-lines g l =
    let s = l.initial in
    record {
      ready : IsReady (reached (g.E.Core.entries l.self.core) (g.E.Core.runs l.self.core) l.self.closing l.self.again) (g.E.Core.is_spent l.self.core) l.self.ended l.self.lines;
      short : length l.left ≤ most_bytes;
      at : (text : Text) (o e : Option Text) → IsAt text (told (reached (g.E.Core.entries s.self.core) (g.E.Core.runs s.self.core) s.self.closing s.self.again)) (g.E.Core.runs s.self.core) s.self.ended s.left o (g.K.Sink.written s.out) e (g.K.Sink.written s.err)
          → IsAt text (told (reached (g.E.Core.entries l.self.core) (g.E.Core.runs l.self.core) l.self.closing l.self.again)) (g.E.Core.runs l.self.core) l.self.ended l.left o (g.K.Sink.written l.out) e (g.K.Sink.written l.err);
      out_counts : NeverFall (g.K.Sink.faults s.out) (g.K.Sink.faults l.out) (g.K.Sink.zeros s.out) (g.K.Sink.zeros l.out);
      err_counts : NeverFall (g.K.Sink.faults s.err) (g.K.Sink.faults l.err) (g.K.Sink.zeros s.err) (g.K.Sink.zeros l.err);
      out_name : g.K.Sink.name l.out ≡ g.K.Sink.name s.out;
      err_name : g.K.Sink.name l.err ≡ g.K.Sink.name s.err;
    }

abbrev pub decreases-lines : goal.decreases-lines
decreases-lines g l = length l.left
