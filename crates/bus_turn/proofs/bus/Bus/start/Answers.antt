use Rattle.std.proofs.Common.{[]}
use Rattle.bus_turn.specs.Buses.{HasTaken}
use Rattle.bus_turn.specs.States.{keeper_of, outside_of, sink_of}
use Rattle.bus_turn.proofs.LastLemmas.{boot-dated, boot-there, mapped}
use Rattle.bus_turn.proofs.PutLemmas.{started}
use Rattle.bus_turn.proofs.bus.Bus.start.Goals as goal

pub invariant_of-result : goal.invariant_of-result
invariant_of-result g c =
    let s = sink_of g.K.Sink.written g.K.Sink.faults g.K.Sink.zeros g.K.Sink.name in
    let q = keeper_of g.Q.Keeper.kept g.Q.Keeper.faults in
    let a = c.args in
    let out = c.write_put-first in
    started (g.C.Core.entries a.core) (g.C.Core.runs a.core) (g.C.Core.is_spent a.core) out.result
    (outside_of s q a.calls a.errors a.trace a.keep) (outside_of s q out.new.calls out.new.errors out.new.trace out.new.keep)
    c.requires.boot.0 c.journal.ensures.right c.requires.boot.1 c.requires.usable c.requires.no_calls c.requires.no_errors (mapped s (HasTaken []) a.trace c.requires.no_trace)
    (let t = boot-there (g.C.Core.entries a.core) (g.C.Core.runs a.core) c.requires.boot.0 c.journal.ensures.right c.requires.boot.1 in out.ensures.ok [] c.requires.boot.0 t.0 t.1)

pub write_put-first-requires-clause-dated : goal.write_put-first-requires-clause-dated
write_put-first-requires-clause-dated g c = λ _ _. boot-dated (g.C.Core.entries c.args.core) (g.C.Core.runs c.args.core) c.requires.boot.0 c.journal.ensures.right c.requires.boot.1 c.requires.boot.2

pub returns-clause-shows : goal.returns-clause-shows
returns-clause-shows g c = λ boot is.
    let t = boot-there (g.C.Core.entries c.args.core) (g.C.Core.runs c.args.core) boot c.journal.ensures.right is in
    c.write_put-first.ensures.ok [] boot t.0 t.1
