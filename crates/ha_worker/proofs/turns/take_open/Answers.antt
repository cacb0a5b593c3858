use Rattle.std.proofs.Common.{◌≡◌, None, rules, subst, sym, refl}
use Rattle.std.specs.Prelude.{IsSome}
use Rattle.crossbeam_channel.specs.Claims.{view}
use Rattle.bus_pass.specs.Reads.{prepared_in}
use Rattle.ha_worker.proofs.GiveLemmas.{gave_same, may_back, no_line_then, took_holds, took_lines}
use Rattle.ha_worker.proofs.turns.take_open.Goals as goal

pub give-requires-clause-may : goal.give-requires-clause-may
give-requires-clause-may g c κs within =
    let e = c.take-bus.ensures in
    may_back c.args.id (view c.take-bus.new.pass) c.take-bus.result (prepared_in g.C.Prepare.Prepare.reads c.nothing.result) (took_holds c.args.id (view c.args.pass.now) (view c.take-bus.new.pass) c.take-bus.result c.requires.one e.took e.tells e.running e.stored)

pub returns-then-is_some-clause-lines : goal.returns-then-is_some-clause-lines
returns-then-is_some-clause-lines g c =
    let e = c.take-bus.ensures in
    let s = gave_same c.args.id (view c.take-bus.new.pass) (view c.give.new.pass) c.take-bus.result c.take-bus.result
    (took_holds c.args.id (view c.args.pass.now) (view c.take-bus.new.pass) c.take-bus.result c.requires.one e.took e.tells e.running e.stored) refl (rw c.nothing.ensures at c.give.ensures.gave) in
    no_line_then (view c.args.pass.now) (view c.take-bus.new.pass) (view c.give.new.pass) (took_lines (view c.args.pass.now) (view c.take-bus.new.pass) c.take-bus.result e.took) s.1

pub returns-then-is_some-clause-none : goal.returns-then-is_some-clause-none
returns-then-is_some-clause-none g c =
    let e = c.take-bus.ensures in
    let s = gave_same c.args.id (view c.take-bus.new.pass) (view c.give.new.pass) c.take-bus.result c.take-bus.result
    (took_holds c.args.id (view c.args.pass.now) (view c.take-bus.new.pass) c.take-bus.result c.requires.one e.took e.tells e.running e.stored) refl (rw c.nothing.ensures at c.give.ensures.gave) in
    let some : IsSome c.take-bus.result.first = search rules in
    λ _. (s.0, subst IsSome (sym s.2) some)

pub returns-clause-lines : goal.returns-clause-lines
returns-clause-lines g c = took_lines (view c.args.pass.now) (view c.take-bus.new.pass) c.take-bus.result c.take-bus.ensures.took

pub returns-clause-some : goal.returns-clause-some
returns-clause-some g c =
    let e = c.take-bus.ensures in
    let free : c.take-bus.result.first ≡ None = search rules in
    (took_holds c.args.id (view c.args.pass.now) (view c.take-bus.new.pass) c.take-bus.result c.requires.one e.took e.tells e.running e.stored, free)
