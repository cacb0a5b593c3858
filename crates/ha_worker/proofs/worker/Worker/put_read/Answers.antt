use Rattle.std.proofs.Common.{◌≡◌, ◌∙◌, map, rules, subst, sym}
use Rattle.std.specs.Prelude.{IsSome}
use Rattle.crossbeam_channel.specs.Claims.{view}
use Rattle.ha_config.specs.Fair.{prepared}
use Rattle.bus_pass.specs.Reads.{reading}
use Rattle.ha_worker.proofs.CameLemmas.{none_of, some_of_none}
use Rattle.ha_worker.proofs.GiveLemmas.{sits_still}
use Rattle.ha_worker.proofs.GivenLemmas.{given_all, given_may, given_noted, given_sits, given_some, given_takes, holds_at, holds_unshut}
use Rattle.ha_worker.proofs.LineLemmas.{none_yet}
use Rattle.ha_worker.proofs.worker.Worker.put_read.Goals as goal

pub returns-in_default-clause-sits : goal.returns-in_default-clause-sits
returns-in_default-clause-sits g c =
    let t = c.take_open.ensures in
    sits_still c.args.self.now.next c.args.self.now.id (view c.args.self.now.pass) (view c.take_open.new.pass) c.requires.takes.sits t.lines (t.none c.in_default.is).0

pub returns-in_default-clause-some : goal.returns-in_default-clause-some
returns-in_default-clause-some g c = none_yet c.args.self.now.id (map (prepared g.C.Prepare.Prepare.reads) c.args.cmds.now.items) (view c.args.self.now.pass) (view c.take_open.new.pass) c.take_open.ensures.lines

pub returns-in_default-clause-halt : goal.returns-in_default-clause-halt
returns-in_default-clause-halt g c = (c.take_open.ensures.none c.in_default.is).1

pub put_all-done-requires-clause-open : goal.put_all-done-requires-clause-open
put_all-done-requires-clause-open g c κs within = c.in-Some.ensures.some.1

pub put_all-done-requires-clause-at : goal.put_all-done-requires-clause-at
put_all-done-requires-clause-at g c κs within =
    holds_at c.args.self.now.next c.args.self.now.id (view c.args.self.now.pass) (view c.take_open.new.pass) c.in-Some.bus c.requires.takes c.take_open.ensures.lines c.in-Some.ensures.some.0

pub put_all-done-requires-clause-unshut : goal.put_all-done-requires-clause-unshut
put_all-done-requires-clause-unshut g c κs within =
    holds_unshut c.args.self.now.next c.args.self.now.id (view c.args.self.now.pass) (view c.take_open.new.pass) c.in-Some.bus c.requires.takes c.take_open.ensures.lines c.in-Some.ensures.some.0

pub give-requires-clause-may : goal.give-requires-clause-may
give-requires-clause-may g c κs within =
    let h = c.in-Some.ensures.some in
    let r : c.many.result ≡ reading c.args.self.now.next c.put_all-done.new.next c.args.cmds.now.items = search rules in
    rw r (given_may c.args.self.now.id c.args.self.now.next c.put_all-done.new.next (map (prepared g.C.Prepare.Prepare.reads) c.args.cmds.now.items) c.put_all-done.ensures.some.0 (view c.args.self.now.pass) (view c.take_open.new.pass) c.in-Some.bus c.put_all-done.new.bus c.requires.takes c.take_open.ensures.lines h.0 h.1 c.put_all-done.ensures.some.1)

pub give-requires-clause-running : goal.give-requires-clause-running
give-requires-clause-running g c κs within = c.put_all-done.ensures.some.1.came.at.running

pub give-requires-clause-stored : goal.give-requires-clause-stored
give-requires-clause-stored g c κs within = c.put_all-done.ensures.some.1.came.at.stored

pub returns-then-not-done-clause-sits : goal.returns-then-not-done-clause-sits
returns-then-not-done-clause-sits g c =
    let h = c.in-Some.ensures.some in
    let r : c.many.result ≡ reading c.args.self.now.next c.put_all-done.new.next c.args.cmds.now.items = search rules in
    given_sits c.args.self.now.id c.args.self.now.next c.put_all-done.new.next (map (prepared g.C.Prepare.Prepare.reads) c.args.cmds.now.items) c.put_all-done.ensures.some.0 (view c.args.self.now.pass) (view c.take_open.new.pass) c.in-Some.bus c.put_all-done.new.bus c.requires.takes c.take_open.ensures.lines h.0 h.1 c.put_all-done.ensures.some.1 (view c.give.new.pass) (rw r at c.give.ensures.gave)

pub returns-then-not-done-clause-some : goal.returns-then-not-done-clause-some
returns-then-not-done-clause-some g c =
    let h = c.in-Some.ensures.some in
    let r : c.many.result ≡ reading c.args.self.now.next c.put_all-done.new.next c.args.cmds.now.items = search rules in
    given_some c.args.self.now.id c.args.self.now.next c.put_all-done.new.next (map (prepared g.C.Prepare.Prepare.reads) c.args.cmds.now.items) c.put_all-done.ensures.some.0 (view c.args.self.now.pass) (view c.take_open.new.pass) c.in-Some.bus c.put_all-done.new.bus c.requires.takes c.take_open.ensures.lines h.0 h.1 c.put_all-done.ensures.some.1 (view c.give.new.pass) (rw r at c.give.ensures.gave)

pub returns-then-not-done-clause-halt : goal.returns-then-not-done-clause-halt
returns-then-not-done-clause-halt g c =
    let h = c.in-Some.ensures.some in
    let r : c.many.result ≡ reading c.args.self.now.next c.put_all-done.new.next c.args.cmds.now.items = search rules in
    subst IsSome (sym (given_noted c.args.self.now.id c.args.self.now.next c.put_all-done.new.next (map (prepared g.C.Prepare.Prepare.reads) c.args.cmds.now.items) c.put_all-done.ensures.some.0 (view c.args.self.now.pass) (view c.take_open.new.pass) c.in-Some.bus c.put_all-done.new.bus c.requires.takes c.take_open.ensures.lines h.0 h.1 c.put_all-done.ensures.some.1 (view c.give.new.pass) (rw r at c.give.ensures.gave)))
    (some_of_none c.put_all-done.new.bus.first (sym c.put_all-done.ensures.fault ∙ c.if-not-done.true))

pub returns-clause-sits : goal.returns-clause-sits
returns-clause-sits g c =
    let h = c.in-Some.ensures.some in
    let r : c.many.result ≡ reading c.args.self.now.next c.put_all-done.new.next c.args.cmds.now.items = search rules in
    given_sits c.args.self.now.id c.args.self.now.next c.put_all-done.new.next (map (prepared g.C.Prepare.Prepare.reads) c.args.cmds.now.items) c.put_all-done.ensures.some.0 (view c.args.self.now.pass) (view c.take_open.new.pass) c.in-Some.bus c.put_all-done.new.bus c.requires.takes c.take_open.ensures.lines h.0 h.1 c.put_all-done.ensures.some.1 (view c.give.new.pass) (rw r at c.give.ensures.gave)

pub returns-clause-ok : goal.returns-clause-ok
returns-clause-ok g c =
    let h = c.in-Some.ensures.some in
    let r : c.many.result ≡ reading c.args.self.now.next c.put_all-done.new.next c.args.cmds.now.items = search rules in
    given_all c.args.self.now.id c.args.self.now.next c.put_all-done.new.next (map (prepared g.C.Prepare.Prepare.reads) c.args.cmds.now.items) c.put_all-done.ensures.some.0 (view c.args.self.now.pass) (view c.take_open.new.pass) c.in-Some.bus c.put_all-done.new.bus c.requires.takes c.take_open.ensures.lines h.0 h.1 c.put_all-done.ensures.some.1 (view c.give.new.pass) (rw r at c.give.ensures.gave)
    (c.put_all-done.ensures.some.2 c.if-not-done.false) (none_of c.put_all-done.new.bus.first (sym c.put_all-done.ensures.fault ∙ c.if-not-done.false))

pub returns-clause-takes : goal.returns-clause-takes
returns-clause-takes g c =
    let h = c.in-Some.ensures.some in
    let r : c.many.result ≡ reading c.args.self.now.next c.put_all-done.new.next c.args.cmds.now.items = search rules in
    given_takes c.args.self.now.id c.args.self.now.next c.put_all-done.new.next (map (prepared g.C.Prepare.Prepare.reads) c.args.cmds.now.items) c.put_all-done.ensures.some.0 (view c.args.self.now.pass) (view c.take_open.new.pass) c.in-Some.bus c.put_all-done.new.bus c.requires.takes c.take_open.ensures.lines h.0 h.1 c.put_all-done.ensures.some.1 (view c.give.new.pass) (rw r at c.give.ensures.gave) c.put_all-done.ensures.unshut

pub returns-clause-empty : goal.returns-clause-empty
returns-clause-empty g c = c.put_all-done.ensures.empty c.if-not-done.false
