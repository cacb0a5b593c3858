use Rattle.std.proofs.Common.{◌∙◌}
use Rattle.crossbeam_channel.specs.Claims.{view}
use Rattle.ha_worker.specs.Courses.{source_of}
use Rattle.ha_worker.proofs.WorkLemmas.{worked_cut, worked_halted, worked_none, worked_through}
use Rattle.ha_worker.proofs.worker.Worker.work.Goals as goal

pub returns-in_default-clause-worked : goal.returns-in_default-clause-worked
returns-in_default-clause-worked g c =
    let s = source_of g.S.Source.faults g.S.Source.left g.S.Source.name in
    let h = c.halted.ensures in
    rw h.same.1 (worked_none g.C.Prepare.Prepare.reads c.args.self.now.id (view c.args.self.now.pass) (view c.halted.new.self.pass) c.halted.result (s c.args.self.now.source) c.requires.fresh h.sits.one h.lines h.notes)

pub returns-in-Err-clause-worked : goal.returns-in-Err-clause-worked
returns-in-Err-clause-worked g c =
    let s = source_of g.S.Source.faults g.S.Source.left g.S.Source.name in
    let h = c.halted-in-Err.ensures in
    rw h.same.1
    (worked_halted g.C.Prepare.Prepare.reads c.args.self.now.id (view c.args.self.now.pass) (view c.halted-in-Err.new.self.pass) c.requires.fresh (rw c.feed.ensures.same.0 at h.sits.one) (s c.args.self.now.source) (s c.feed.new.self.source)
    (view c.feed.new.self.pass) c.halted-in-Err.result c.in-Err.ensures.some h.lines h.notes)

pub returns-in-Ok-finish-clause-worked : goal.returns-in-Ok-finish-clause-worked
returns-in-Ok-finish-clause-worked g c =
    let s = source_of g.S.Source.faults g.S.Source.left g.S.Source.name in
    rw (c.ended.ensures, c.finish.ensures.same.1)
    (worked_through g.C.Prepare.Prepare.reads c.args.self.now.id (view c.args.self.now.pass) (view c.finish.new.self.pass) c.requires.fresh (rw c.feed.ensures.same.0 at c.finish.ensures.sits.one) (s c.args.self.now.source) (s c.feed.new.self.source)
    c.in-Ok-feed.ending (view c.feed.new.self.pass) c.feed.new.cut c.in-Ok-feed.ensures.ok (rw c.feed.ensures.same.0 at c.in-Ok-finish.ensures.ok))

pub returns-clause-worked : goal.returns-clause-worked
returns-clause-worked g c =
    let s = source_of g.S.Source.faults g.S.Source.left g.S.Source.name in
    let h = c.halted-in-Err-finish.ensures in
    rw (h.same.1 ∙ c.finish.ensures.same.1)
    (worked_cut g.C.Prepare.Prepare.reads c.args.self.now.id (view c.args.self.now.pass) (view c.halted-in-Err-finish.new.self.pass) c.requires.fresh (rw (c.finish.ensures.same.0 ∙ c.feed.ensures.same.0) at h.sits.one) (s c.args.self.now.source) (s c.feed.new.self.source)
    _ (view c.feed.new.self.pass) (view c.finish.new.self.pass) c.feed.new.cut c.halted-in-Err-finish.result c.in-Ok-feed.ensures.ok (rw c.feed.ensures.same.0 at c.in-Err-finish.ensures.some) h.lines h.notes)
