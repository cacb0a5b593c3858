use Rattle.std.proofs.Common.{◌∙◌, Err, ap, arith, refl}
use Rattle.crossbeam_channel.specs.Claims.{view}
use Rattle.ha_worker.specs.Courses.{source_of}
use Rattle.ha_worker.specs.declared.pieces.NoPiece.{NoPiece}
use Rattle.ha_worker.proofs.FeedLemmas.{read_end, read_failed, read_lost, read_on, read_past, read_some, start_reading}
use Rattle.ha_worker.proofs.worker.Worker.feed.Goals as goal

pub pieces-init : goal.pieces-init
pieces-init g c = record {
  turn = c.requires.turn;
  same_id = refl;
  same_end = refl;
  takes = c.requires.takes;
  empty = c.new-cmds.ensures.items;
  reading = start_reading g.C.Prepare.Prepare.reads c.args.self.now.id (view c.args.self.now.pass) (source_of g.S.Source.faults g.S.Source.left g.S.Source.name c.args.self.now.source) c.args.cut.now c.most_bytes-room.result c.requires.fresh c.most_bytes-room.ensures;
}

pub returns-then-count-eq0-clause-ok : goal.returns-then-count-eq0-clause-ok
returns-then-count-eq0-clause-ok g c =
    let s = source_of g.S.Source.faults g.S.Source.left g.S.Source.name in
    let p = c.in-Ok.ensures.ok in
    read_end g.C.Prepare.Prepare.reads c.args.self.now.id (view c.args.self.now.pass) (view c.pieces.self.pass) (s c.args.self.now.source) (s c.pieces.self.source) (s c.pull.new.source) c.pieces.cut p.0 c.pieces.room c.pieces.invariant.reading (omega (arith, p.2, p.3)) p.4 c.pull.ensures.never_falls c.pull.ensures.same_name c.pull.new.cut p.1
    (p.2 ∙ c.if-count-eq0.true) (c.in-Ok.ensures.end c.if-count-eq0.true)

pub returns-in-Err-Failed-clause-ok : goal.returns-in-Err-Failed-clause-ok
returns-in-Err-Failed-clause-ok g c =
    let s = source_of g.S.Source.faults g.S.Source.left g.S.Source.name in
    let is = c.in-Err-Failed.is ∙ ap (λ (x : NoPiece). Err x) c.in-Err-Failed.field-0-is in
    read_failed g.C.Prepare.Prepare.reads c.args.self.now.id (view c.args.self.now.pass) (view c.pieces.self.pass) (s c.args.self.now.source) (s c.pieces.self.source) (s c.pull.new.source) c.pieces.cut c.pull.new.cut c.pieces.room c.pieces.invariant.reading (c.pull.ensures.unread is) (c.pull.ensures.failed is)
    c.pull.ensures.never_falls c.pull.ensures.same_name c.in-Err-Failed.ensures.cut_stays

pub returns-in-Err-Memory-clause-some : goal.returns-in-Err-Memory-clause-some
returns-in-Err-Memory-clause-some g c =
    let s = source_of g.S.Source.faults g.S.Source.left g.S.Source.name in
    let is = c.in-Err-Memory.is ∙ ap (λ (x : NoPiece). Err x) c.in-Err-Memory.field-0-is in
    let l = c.pull.ensures.lost is in
    read_lost g.C.Prepare.Prepare.reads c.args.self.now.id (view c.args.self.now.pass) (view c.pieces.self.pass) (s c.args.self.now.source) (s c.pieces.self.source) (s c.pull.new.source) c.pieces.cut l.0 c.pieces.room c.pieces.invariant.reading l.1 l.2 c.pull.ensures.never_falls c.pull.ensures.same_name

pub pieces-preserved : goal.pieces-preserved
pieces-preserved g c =
    let s = source_of g.S.Source.faults g.S.Source.left g.S.Source.name in
    let i = c.pieces.invariant in
    let e = c.put_piece.ensures in
    let p = c.in-Ok.ensures.ok in
    record {
      turn = e.turn;
      same_id = e.same.0 ∙ i.same_id;
      same_end = e.same.2 ∙ i.same_end;
      takes = rw i.same_id at c.in-Ok-put_piece.ensures.takes;
      empty = c.in-Ok-put_piece.ensures.empty;
      reading = rw e.same.1
          (read_on g.C.Prepare.Prepare.reads c.args.self.now.id (view c.args.self.now.pass) (view c.pieces.self.pass) (s c.args.self.now.source) (s c.pieces.self.source) (s c.pull.new.source) c.pieces.cut p.0 c.pieces.room i.reading (omega (arith, p.2, p.3)) p.4 c.pull.ensures.never_falls c.pull.ensures.same_name c.pull.new.cut p.1
          (view c.put_piece.new.self.pass) c.put_piece.new.cut _ (omega (arith, p.2, p.3)) (rw i.same_id at c.in-Ok-put_piece.ensures.ok));
    }

pub returns-in-Err-clause-some : goal.returns-in-Err-clause-some
returns-in-Err-clause-some g c =
    let s = source_of g.S.Source.faults g.S.Source.left g.S.Source.name in
    let i = c.pieces.invariant in
    let p = c.in-Ok.ensures.ok in
    rw c.put_piece.ensures.same.1
    (read_some g.C.Prepare.Prepare.reads c.args.self.now.id (view c.args.self.now.pass) (view c.pieces.self.pass) (s c.args.self.now.source) (s c.pieces.self.source) (s c.pull.new.source) c.pieces.cut p.0 c.pieces.room i.reading (omega (arith, p.2, p.3)) p.4 c.pull.ensures.never_falls c.pull.ensures.same_name c.pull.new.cut p.1
    (view c.put_piece.new.self.pass) (rw i.same_id at c.in-Err.ensures.some))

pub returns-clause-ok : goal.returns-clause-ok
returns-clause-ok g c =
    let s = source_of g.S.Source.faults g.S.Source.left g.S.Source.name in
    read_past g.C.Prepare.Prepare.reads c.args.self.now.id (view c.args.self.now.pass) (view c.pieces.self.pass) (s c.args.self.now.source) (s c.pieces.self.source) (s c.read_past.new.source) c.pieces.cut c.pieces.room _ c.pieces.invariant.reading (omega (arith, c.pieces-test.false)) c.read_past.ensures.bound
    c.read_past.ensures.never_falls c.read_past.ensures.same_name
