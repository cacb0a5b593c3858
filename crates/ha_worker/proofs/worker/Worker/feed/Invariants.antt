use Rattle.std.proofs.Common.{◌≡◌, []}
use Rattle.crossbeam_channel.specs.Claims.{view}
use Rattle.bus_pass.specs.Turns.{IsPassOf}
use Rattle.ha_worker.specs.Courses.{source_state}
use Rattle.ha_worker.specs.Views.{Takes}
use Rattle.ha_worker.proofs.FeedLemmas.{Reading}
use Rattle.ha_worker.proofs.worker.Worker.feed.Given as goal

abbrev pub invariant-pieces : goal.invariant-pieces
invariant-pieces g l = record {
  turn : IsPassOf l.turn l.self.pass;
  same_id : l.self.id ≡ l.initial.self.id;
  same_end : l.self.end ≡ l.initial.self.end;
  takes : Takes l.self.next l.initial.self.id (view l.self.pass);
  empty : l.cmds.items ≡ [];
  reading : Reading g.C.Prepare.Prepare.reads l.initial.self.id (view l.initial.self.pass) (view l.self.pass) (source_state (g.S.Source.faults l.initial.self.source) (g.S.Source.left l.initial.self.source) (g.S.Source.name l.initial.self.source))
      (source_state (g.S.Source.faults l.self.source) (g.S.Source.left l.self.source) (g.S.Source.name l.self.source)) l.cut l.room;
}

abbrev pub decreases-pieces : goal.decreases-pieces
decreases-pieces g l = l.room
