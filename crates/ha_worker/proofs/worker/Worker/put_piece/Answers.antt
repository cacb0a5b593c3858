use Rattle.std.proofs.lemmas.Result.{on_err_weaker, on_ok_weaker}
use Rattle.crossbeam_channel.specs.Claims.{view}
use Rattle.ha_worker.proofs.ReadLemmas.{all_read, some_read}
use Rattle.ha_worker.proofs.worker.Worker.put_piece.Goals as goal

pub returns-clause-ok : goal.returns-clause-ok
returns-clause-ok g c =
    on_ok_weaker c.put_read.result
    (λ p. all_read g.C.Prepare.Prepare.reads c.args.self.now.id c.args.cut.now c.read_lines.new.cut c.read_lines.new.cmds.items (view c.args.self.now.pass) (view c.put_read.new.self.pass) c.in-Ok.ensures.read p)
    c.put_read.ensures.ok

pub returns-clause-some : goal.returns-clause-some
returns-clause-some g c =
    on_err_weaker c.put_read.result
    (λ p. some_read g.C.Prepare.Prepare.reads c.args.self.now.id c.args.cut.now c.read_lines.new.cut c.read_lines.new.cmds.items (view c.args.self.now.pass) (view c.put_read.new.self.pass) c.in-Ok.ensures.read p)
    c.put_read.ensures.some
