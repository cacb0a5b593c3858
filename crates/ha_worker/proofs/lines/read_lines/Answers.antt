use Rattle.std.proofs.Common.{[], ◌∷◌, ◌++◌, ◌∙◌}
use Rattle.ha_worker.proofs.LineLemmas.{took_more}
use Rattle.ha_worker.proofs.ReadLemmas.{cmds_more}
use Rattle.ha_worker.proofs.lines.read_lines.Goals as goal

pub lines-preserved : goal.lines-preserved
lines-preserved c =
    let i = c.lines.invariant in
    let t = rw c.in-Some.is at c.in_ok-line.ensures.some in
    record {
      lines = i.lines ++ (c.as_slice.result.now ∷ []);
      took = took_more c.args.cut.now c.lines.cut c.take.new.self _ c.as_slice.result.now i.lines i.took t c.as_slice.ensures.value;
      cmds_are = c.in_ok-push_cmd.ensures.cmds ∙ cmds_more i.lines c.as_slice.result.now c.lines.cmds.items i.cmds_are;
      open_all = c.in_ok-push_cmd.ensures.open;
    }
