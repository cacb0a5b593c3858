use Rattle.flow_line.specs.Marks.{mark_of}
use Rattle.flow_line.proofs.Marks.{at_end, one_more}
use Rattle.flow_line.proofs.found_pairs.mark_of.Goals as goal

pub bytes-preserved : goal.bytes-preserved
bytes-preserved c =
    one_more c.bytes.mark c.bytes.b-index c.args.key.now c.bytes-test.true c.next-mark.result (mark_of c.args.key.now) c.bytes.invariant c.next-mark.ensures

pub returns : goal.returns
returns c = at_end c.bytes.mark c.bytes.b-index c.args.key.now c.bytes-test.false (mark_of c.args.key.now) c.bytes.invariant
