use Rattle.yaml_scan.proofs.Times.{pushed}
use Rattle.yaml_scan.proofs.words.push_times.Goals as goal

pub count-preserved : goal.count-preserved
count-preserved c = pushed c.push.new.self.items c.args.text.now.items c.count.text.items c.count.i c.args.b c.count.invariant c.in_ok-push.ensures.items
