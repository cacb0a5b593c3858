use Rattle.std.proofs.lemmas.Result.{on_ok_weaker}
use Rattle.ha_sight.specs.ItemText.{change_text}
use Rattle.flow_line.proofs.Joined.{all_joined, one_further}
use Rattle.ha_texts.proofs.helped.push_changes.Goals as goal

pub loop-i-preserved : goal.loop-i-preserved
loop-i-preserved c =
    one_further change_text c.push_byte.new.self c.loop-i.text c.push_comma.new.text c.push_change.new.text c.args.changes.now c.loop-i.i c.index-changes-i.result c.loop-i-test.true c.index-changes-i.is
    c.loop-i.invariant c.in_ok-push_comma.ensures c.in_ok-push_change.ensures

pub returns : goal.returns
returns c =
    on_ok_weaker _ (λ last. all_joined change_text 91 93 c.args.text.now c.push_byte.new.self c.loop-i.text c.push_byte-2.new.self c.args.changes.now c.loop-i.i c.loop-i-test.false c.in_ok-push_byte.ensures.ok c.loop-i.invariant last) c.push_byte-2.ensures.ok
