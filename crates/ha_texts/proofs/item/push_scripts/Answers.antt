use Rattle.std.proofs.Common.{get_or}
use Rattle.std.proofs.lemmas.List.{get_or_default}
use Rattle.std.proofs.lemmas.Result.{on_ok_weaker}
use Rattle.ha_sight.specs.ItemText.{script_text}
use Rattle.flow_line.proofs.Joined.{all_joined, one_further}
use Rattle.ha_texts.proofs.item.push_scripts.Goals as goal

pub loop-i-preserved : goal.loop-i-preserved
loop-i-preserved c =
    one_further (script_text c.args.units.now) c.push_byte.new.self c.loop-i.text c.push_comma.new.text c.push_script.new.text c.args.scripts.now c.loop-i.i (get_or c.args.scripts.now c.loop-i.i 0) c.loop-i-test.true (get_or_default c.args.scripts.now c.loop-i.i 0 (get_or c.args.scripts.now c.loop-i.i 0) c.loop-i-test.true)
    c.loop-i.invariant c.in_ok-push_comma.ensures c.in_ok-push_script.ensures

pub returns : goal.returns
returns c =
    on_ok_weaker _ (λ last. all_joined (script_text c.args.units.now) 91 93 c.args.text.now c.push_byte.new.self c.loop-i.text c.push_byte-2.new.self c.args.scripts.now c.loop-i.i c.loop-i-test.false c.in_ok-push_byte.ensures.ok c.loop-i.invariant last) c.push_byte-2.ensures.ok
