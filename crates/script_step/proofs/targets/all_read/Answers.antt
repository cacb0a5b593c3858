use Rattle.std.proofs.Common.{List, take, refl}
use Rattle.ha_value.specs.declared.value.EntityId.{EntityId}
use Rattle.ha_sight.specs.Calls.{all_read}
use Rattle.ha_config.specs.Words.{parts_between_commas}
use Rattle.script_step.proofs.EachLemmas.{fault-gives}
use Rattle.script_step.proofs.TargetLemmas.{part-more, part-fault, last-part, last-fault, read_part}
use Rattle.script_step.proofs.targets.all_read.Goals as goal

pub returns-in-Err-add_part : goal.returns-in-Err-add_part
returns-in-Err-add_part c =
    fault-gives EntityId (List EntityId) c.in-Err-add_part.fault c.loop-i.all c.add_part.new.all (read_part (take c.in-Some.i c.loop-i.rest.now)) (all_read (parts_between_commas c.args.text.now)) c.in-Err-add_part.ensures
    (part-fault c.args.text.now c.loop-i.rest.now (take c.in-Some.i c.loop-i.rest.now) c.in-Some.i c.loop-i.all c.loop-i.invariant c.in-Some.ensures.value refl)

pub loop-i-preserved : goal.loop-i-preserved
loop-i-preserved c =
    part-more c.args.text.now c.loop-i.rest.now (take c.in-Some.i c.loop-i.rest.now) _ c.in-Some.i c.loop-i.all c.add_part.new.all c.loop-i.invariant c.in-Some.ensures.value refl c.behind-rest.ensures c.in-Ok-add_part.ensures

pub returns-in-Ok-add_part-2 : goal.returns-in-Ok-add_part-2
returns-in-Ok-add_part-2 c = last-part c.args.text.now c.loop-i.rest.now c.loop-i.all c.add_part-2.new.all c.loop-i.invariant c.in_default.ensures.value c.in-Ok-add_part-2.ensures

pub returns-in-Err-add_part-2 : goal.returns-in-Err-add_part-2
returns-in-Err-add_part-2 c =
    fault-gives EntityId (List EntityId) c.in-Err-add_part-2.fault c.loop-i.all c.add_part-2.new.all (read_part c.loop-i.rest.now) (all_read (parts_between_commas c.args.text.now)) c.in-Err-add_part-2.ensures
    (last-fault c.args.text.now c.loop-i.rest.now c.loop-i.all c.loop-i.invariant c.in_default.ensures.value)
