use Rattle.std.proofs.Common.{ap, get_or}
use Rattle.tpl_eval.proofs.ArmLemmas.{arm-fault, arm-found, arm-passed, arms-passed}
use Rattle.tpl_eval.proofs.pieces.first_true.Goals as goal

pub returns-in-Ok-true : goal.returns-in-Ok-true
returns-in-Ok-true c = λ sight h whole alike.
    let known = rw c.in-Ok-true.is at (c.holds.ensures sight h whole alike) in
    arm-found sight c.args.arms.now whole c.loop-i.i (c.loop-i.invariant sight h whole alike) (get_or c.args.arms.now c.loop-i.i c.index-arms-i.result) c.loop-i-test.true (ap (get_or c.args.arms.now c.loop-i.i) c.index-arms-i.is) c.in-Ok-true.field-0 c.in-Ok-true.field-0-test known

pub returns-in-Err : goal.returns-in-Err
returns-in-Err c = λ sight h whole alike.
    let known = rw c.in-Err.is at (c.holds.ensures sight h whole alike) in
    arm-fault sight c.args.arms.now whole c.loop-i.i (c.loop-i.invariant sight h whole alike) (get_or c.args.arms.now c.loop-i.i c.index-arms-i.result) c.loop-i-test.true (ap (get_or c.args.arms.now c.loop-i.i) c.index-arms-i.is) c.in-Err.fault known

pub loop-i-preserved : goal.loop-i-preserved
loop-i-preserved c = λ sight h whole alike.
    let known = rw c.in-Ok-false.is at (c.holds.ensures sight h whole alike) in
    arm-passed sight c.args.arms.now whole c.loop-i.i (c.loop-i.invariant sight h whole alike) (get_or c.args.arms.now c.loop-i.i c.index-arms-i.result) c.loop-i-test.true (ap (get_or c.args.arms.now c.loop-i.i) c.index-arms-i.is) c.in-Ok-false.field-0 c.in-Ok-false.field-0-test known

pub returns : goal.returns
returns c = λ sight h whole alike. arms-passed sight c.args.arms.now whole c.loop-i.i (c.loop-i.invariant sight h whole alike) c.loop-i-test.false
