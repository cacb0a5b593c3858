use Rattle.std.proofs.Common.{take}
use Rattle.std.specs.BTreeMap.{get_by_text}
use Rattle.trig_set.specs.Table.{SoFar}
use Rattle.trig_set.proofs.attributes.put_attributes.Given as goal

abbrev pub invariant-loop-place : goal.invariant-loop-place
invariant-loop-place l = SoFar l.seen l.numbers (get_by_text l.initial.numbers) (take l.place l.attributes)
