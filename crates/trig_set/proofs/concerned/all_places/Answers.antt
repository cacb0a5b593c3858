use Rattle.std.proofs.Common.{arith}
use Rattle.trig_set.proofs.LeftLemmas.{all-put}
use Rattle.trig_set.proofs.concerned.all_places.Goals as goal

pub loop-place-preserved : goal.loop-place-preserved
loop-place-preserved c n none = all-put c.loop-place.places c.insert.new.self c.loop-place.place c.in_ok-insert.ensures.updates c.loop-place.invariant n none

pub returns : goal.returns
returns c n none = (let le = c.loop-place.invariant n none in omega (arith, le, c.loop-place-test.false))
