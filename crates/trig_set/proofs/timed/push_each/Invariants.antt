use Rattle.std.proofs.Common.{◌≡◌, ◌++◌, take}
use Rattle.std.specs.Prelude.{filter_map}
use Rattle.trig_set.specs.Timed.{timed_for}
use Rattle.trig_set.proofs.timed.push_each.Given as goal

abbrev pub invariant-loop-at : goal.invariant-loop-at
invariant-loop-at l = l.fired ≡ l.initial.fired ++ filter_map (λ v. timed_for l.owner l.index l.trigger l.events v.entity) (take l.at l.events)
