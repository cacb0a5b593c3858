use Rattle.std.proofs.Common.{◌≡◌, ◌++◌}
use Rattle.timer_queue.specs.Timers.{keys_due}
use Rattle.timer_queue.proofs.TimerQueue.due_keys.Given as goal

abbrev pub invariant-timers : goal.invariant-timers
invariant-timers l = l.keys.items ++ keys_due l.now l.timer-iterator ≡ keys_due l.now l.self
