use Rattle.std.proofs.Common.{Some, subst}
use Rattle.timer_queue.specs.Timers.{IsLeast}
use Rattle.timer_queue.proofs.TimerLemmas.{least_of}
use Rattle.timer_queue.proofs.TimerQueue.earliest.Goals as goal

pub returns-in-Some-clause-least : goal.returns-in-Some-clause-least
returns-in-Some-clause-least c =
    subst (IsLeast (Some c.in-Some.first.now.0)) c.self.view_is (least_of c.in-Some.first.now c.self.inside.timers.keys c.in-Some.ensures.all_from)
