use Rattle.std.proofs.Common.{Some, None, subst, arith}
use Rattle.std.proofs.lemmas.Bool.Decides.{nat_tests}
use Rattle.timer_queue.specs.Timers.{IsLeast}
use Rattle.timer_queue.proofs.TimerLemmas.{later_than}
use Rattle.timer_queue.proofs.TimerQueue.is_due.Goals as goal

pub returns-in-Some-clause-none : goal.returns-in-Some-clause-none
returns-in-Some-clause-none c f =
    later_than c.args.now (Some c.in-Some.due) c.args.self.now (subst (λ o. IsLeast o c.args.self.now) c.in-Some.is c.earliest.ensures.least) (let test = c.le.ensures in grind (arith, nat_tests, test, f))

pub returns-in-None-clause-none : goal.returns-in-None-clause-none
returns-in-None-clause-none c f = later_than c.args.now None c.args.self.now (subst (λ o. IsLeast o c.args.self.now) c.in-None.is c.earliest.ensures.least) tt
