use Rattle.std.proofs.Common.{◌∙◌, ◌++◌, ap, sym, arith, append-nil, nat_eq}
use Rattle.std.specs.List.{list_any}
use Rattle.std.specs.Map.Iter.{deref}
use Rattle.std.proofs.lemmas.Bool.Decides.{nat_tests}
use Rattle.std.proofs.lemmas.Map.Iter.{rest_all, rest_more}
use Rattle.timer_queue.specs.Timers.{keys_due}
use Rattle.timer_queue.proofs.TimerLemmas.{later_others, none_due}
use Rattle.timer_queue.proofs.TimerQueue.due_keys.Goals as goal

pub returns-then-gt-clause-others : goal.returns-then-gt-clause-others
returns-then-gt-clause-others c = rw (← c.self.view_is) (λ key none.
    let test = c.gt.ensures in let up = c.if-gt.true in
    let over = none_due c.args.now c.in-Some.timer.now c.timers.timer-iterator c.next.new.self (rest_more deref _ _ _ c.in-Some.timer c.in-Some.is c.next.ensures.steps) (grind (arith, nat_tests, test, up)) in
    let all = sym (append-nil c.timers.keys.items) ∙ (λ k. c.timers.keys.items ++ sym over k) ∙ c.timers.invariant in
    later_others c.args.now c.self.inside.timers.keys c.iter-timer-items.ensures.ordered key ((λ k. list_any (nat_eq key) (sym (all ∙ ap (keys_due c.args.now) (sym c.self.view_is)) k)) ∙ none))

pub returns-clause-others : goal.returns-clause-others
returns-clause-others c = rw (← c.self.view_is) (λ key none.
    let over = ap (keys_due c.args.now) (rest_all deref _ _ _ c.in-None.is c.next.ensures.steps) in
    let all = sym (append-nil c.timers.keys.items) ∙ (λ k. c.timers.keys.items ++ sym over k) ∙ c.timers.invariant in
    later_others c.args.now c.self.inside.timers.keys c.iter-timer-items.ensures.ordered key ((λ k. list_any (nat_eq key) (sym (all ∙ ap (keys_due c.args.now) (sym c.self.view_is)) k)) ∙ none))
