use Rattle.std.proofs.Common.{◌∙◌, ap, sym, subst, refl}
use Rattle.std.specs.Prelude.{IsNone, nat_eq, if◌then◌else◌}
use Rattle.timer_queue.specs.Timers.{due_of, distinct_keys, inserted}
use Rattle.trig_set.proofs.TimerSteps.{removed-none, timer-goes, timer-set, distinct-goes, distinct-set}
use Rattle.trig_set.proofs.attached.retime.Goals as goal

pub insert-requires : goal.insert-requires
insert-requires c = subst (λ l. IsNone (due_of c.args.place l)) (sym c.remove.ensures.rest) (subst IsNone (sym (removed-none c.args.place c.args.timers.now)) refl)

pub returns-in_default-clause-dues : goal.returns-in_default-clause-dues
returns-in_default-clause-dues c h n =
    ap (due_of n) c.remove.ensures.rest ∙ timer-goes c.args.place c.args.timers.now n
    ∙ (λ i. if nat_eq c.args.place n then sym c.in_default.is i else due_of n c.args.timers.now)

pub returns-in_default-clause-distinct : goal.returns-in_default-clause-distinct
returns-in_default-clause-distinct c d = ap distinct_keys c.remove.ensures.rest ∙ distinct-goes c.args.place c.args.timers.now d

pub returns-in-Ok-clause-dues : goal.returns-in-Ok-clause-dues
returns-in-Ok-clause-dues c h n =
    ap (due_of n) (c.in-Ok.ensures.ok ∙ ap (inserted (c.in-Some.due, c.args.place)) c.remove.ensures.rest)
    ∙ timer-set c.args.place c.in-Some.due c.args.timers.now n
    ∙ (λ i. if nat_eq c.args.place n then sym c.in-Some.is i else due_of n c.args.timers.now)

pub returns-in-Ok-clause-distinct : goal.returns-in-Ok-clause-distinct
returns-in-Ok-clause-distinct c d =
    ap distinct_keys (c.in-Ok.ensures.ok ∙ ap (inserted (c.in-Some.due, c.args.place)) c.remove.ensures.rest)
    ∙ distinct-set c.args.place c.in-Some.due c.args.timers.now d
