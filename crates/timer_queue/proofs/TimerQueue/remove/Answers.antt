use Rattle.std.proofs.Common.{◌≡◌, ◌∙◌, ap, sym, Some, None}
use Rattle.std.proofs.Common.{nat_cmp}
use Rattle.std.specs.BTreeMap.{get}
use Rattle.timer_queue.specs.Timers.{distinct_keys, due_of, removed}
use Rattle.timer_queue.proofs.TimerLemmas.{distinct_removed, map_removed, removed_absent, removed_is}
use Rattle.timer_queue.proofs.TimerQueue.remove.Goals as goal

pub returns-in-None-clause-rest : goal.returns-in-None-clause-rest
returns-in-None-clause-rest c =
    let absent : due_of c.args.key c.self.inside.timers.keys ≡ None = sym (c.self.invariant.1 c.args.key) ∙ sym c.in-None.ensures.value in
    sym (removed_absent c.args.key c.self.inside.timers.keys absent) ∙ ap (removed c.args.key) c.self.view_is

pub invariant_of-self : goal.invariant_of-self
invariant_of-self c =
    let due : due_of c.args.key c.self.inside.timers.keys ≡ Some c.in-Some.due = sym (c.self.invariant.1 c.args.key) ∙ sym c.in-Some.ensures.value in
    let keys : c.remove-in-Some.new.self.keys ≡ removed c.args.key c.self.inside.timers.keys =
    c.remove-in-Some.ensures.keys ∙ removed_is c.in-Some.due c.args.key c.self.inside.timers.keys c.self.invariant.0 due in (
      ap distinct_keys keys ∙ distinct_removed c.args.key c.self.inside.timers.keys c.self.invariant.0,
      λ q. map_removed (get nat_cmp c.self.inside.dues) (get nat_cmp c.remove.new.self) c.args.key c.self.inside.timers.keys c.remove.ensures.updates.0 c.self.invariant.1 q
          ∙ ap (due_of q) (sym keys),
    )

pub returns-in-Some-clause-rest : goal.returns-in-Some-clause-rest
returns-in-Some-clause-rest c =
    let due : due_of c.args.key c.self.inside.timers.keys ≡ Some c.in-Some.due = sym (c.self.invariant.1 c.args.key) ∙ sym c.in-Some.ensures.value in
    c.remove-in-Some.ensures.keys ∙ removed_is c.in-Some.due c.args.key c.self.inside.timers.keys c.self.invariant.0 due
    ∙ ap (removed c.args.key) c.self.view_is
