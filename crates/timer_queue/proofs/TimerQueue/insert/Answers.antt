use Rattle.std.proofs.Common.{◌≡◌, ◌∙◌, ap, sym, None, nat_cmp}
use Rattle.std.specs.BTreeMap.{get}
use Rattle.timer_queue.specs.Timers.{distinct_keys, due_of, inserted}
use Rattle.timer_queue.proofs.TimerLemmas.{absent_of, distinct_inserted, inserted_is, map_inserted}
use Rattle.timer_queue.proofs.TimerQueue.insert.Goals as goal

pub invariant_of-self-in-Ok-insert : goal.invariant_of-self-in-Ok-insert
invariant_of-self-in-Ok-insert c =
    let absent : due_of c.args.key c.self.inside.timers.keys ≡ None = ap (due_of c.args.key) c.self.view_is ∙ absent_of (due_of c.args.key c.args.self.now) c.requires in
    let keys : c.insert-2.new.self.keys ≡ inserted (c.args.due, c.args.key) c.self.inside.timers.keys =
    c.in-Ok-insert.ensures.keys ∙ inserted_is (c.args.due, c.args.key) c.self.inside.timers.keys absent in (
      ap distinct_keys keys ∙ distinct_inserted (c.args.due, c.args.key) c.self.inside.timers.keys absent c.self.invariant.0,
      λ q. map_inserted (get nat_cmp c.self.inside.dues) (get nat_cmp c.insert.new.self) (c.args.due, c.args.key) c.self.inside.timers.keys absent c.in-Ok.ensures.updates.0 c.self.invariant.1 q
          ∙ ap (due_of q) (sym keys),
    )

pub returns-in-Ok-insert-clause-ok : goal.returns-in-Ok-insert-clause-ok
returns-in-Ok-insert-clause-ok c =
    let absent : due_of c.args.key c.self.inside.timers.keys ≡ None = ap (due_of c.args.key) c.self.view_is ∙ absent_of (due_of c.args.key c.args.self.now) c.requires in
    c.in-Ok-insert.ensures.keys ∙ inserted_is (c.args.due, c.args.key) c.self.inside.timers.keys absent
    ∙ ap (inserted (c.args.due, c.args.key)) c.self.view_is
