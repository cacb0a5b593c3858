use Rattle.std.proofs.Common.{◌≡◌, ◌∙◌, ap, sym, ◌∷◌, true, nat_cmp}
use Rattle.std.specs.BTreeMap.{get}
use Rattle.timer_queue.specs.Timers.{distinct_keys, due_of}
use Rattle.timer_queue.proofs.TimerLemmas.{distinct_rest, map_popped}
use Rattle.timer_queue.proofs.TimerQueue.pop_due.Goals as goal

pub invariant_of-self-2 : goal.invariant_of-self-2
invariant_of-self-2 c =
    let removal = c.in_ok-key.ensures.removal in
    let distinct : distinct_keys ((c.in_ok-key.field-0-0, c.in_ok-key.key) ∷ c.pop_first.new.self.keys) ≡ true =
    ap distinct_keys (sym removal) ∙ c.self.invariant.0 in (
      distinct_rest (c.in_ok-key.field-0-0, c.in_ok-key.key) c.pop_first.new.self.keys distinct,
      map_popped (get nat_cmp c.self.inside.dues) (get nat_cmp c.remove.new.self) (c.in_ok-key.field-0-0, c.in_ok-key.key) c.pop_first.new.self.keys distinct
          c.remove.ensures.updates.0 (λ q. c.self.invariant.1 q ∙ ap (due_of q) removal),
    )
