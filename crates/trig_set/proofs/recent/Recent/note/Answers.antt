use Rattle.std.proofs.Common.{refl, arith}
use Rattle.trig_set.specs.declared.recent.Recent.{Recent}
use Rattle.trig_set.proofs.NotedLemmas.{noted-all, noted-along}
use Rattle.trig_set.proofs.recent.Recent.note.Goals as goal

pub returns-then-is_over : goal.returns-then-is_over
returns-then-is_over c next owners lt h =
    let old = c.args.self.now in
    let new : Recent = record { owners = c.clear.new.self; latest = old.latest } in
    noted-all old new c.args.place next owners refl (c.is_over.ensures c.if-is_over.true) lt h

pub returns-else-is_over : goal.returns-else-is_over
returns-else-is_over c next owners lt h =
    let old = c.args.self.now in
    noted-along old old (λ n k. k) (omega arith) c.args.place next owners (omega (arith, lt)) h
