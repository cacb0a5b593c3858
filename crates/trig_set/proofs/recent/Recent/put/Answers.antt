use Rattle.std.proofs.Common.{arith, ◌∙◌}
use Rattle.trig_set.specs.declared.recent.Recent.{Recent}
use Rattle.trig_set.proofs.NotedLemmas.{noted-along, noted-placed, put-more}
use Rattle.trig_set.proofs.recent.Recent.put.Goals as goal

pub returns-clause-same : goal.returns-clause-same
returns-clause-same c place owners h =
    let old = c.args.self.now in
    let new : Recent = record { owners = c.put_in.new.set; latest = c.later-latest.result } in
    noted-along old new (put-more old.owners new.owners c.args.owner c.in_ok-put_in.ensures.own c.put_in.ensures.others) c.later-latest.ensures.left place place owners (omega arith) h

pub returns-clause-ok : goal.returns-clause-ok
returns-clause-ok c place owners triggers h =
    let old = c.args.self.now in
    let new : Recent = record { owners = c.put_in.new.set; latest = c.later-latest.result } in
    noted-placed old new (put-more old.owners new.owners c.args.owner c.in_ok-put_in.ensures.own c.put_in.ensures.others) c.later-latest.ensures.left place owners
    (record { owner = c.args.owner; triggers = triggers; since = c.args.since }) c.in_ok-put_in.ensures.own c.later-latest.ensures.right h

pub returns-in_err-put_in-clause-same : goal.returns-in_err-put_in-clause-same
returns-in_err-put_in-clause-same c place owners h =
    let old = c.args.self.now in
    let new : Recent = record { owners = c.put_in.new.set; latest = old.latest } in
    noted-along old new (λ n k. c.in_err-put_in.ensures.err n ∙ k) (omega arith) place place owners (omega arith) h
