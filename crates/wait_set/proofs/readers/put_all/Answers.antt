use Rattle.std.proofs.Common.{◌∙◌}
use Rattle.std.specs.Map.Iter.{deref}
use Rattle.std.proofs.lemmas.Map.Iter.{rest_all, rest_more}
use Rattle.wait_set.proofs.ConcernLemmas.{listed-none, listed-rest}
use Rattle.wait_set.proofs.readers.put_all.Goals as goal

pub more-preserved : goal.more-preserved
more-preserved c = record {
  kept = λ n none. c.more.invariant.kept n (c.in_ok-put.ensures.kept n none);
  added = λ n none.
      c.more.invariant.added n (c.in_ok-put.ensures.kept n none)
      ∙ listed-rest n c.in-Some.owner.now c.more.owner-iterator c.next.new.self
      (rest_more deref _ _ _ c.in-Some.owner c.in-Some.is c.next.ensures.steps) (c.in_ok-put.ensures.apart n none);
}

pub returns-clause-added : goal.returns-clause-added
returns-clause-added c n none =
    c.more.invariant.added n none ∙ listed-none n c.more.owner-iterator (rest_all deref _ _ _ c.in-None.is c.next.ensures.steps)
