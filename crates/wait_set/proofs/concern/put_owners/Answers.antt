use Rattle.std.proofs.Common.{◌∙◌, get_or}
use Rattle.std.specs.Map.Iter.{deref}
use Rattle.std.proofs.lemmas.Map.Iter.{rest_all, rest_more}
use Rattle.wait_set.proofs.ConcernLemmas.{listed-none, listed-rest}
use Rattle.wait_set.proofs.concern.put_owners.Goals as goal

pub owners-preserved : goal.owners-preserved
owners-preserved c = record {
  kept = λ n none. c.owners.invariant.kept n (c.in_ok-put_owner.ensures.kept n none);
  aside = λ n d lt none.
      c.owners.invariant.aside n d lt (c.in_ok-put_owner.ensures.kept n none)
      ∙ listed-rest (get_or c.args.asks.now n d).owner c.in-Some.owner.now c.owners.owner-iterator c.next.new.self
      (rest_more deref _ _ _ c.in-Some.owner c.in-Some.is c.next.ensures.steps) (c.in_ok-put_owner.ensures.aside n d lt none);
}

pub returns-clause-aside : goal.returns-clause-aside
returns-clause-aside c n d lt none =
    c.owners.invariant.aside n d lt none
    ∙ listed-none (get_or c.args.asks.now n d).owner c.owners.owner-iterator (rest_all deref _ _ _ c.in-None.is c.next.ensures.steps)
