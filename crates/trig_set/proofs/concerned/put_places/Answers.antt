use Rattle.std.specs.Map.Iter.{deref}
use Rattle.std.proofs.lemmas.Map.Iter.{rest_all, rest_more}
use Rattle.trig_set.proofs.LeftLemmas.{put-aside, put-end, put-kept}
use Rattle.trig_set.proofs.concerned.put_places.Goals as goal

pub owners-preserved : goal.owners-preserved
owners-preserved c =
    let old = c.owners.places in
    let new = c.insert.new.self in
    let updates = c.in_ok-insert.ensures.updates in
    record {
      kept = λ n none. c.owners.invariant.kept n (put-kept old new c.place_of.result updates n none);
      aside = λ n none.
          put-aside old new c.place_of.result updates n none c.args.owners.now c.args.listed.now c.in-Some.owner.now c.owners.owner-iterator c.next.new.self
          (rest_more deref _ _ _ c.in-Some.owner c.in-Some.is c.next.ensures.steps)
          (λ asc. c.place_of.ensures.there asc n) (c.owners.invariant.aside n (put-kept old new c.place_of.result updates n none));
    }

pub returns-clause-aside : goal.returns-clause-aside
returns-clause-aside c n none =
    put-end c.args.owners.now c.args.listed.now c.owners.owner-iterator n (rest_all deref _ _ _ c.in-None.is c.next.ensures.steps) (c.owners.invariant.aside n none)
