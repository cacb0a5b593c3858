use Rattle.std.specs.Map.Iter.{deref}
use Rattle.std.proofs.lemmas.Map.Iter.{rest_all, rest_more}
use Rattle.trig_set.proofs.LeftLemmas.{put-kept}
use Rattle.trig_set.proofs.ManyLemmas.{listed-end, listed-rest}
use Rattle.trig_set.proofs.many_spots.put_listed.Goals as goal

pub places-preserved : goal.places-preserved
places-preserved c =
    let old = c.places.places in
    let new = c.insert.new.self in
    let updates = c.in_ok-insert.ensures.updates in
    record {
      kept = λ n none. c.places.invariant.kept n (put-kept old new c.in-Some.place.now updates n none);
      aside = λ n none.
          listed-rest old new c.in-Some.place.now updates n none c.args.listed.now c.places.place-iterator c.next.new.self
          (rest_more deref _ _ _ c.in-Some.place c.in-Some.is c.next.ensures.steps)
          (c.places.invariant.aside n (put-kept old new c.in-Some.place.now updates n none));
    }

pub returns-clause-aside : goal.returns-clause-aside
returns-clause-aside c n none =
    listed-end c.args.listed.now c.places.place-iterator n (rest_all deref _ _ _ c.in-None.is c.next.ensures.steps) (c.places.invariant.aside n none)
