use Rattle.std.proofs.Common.{All, ◌++◌, ◌∷◌, [], sym, subst, ◌∙◌}
use Rattle.std.proofs.lemmas.List.Elements.{All-push}
use Rattle.wait_set.specs.Asked.{added}
use Rattle.wait_set.specs.Runs.{IsPaired}
use Rattle.wait_set.specs.Timers.{AreTimed}
use Rattle.wait_set.proofs.AddLemmas.{no-timer, timed-added}
use Rattle.wait_set.proofs.waits.add_one.Goals as goal

pub make_place-requires-clause-due : goal.make_place-requires-clause-due
make_place-requires-clause-due c = no-timer c.args.asked.owner c.args.asks.now.items c.args.timers.now c.requires.timed c.requires.owner

pub returns-clause-timed : goal.returns-clause-timed
returns-clause-timed c =
    subst (λ xs. AreTimed xs c.make_place.new.timers) (sym (c.push_reserved.ensures.items ∙ (λ k. c.in_ok-make_place.ensures.asks k ++ (c.args.asked ∷ []))))
    (subst (λ ts. AreTimed (added c.args.asked c.args.asks.now.items) ts) (sym c.in_ok-make_place.ensures.timers)
    (timed-added c.args.asked c.args.asks.now.items c.args.timers.now c.requires.timed c.requires.owner c.requires.pending c.requires.fresh))

pub returns-clause-paired : goal.returns-clause-paired
returns-clause-paired c =
    let runs = c.make_place.new.runs in
    subst (λ xs. All (IsPaired runs) xs) (sym c.push_reserved.ensures.items)
    (All-push (IsPaired runs) c.make_place.new.asks.items c.args.asked c.in_ok-make_place.ensures.paired (c.in_ok-make_place.ensures.listed ∙ c.requires.listed))
