use Rattle.std.proofs.Common.{◌∙◌, ◌++◌, ◌∷◌, [], ap}
use Rattle.ha_value.proofs.PlaceLemmas.{last_written}
use Rattle.ha_value.proofs.many.pairs.push_short.Goals as goal

pub returns-clause-ok : goal.returns-clause-ok
returns-clause-ok c =
    last_written c.args.pairs.now.items c.push_empty_pair.new.pairs.items _ c.write_short.new.pair c.len-at.result c.in_ok-push_empty_pair.ensures.ok (c.len-at.ensures ∙ c.args.pairs.now.ok.0)
    ∙ ap (λ w. c.args.pairs.now.items ++ w ∷ []) c.write_short.ensures
