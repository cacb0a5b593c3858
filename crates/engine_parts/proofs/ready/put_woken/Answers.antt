use Rattle.std.proofs.Common.{◌∙◌, ℕ, List, subst, sym, arith}
use Rattle.ha_sight.specs.Scripts.{Branch}
use Rattle.engine_parts.specs.Lower.{Ascends, put_in}
use Rattle.engine_parts.proofs.PlacedLemmas.{put-from}
use Rattle.engine_parts.proofs.PutLemmas.{pairs-ascend}
use Rattle.engine_parts.proofs.ready.put_woken.Goals as goal

pub put_reserved-requires-clause-fits : goal.put_reserved-requires-clause-fits
put_reserved-requires-clause-fits c = c.place_of-at.ensures.fits

pub returns-clause-items : goal.returns-clause-items
returns-clause-items c m by is low high =
    let s : ℕ = c.args.serial in
    let old : List (ℕ × Branch) = c.args.ready.now.pairs.items in
    c.put_reserved.ensures.items
    ∙ c.place_of-at.ensures.place (subst (Ascends 0) (sym is) (pairs-ascend 0 m by))
    ∙ (λ i. put_in s c.args.branch (is i))
    ∙ put-from s 0 m c.args.branch by low (omega (arith, high))
