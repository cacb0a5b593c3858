use Rattle.ha_value.proofs.NumberLemmas.{nearest-IsNear, IsNear}
use Rattle.ha_value.specs.Numbers.{nearest}
use Rattle.ha_value.proofs.laws.nearest_is_near.Goals as goal

pub returns : goal.returns
returns c =
    let near : IsNear c.args.over c.args.under (nearest c.args.over c.args.under) = nearest-IsNear c.args.over c.args.under c.requires in
    record { below = near.below; above = near.above; even_below = near.even_below; even_above = near.even_above }
