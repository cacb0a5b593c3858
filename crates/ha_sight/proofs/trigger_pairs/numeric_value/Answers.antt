use Rattle.std.proofs.Common.{◌∙◌, ◌++◌, ap}
use Rattle.ha_value.specs.declared.value.Value.TheVariants.{Pairs as Map}
use Rattle.ha_sight.proofs.trigger_pairs.numeric_value.Goals as goal

pub returns : goal.returns
returns c = ap Map (c.in_ok-append.ensures ∙ (λ i. c.in_ok-pairs.ensures i ++ c.in_ok-numeric_pairs.ensures i))
