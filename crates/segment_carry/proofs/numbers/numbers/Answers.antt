use Rattle.std.proofs.Common.{◌∙◌, List, ℕ, subst, sym}
use Rattle.ha_config.specs.Words.{Text}
use Rattle.segment_carry.specs.ByName.{Ascends, put_all}
use Rattle.segment_carry.proofs.numbers.numbers.Goals as goal

pub joined-requires : goal.joined-requires
joined-requires c = subst (λ (l : List (Text × ℕ)). Ascends l) (sym c.as_slice-2.ensures) c.in_ok-own.ensures.ascends

pub returns : goal.returns
returns c = c.in_ok-made.ensures ∙ (λ i. put_all (c.as_slice-2.ensures i) (c.as_slice.ensures i)) ∙ c.in_ok-own.ensures.put c.args.before.now
