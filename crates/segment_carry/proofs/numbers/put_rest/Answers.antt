use Rattle.std.proofs.Common.{◌∙◌, ◌++◌, refl, sym}
use Rattle.ha_config.proofs.ListLemmas.{append-nil}
use Rattle.segment_carry.proofs.JoinLemmas.{drop-past, rest-more}
use Rattle.segment_carry.proofs.numbers.put_rest.Goals as goal

pub left-init : goal.left-init
left-init c = refl

pub left-preserved : goal.left-preserved
left-preserved c = rest-more c.args.left.now _ c.left.made _ c.left.to c.index-left-to.result c.left-test.true c.index-left-to.is c.left.invariant c.in_ok-put_copy.ensures

pub returns : goal.returns
returns c = sym (append-nil c.left.made) ∙ (λ i. c.left.made ++ sym (drop-past c.left.to c.args.left.now c.left-test.false) i) ∙ c.left.invariant
