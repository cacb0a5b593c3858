use Rattle.std.proofs.Common.{◌++◌, ap}
use Rattle.segment_carry.specs.ByName.{put_all}
use Rattle.segment_carry.proofs.JoinLemmas.{join-done, join-more}
use Rattle.segment_carry.proofs.numbers.joined.Goals as goal

pub right-init : goal.right-init
right-init c = ap (λ l. l ++ put_all c.args.right.now c.args.left.now) c.make-made.ensures

pub right-preserved : goal.right-preserved
right-preserved c =
    join-more c.args.left.now c.args.right.now _ c.right.made c.put_front.new.made _ c.right.at c.right.to c.in_ok-next.next c.behind-at.result c.index-right-to.result c.requires c.right-test.true c.index-right-to.is
    c.right.invariant c.in_ok-next.ensures.made c.in_ok-put_copy.ensures c.in_ok-next.ensures.next c.behind-at.ensures

pub returns : goal.returns
returns c = join-done c.args.left.now c.args.right.now _ c.right.made c.put_rest.new.made c.right.at c.right.to c.right-test.false c.right.invariant c.in_ok-put_rest.ensures
