use Rattle.std.proofs.Common.{◌∙◌, ◌++◌, refl, sym, arith}
use Rattle.ha_config.proofs.ListLemmas.{append-nil}
use Rattle.segment_carry.specs.ByName.{back_of, front_of}
use Rattle.segment_carry.proofs.JoinLemmas.{back-here, back-more, drop-past, front-here, front-more}
use Rattle.segment_carry.proofs.numbers.put_front.Goals as goal

pub left-init : goal.left-init
left-init c = record { made = refl; next = refl }

pub left-preserved : goal.left-preserved
left-preserved c =
    let left = c.args.left.now in
    record {
      made = front-more c.args.name.now left _ c.left.made _ c.left.to c.index-left-to.result c.left-test.true c.index-left-to.is (sym c.is_before.ensures ∙ c.if-not-is_before.false) c.left.invariant.made c.in_ok-put_copy.ensures;
      next = back-more c.args.name.now left c.left.to c.index-left-to.result c.left-test.true c.index-left-to.is (sym c.is_before.ensures ∙ c.if-not-is_before.false) ∙ c.left.invariant.next;
    }

pub returns-then-not-is_before-clause-made : goal.returns-then-not-is_before-clause-made
returns-then-not-is_before-clause-made c =
    sym (append-nil c.left.made)
    ∙ (λ i. c.left.made ++ sym (front-here c.args.name.now c.args.left.now c.left.to c.index-left-to.result c.left-test.true c.index-left-to.is (sym c.is_before.ensures ∙ c.if-not-is_before.true)) i)
    ∙ c.left.invariant.made

pub returns-then-not-is_before-clause-next : goal.returns-then-not-is_before-clause-next
returns-then-not-is_before-clause-next c =
    back-here c.args.name.now c.args.left.now c.left.to c.index-left-to.result c.left-test.true c.index-left-to.is (sym c.is_before.ensures ∙ c.if-not-is_before.true) ∙ c.left.invariant.next

pub returns-clause-made : goal.returns-clause-made
returns-clause-made c =
    sym (append-nil c.left.made) ∙ (λ i. c.left.made ++ front_of c.args.name.now (sym (drop-past c.left.to c.args.left.now c.left-test.false) i)) ∙ c.left.invariant.made

pub returns-clause-next : goal.returns-clause-next
returns-clause-next c =
    drop-past _ c.args.left.now (omega arith) ∙ (λ i. back_of c.args.name.now (sym (drop-past c.left.to c.args.left.now c.left-test.false) i)) ∙ c.left.invariant.next
