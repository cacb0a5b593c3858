use Rattle.std.proofs.Common.{length, refl, sym, ap, subst, ◌∙◌, arith}
use Rattle.engine_parts.specs.Lower.{Ascends, lower}
use Rattle.engine_parts.proofs.CutLemmas.{cut-length}
use Rattle.engine_parts.proofs.LowerLemmas.{CutTo, cut-begins, cut-ends, cut-goes-on, stands-within}
use Rattle.engine_parts.proofs.ready.drop_pairs.Goals as goal

pub pairs-init : goal.pairs-init
pairs-init c =
    let old = c.args.ready.now.pairs.items in
    let is = c.as_slice.ensures.value in
    record {
      cut = λ h. subst (λ n. CutTo c.args.serial n old old) (sym (c.lower-at.ensures.lower (subst (Ascends 0) (sym is) h) ∙ ap (lower c.args.serial) is)) (cut-begins c.args.serial 0 old h);
      len = omega arith;
      capacity = refl;
    }

pub cut-requires : goal.cut-requires
cut-requires c = stands-within c.args.serial c.lower-at.result c.pairs.ready.pairs.items (sym c.stands_at.ensures ∙ c.pairs-test.true)

pub pairs-smaller : goal.pairs-smaller
pairs-smaller c =
    let lt = stands-within c.args.serial c.lower-at.result c.pairs.ready.pairs.items (sym c.stands_at.ensures ∙ c.pairs-test.true) in
    omega (arith, lt, ap length c.cut.ensures.items, cut-length c.lower-at.result c.pairs.ready.pairs.items lt)

pub pairs-preserved : goal.pairs-preserved
pairs-preserved c =
    let old = c.args.ready.now.pairs.items in
    let stands = sym c.stands_at.ensures ∙ c.pairs-test.true in
    let lt = stands-within c.args.serial c.lower-at.result c.pairs.ready.pairs.items stands in
    record {
      cut = λ h. cut-goes-on c.args.serial c.lower-at.result old c.pairs.ready.pairs.items c.cut.new.ready.pairs.items stands c.cut.ensures.items (c.pairs.invariant.cut h);
      len = omega (arith, lt, ap length c.cut.ensures.items, cut-length c.lower-at.result c.pairs.ready.pairs.items lt, c.pairs.invariant.len, c.cut.new.ready.pairs.ok.0, c.pairs.ready.pairs.ok.0);
      capacity = c.cut.ensures.capacity ∙ c.pairs.invariant.capacity;
    }

pub returns-clause-rest : goal.returns-clause-rest
returns-clause-rest c h = cut-ends c.args.serial c.lower-at.result c.args.ready.now.pairs.items c.pairs.ready.pairs.items (sym c.stands_at.ensures ∙ c.pairs-test.false) (c.pairs.invariant.cut h)
