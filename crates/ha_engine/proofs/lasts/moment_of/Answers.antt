use Rattle.std.proofs.Common.{◌∙◌, sym, arith}
use Rattle.ha_engine.proofs.NameLoops.{pair-found, pair-none, pair-passed}
use Rattle.ha_engine.proofs.lasts.moment_of.Goals as goal

pub returns-then-same_text : goal.returns-then-same_text
returns-then-same_text c =
    sym (pair-found c.args.name.now c.args.moments.now c.moments.pair-index c.pair-item.result c.moments-test.true c.pair-item.is (sym c.same_text.ensures ∙ c.if-same_text.true)) ∙ c.moments.invariant

pub moments-preserved : goal.moments-preserved
moments-preserved c =
    pair-passed c.args.name.now c.args.moments.now c.moments.pair-index c.pair-item.result c.moments-test.true c.pair-item.is (sym c.same_text.ensures ∙ c.if-same_text.false) ∙ c.moments.invariant

pub returns : goal.returns
returns c = sym (pair-none c.args.name.now c.args.moments.now c.moments.pair-index (omega (arith, c.moments-test.false))) ∙ c.moments.invariant
