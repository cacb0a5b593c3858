use Rattle.std.proofs.Common.{arith, ◌∙◌, sym}
use Rattle.ha_config.proofs.NameLemmas.{last-found, last-passed}
use Rattle.ha_config.proofs.pairs.last_pair.Goals as goal

pub returns-then-same_text : goal.returns-then-same_text
returns-then-same_text c =
    last-found c.args.name.now c.args.pairs.now c.loop-left.left c.index-pairs-left.result (omega arith) c.loop-left.invariant.within c.index-pairs-left.is c.loop-left.invariant.before
    (sym c.same_text.ensures ∙ c.if-same_text.true)

pub loop-left-preserved : goal.loop-left-preserved
loop-left-preserved c = record {
  within = omega arith;
  before = last-passed c.args.name.now c.args.pairs.now c.loop-left.left c.index-pairs-left.result (omega arith) c.loop-left.invariant.within c.index-pairs-left.is c.loop-left.invariant.before
      (sym c.same_text.ensures ∙ c.if-same_text.false);
}
