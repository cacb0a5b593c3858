use Rattle.std.proofs.Common.{arith, ◌∙◌}
use Rattle.ha_io.proofs.WholeLemmas.{takes_more, within_more}
use Rattle.ha_io.proofs.whole.write_whole.Goals as goal

pub loop-done-preserved : goal.loop-done-preserved
loop-done-preserved g c = record {
  within = within_more c.args.text.now c.loop-done.done c.in-Ok.count c.loop-done.invariant.within c.in-Ok.ensures.bound;
  taken = takes_more _ _ _ c.args.text.now c.loop-done.done c.in-Ok.count c.loop-done.invariant.taken c.in-Ok.ensures.takes;
  faults = omega (arith, c.loop-done.invariant.faults, c.in-Ok.ensures.faults_never_fall);
  zeros = omega (arith, c.loop-done.invariant.zeros, c.in-Ok.ensures.zeros_never_fall);
  named = c.in-Ok.ensures.same_name ∙ c.loop-done.invariant.named;
}
