use Rattle.std.proofs.Common.{◌≡◌, ◌∙◌, ◌+◌, ◌-◌, sym, ap, arith, length, take, drop, get_or, Some}
use Rattle.std.specs.Prelude.{if◌then◌else◌}
use Rattle.ha_config.specs.Words.{has_name}
use Rattle.script_step.specs.Cuts.{cut, total}
use Rattle.script_step.proofs.CutLemmas.{length-cut, length-take, take-shorter, total-next, total-take}
use Rattle.script_step.proofs.NameLemmas.{found-under, named-next}
use Rattle.script_step.proofs.scopes.Scopes.named_block.Goals as goal

pub overflow_add-end : goal.overflow_add-end
overflow_add-end c =
    let ns = c.as_slice-sizes.result.now in
    omega (arith, total-next ns c.loop-k.k c.loop-k-test.true, total-take (c.loop-k.k + 1) ns, c.loop-k.invariant.at, ap total c.as_slice-sizes.ensures, c.self.invariant, c.len-most.ensures)

pub prove-unreachable-requires : goal.prove-unreachable-requires
prove-unreachable-requires c =
    let ns = c.as_slice-sizes.result.now in
    omega (arith, total-next ns c.loop-k.k c.loop-k-test.true, total-take (c.loop-k.k + 1) ns, c.loop-k.invariant.at, ap total c.as_slice-sizes.ensures, c.self.invariant, c.len-most.ensures, c.if-prove.true)

pub has_name-here-requires : goal.has_name-here-requires
has_name-here-requires c =
    let ns = c.as_slice-sizes.result.now in
    omega (arith, total-next ns c.loop-k.k c.loop-k-test.true, total-take (c.loop-k.k + 1) ns, c.loop-k.invariant.at, ap total c.as_slice-sizes.ensures, c.self.invariant)

pub loop-k-preserved : goal.loop-k-preserved
loop-k-preserved c =
    let ns = c.as_slice-sizes.result.now in
    let ps = c.self.inside.pairs in
    let k = c.loop-k.k in
    let n = get_or ns k 0 in
    let at = c.loop-k.invariant.at in
    let size : (c.loop-k.at + n) - c.loop-k.at ≡ n = omega arith in
    let kth : k ≡ length (cut (take k ns) ps) = omega (arith, length-cut (take k ns) ps, length-take k ns (omega (arith, c.loop-k-test.true))) in
    let has = c.has_name-here.ensures ∙ (λ i. has_name c.args.name.now (take (size i) (drop (at i) ps))) in
    record {
      at = omega (arith, at, total-next ns k c.loop-k-test.true);
      found =
          c.later_block-found.ensures ∙ (λ i. if has i then Some (kth i) else c.loop-k.invariant.found i)
          ∙ sym (named-next c.args.name.now ns ps k c.loop-k-test.true);
    }

pub returns-clause-within : goal.returns-clause-within
returns-clause-within c =
    let ns = c.as_slice-sizes.result.now in
    let ps = c.self.inside.pairs in
    found-under c.args.name.now (cut (take c.loop-k.k ns) ps) c.loop-k.found (length c.args.self.now) c.loop-k.invariant.found
    (omega (arith, length-cut (take c.loop-k.k ns) ps, take-shorter c.loop-k.k ns, ap length c.as_slice-sizes.ensures, ap length c.self.view_is, length-cut c.self.inside.sizes c.self.inside.pairs))
