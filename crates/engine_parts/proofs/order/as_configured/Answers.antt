use Rattle.std.proofs.Common.{◌++◌, ◌∙◌, filter, sym}
use Rattle.std.specs.Prelude.{nat_eq, slice_index_or}
use Rattle.std.proofs.lemmas.List.{take_all}
use Rattle.engine_parts.specs.Owners.{as_configured}
use Rattle.engine_parts.proofs.TakenLemmas.{configured-at}
use Rattle.engine_parts.proofs.order.as_configured.Goals as goal

pub rules-preserved : goal.rules-preserved
rules-preserved c =
    let n = slice_index_or c.args.numbers.now c.rules.at 0 in
    c.in_ok-add_own.ensures ∙ (λ i. c.rules.invariant i ++ filter (λ f. nat_eq f.owner n) c.args.fired.now)
    ∙ sym (configured-at c.args.fired.now c.args.numbers.now c.rules.at 0 c.rules-test.true)

pub returns : goal.returns
returns c = c.rules.invariant ∙ (λ i. as_configured (take_all c.rules.at c.args.numbers.now c.rules-test.false i) c.args.fired.now)
