use Rattle.std.proofs.Common.{◌++◌, ◌∷◌, [], ◌∙◌, append_assoc, filter, sym, take, Bool}
use Rattle.std.specs.Prelude.{nat_eq}
use Rattle.std.proofs.lemmas.List.{take_all}
use Rattle.ha_journal.specs.declared.firing.Firing.{Firing}
use Rattle.engine_parts.proofs.SortedLemmas.{less, none-added, none-from}
use Rattle.engine_parts.proofs.TakenLemmas.{filter-taken}
use Rattle.engine_parts.proofs.order.add_own.Goals as goal

pub firings-init : goal.firings-init
firings-init c = none-added c.args.owner c.first_of-first.result c.args.made.now c.args.fired.now (c.first_of-first.ensures.first c.requires)

pub firings-preserved : goal.firings-preserved
firings-preserved c =
    let own : Firing → Bool = λ f. nat_eq f.owner c.args.owner in
    let all = c.args.fired.now in
    let x = c.index-fired-at-in-firings.result in
    c.in_ok-add_if.ensures ∙ (λ i. c.firings.invariant i ++ filter own (x ∷ []))
    ∙ append_assoc c.args.made.now (filter own (take c.firings.at all)) (filter own (x ∷ []))
    ∙ (λ i. c.args.made.now ++ sym (filter-taken own all c.firings.at x c.firings-test.true c.index-fired-at-in-firings.is) i)

pub returns-then-is_behind : goal.returns-then-is_behind
returns-then-is_behind c =
    let x = c.index-fired-at.result in
    c.firings.invariant
    ∙ (λ i. c.args.made.now ++ none-from c.args.owner 0 c.firings.at c.args.fired.now x c.requires c.firings-test.true c.index-fired-at.is (less c.args.owner x.owner (sym c.is_behind.ensures ∙ c.if-is_behind.true)) i)

pub returns : goal.returns
returns c =
    let own : Firing → Bool = λ f. nat_eq f.owner c.args.owner in
    c.firings.invariant ∙ (λ i. c.args.made.now ++ filter own (take_all c.firings.at c.args.fired.now c.firings-test.false i))
