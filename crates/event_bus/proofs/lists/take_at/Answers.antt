use Rattle.std.proofs.Common.{◌∙◌, refl, rules, true, Some}
use Rattle.std.specs.Prelude.{◌&&◌, not}
use Rattle.ha_config.specs.Words.{same}
use Rattle.event_bus.specs.Lists.{has, has_at}
use Rattle.event_bus.proofs.ListLemmas.{and-true, as-before, changes-name, passes-not}
use Rattle.event_bus.proofs.lists.take_at.Goals as goal

pub returns-in-Some-clause-own : goal.returns-in-Some-clause-own
returns-in-Some-clause-own c q =
    let m = c.args.lists.now in
    let new = c.take.new.set in
    let n = c.get_mut.follows.lender new in
    let written = changes-name m n _ _ _ refl ((c.get_mut.follows.holds new).3 (search rules)) in
    let is = c.in-Some.ensures.value in
    passes-not (λ s. has s c.args.number) m n c.args.name.now new written (Some c.in-Some.set.now) is true c.take.ensures.own q
    ∙ (λ i. not (and-true (same c.args.name.now q) i) && has_at m q c.args.number)

pub returns-in-Some-clause-others : goal.returns-in-Some-clause-others
returns-in-Some-clause-others c q k apart =
    let m = c.args.lists.now in
    let new = c.take.new.set in
    let n = c.get_mut.follows.lender new in
    let written = changes-name m n _ _ _ refl ((c.get_mut.follows.holds new).3 (search rules)) in
    let is = c.in-Some.ensures.value in
    as-before (λ s. has s k) m n c.args.name.now new written (Some c.in-Some.set.now) is (c.take.ensures.others k apart) q
