use Rattle.std.proofs.Common.{◌∙◌, refl, rules, true, Some, None}
use Rattle.std.specs.Prelude.{◌||◌}
use Rattle.ha_config.specs.Words.{same}
use Rattle.event_bus.specs.Lists.{has, has_at}
use Rattle.event_bus.proofs.ListLemmas.{and-true, as-before, changes-name, err-then, inserts-name, none-in, on-then, passes-too}
use Rattle.event_bus.proofs.lists.put_at.Goals as goal

pub returns-in-Some-clause-own : goal.returns-in-Some-clause-own
returns-in-Some-clause-own c =
    let m = c.args.lists.now in
    let new = c.put.new.set in
    let n = c.get_mut.follows.lender new in
    let written = changes-name m n _ _ _ refl ((c.get_mut.follows.holds new).3 (search rules)) in
    let is = c.in-Some.ensures.value in
    on-then _ _ c.put.result
    (λ e q. passes-too (λ s. has s c.args.number) m n c.args.name.now new written (Some c.in-Some.set.now) is true e q ∙ (λ i. and-true (same c.args.name.now q) i || has_at m q c.args.number))
    c.put.ensures.own

pub returns-in-Some-clause-others : goal.returns-in-Some-clause-others
returns-in-Some-clause-others c q k apart =
    let m = c.args.lists.now in
    let new = c.put.new.set in
    let n = c.get_mut.follows.lender new in
    let written = changes-name m n _ _ _ refl ((c.get_mut.follows.holds new).3 (search rules)) in
    let is = c.in-Some.ensures.value in
    as-before (λ s. has s k) m n c.args.name.now new written (Some c.in-Some.set.now) is (c.put.ensures.others k apart) q

pub returns-in_ok-insert-in-None-clause-own : goal.returns-in_ok-insert-in-None-clause-own
returns-in_ok-insert-in-None-clause-own c q =
    let m = c.args.lists.now in
    let n = c.insert.new.self in
    let written = inserts-name c.get_mut.follows.lender-at-none m n c.get_mut.follows.holds-at-none _ _ _ c.in_ok-key-in-None.ensures c.in_ok-insert-in-None.ensures.updates in
    let is = c.in-None.ensures.value in
    passes-too (λ s. has s c.args.number) m n c.args.name.now c.put-in-None.new.set written None is true c.in_ok-put-in-None.ensures.own q
    ∙ (λ i. and-true (same c.args.name.now q) i || has_at m q c.args.number)

pub returns-in_ok-insert-in-None-clause-others : goal.returns-in_ok-insert-in-None-clause-others
returns-in_ok-insert-in-None-clause-others c q k apart =
    let m = c.args.lists.now in
    let n = c.insert.new.self in
    let written = inserts-name c.get_mut.follows.lender-at-none m n c.get_mut.follows.holds-at-none _ _ _ c.in_ok-key-in-None.ensures c.in_ok-insert-in-None.ensures.updates in
    let is = c.in-None.ensures.value in
    as-before (λ s. has s k) m n c.args.name.now c.put-in-None.new.set written None is (c.in_ok-put-in-None.ensures.others k apart ∙ none-in c.new-set.result c.new-set.ensures.empty k) q

pub returns-in-Some-clause-err : goal.returns-in-Some-clause-err
returns-in-Some-clause-err c =
    let m = c.args.lists.now in
    let new = c.put.new.set in
    let n = c.get_mut.follows.lender new in
    let written = changes-name m n _ _ _ refl ((c.get_mut.follows.holds new).3 (search rules)) in
    let is = c.in-Some.ensures.value in
    err-then _ _ c.put.result (λ same q k. as-before (λ s. has s k) m n c.args.name.now new written (Some c.in-Some.set.now) is (same k) q) c.put.ensures.err
