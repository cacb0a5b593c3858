use Rattle.std.proofs.Common.{◌+◌, ◌<◌, ◌≤◌, inl, inr, refl, rules, arith}
use Rattle.ha_engine.proofs.bounds.limit_behind.Goals as goal

pub returns-then-short : goal.returns-then-short
returns-then-short c =
    let lt : c.args.front + 1048576 < 4194304 = search (rules, c.if-short.true) in
    record { own = omega arith; all = omega (arith, lt); is = inl refl }

pub returns-else-short : goal.returns-else-short
returns-else-short c =
    let le : 4194304 ≤ c.args.front + 1048576 = search (rules, c.if-short.false) in
    record { own = le; all = omega arith; is = inr refl }
