use Rattle.std.proofs.Common.{arith, rules}
use Rattle.std.specs.Map.Iter.{deref}
use Rattle.std.proofs.lemmas.Map.Iter.{rest_all, rest_more}
use Rattle.wait_set.proofs.PairLemmas.{next-none, next-other}
use Rattle.script_calls.proofs.pairs.next_called.Goals as goal

pub returns-in_default-clause-none : goal.returns-in_default-clause-none
returns-in_default-clause-none c none n =
    next-none c.args.pairs.now c.args.caller 0 c.range.result (c.range.ensures.in_range tt) (rest_all deref _ _ _ c.in_default.is c.next.ensures.steps) n (omega arith)

pub returns-then-pair-caller-clause-none : goal.returns-then-pair-caller-clause-none
returns-then-pair-caller-clause-none c none n =
    let test = c.if-pair-caller.true in
    next-other c.args.pairs.now c.args.caller 0 c.range.result (c.range.ensures.in_range tt) c.in-Some.pair.now c.next.new.self
    (rest_more deref _ _ _ c.in-Some.pair c.in-Some.is c.next.ensures.steps) (search (rules, test)) n (omega arith)
