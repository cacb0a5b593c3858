use Rattle.std.proofs.Common.{false, rules}
use Rattle.std.specs.Map.Iter.{deref}
use Rattle.std.proofs.lemmas.Map.Iter.{rest_all, rest_more}
use Rattle.wait_set.proofs.PairLemmas.{next-none, next-other, next-some}
use Rattle.wait_set.proofs.runs.next_owner.Goals as goal

pub returns-in_default : goal.returns-in_default
returns-in_default c n le none =
    next-none c.args.runs.now c.args.serial c.args.low c.range.result (c.range.ensures.in_range tt) (rest_all deref _ _ _ c.in_default.is c.next.ensures.steps) n le

pub returns-then-pair-serial : goal.returns-then-pair-serial
returns-then-pair-serial c n le none =
    let test = c.if-pair-serial.true in
    next-other c.args.runs.now c.args.serial c.args.low c.range.result (c.range.ensures.in_range tt) c.in-Some.pair.now c.next.new.self
    (rest_more deref _ _ _ c.in-Some.pair c.in-Some.is c.next.ensures.steps) (search (rules, test)) n le

pub returns : goal.returns
returns c n le lt =
    let test = c.if-pair-serial.false in
    next-some c.args.runs.now c.args.serial c.args.low c.range.result (c.range.ensures.in_range tt) c.in-Some.pair.now c.next.new.self
    (rest_more deref _ _ _ c.in-Some.pair c.in-Some.is c.next.ensures.steps) (search (rules, test)) n le lt
