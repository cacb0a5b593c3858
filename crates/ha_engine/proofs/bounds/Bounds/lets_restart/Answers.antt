use Rattle.std.proofs.Common.{◌+◌, ◌<◌, ◌≤◌, inl, inr, rules}
use Rattle.ha_engine.proofs.bounds.Bounds.lets_restart.Goals as goal

pub returns-then-full-clause-none : goal.returns-then-full-clause-none
returns-then-full-clause-none c e = (let le : 4194304 ≤ c.args.entries + 1 = search (rules, c.if-full.true) in inl le)

pub returns-clause-some : goal.returns-clause-some
returns-clause-some c e =
    let lt : c.args.entries + 1 < 4194304 = search (rules, c.if-full.false) in
    let few : c.args.self.now.segments < 1024 = search (rules, e) in
    (lt, few)

pub returns-clause-none : goal.returns-clause-none
returns-clause-none c e = (let le : 1024 ≤ c.args.self.now.segments = search (rules, e) in inr le)
