use Rattle.std.proofs.Common.{◌≡◌, ◌+◌, ◌/◌, arith}
use Rattle.time_next.proofs.ChangeLemmas.{offset-same}
use Rattle.time_next.proofs.even.change_behind.Goals as goal

pub returns-in-Some-clause-even : goal.returns-in-Some-clause-even
returns-in-Some-clause-even c = λ k less.
    let first = c.args.first in
    let within = c.bounded.ensures.within in
    let day : (c.args.first + k) / 86_400 ≡ c.args.first / 86_400 = omega (arith, less, within) in
    offset-same c.args.rule.now c.args.first k _ _ c.requires day c.instant_of.ensures c.in-Some.ensures
    (λ some. c.second_of.ensures (c.args.first + k) (c.bounded.ensures.before (c.args.first + k) (omega (arith, some)) less))

pub returns-in-None-clause-even : goal.returns-in-None-clause-even
returns-in-None-clause-even c = λ k less.
    let day : (c.args.first + k) / 86_400 ≡ c.args.first / 86_400 = omega (arith, less) in
    offset-same c.args.rule.now c.args.first k _ _ c.requires day c.instant_of.ensures c.in-None.ensures (λ some. tt)
