use Rattle.std.proofs.Common.{◌≡◌, ◌∙◌, ◌/◌, ap, sym, arith}
use Rattle.time_next.specs.Next.{fits_at}
use Rattle.time_next.proofs.next.next_time.Goals as goal

pub returns-clause-skipped : goal.returns-clause-skipped
returns-clause-skipped c = λ s low before.
    let at = c.moment_of.ensures in
    let from = c.millis-first.ensures.same in
    c.next_second.ensures.skipped s (omega (arith, low, from)) (omega (arith, before, at))

pub returns-clause-found : goal.returns-clause-found
returns-clause-found c = λ steady s h.
    let at = c.moment_of.ensures in
    let second : c.next_second.result ≡ c.moment_of.result / 1000 = omega (arith, at) in
    ap (fits_at c.args.rule.now c.args.zone.now) (sym second) ∙ c.next_second.ensures.found steady s h
