use Rattle.std.proofs.Common.{arith, inl, inr, ⊎_elim}
use Rattle.time_match.proofs.DayLemmas.{whole-day, same-day, day-before}
use Rattle.time_match.proofs.day.has_time_back.Goals as goal

pub returns-then-count : goal.returns-then-count
returns-then-count c =
    let law = whole-day c.args.rule.now c.args.last c.args.count (omega arith) (omega arith) in
    (λ h. law.0 (c.has_time.ensures.0 h), λ p. c.has_time.ensures.1 (law.1 p))

pub returns-then-count-last : goal.returns-then-count-last
returns-then-count-last c =
    let law = same-day c.args.rule.now c.args.last c.args.count (omega arith) (omega arith) in
    (λ h. law.0 (c.has_time-then-count-last.ensures.0 h), λ p. c.has_time-then-count-last.ensures.1 (law.1 p))

pub returns-then-has_time : goal.returns-then-has_time
returns-then-has_time c =
    let law = day-before c.args.rule.now c.args.last c.args.count (omega arith) (omega arith) (omega arith) in
    (λ h. law.0 (inl (c.has_time-2.ensures.0 h)), λ p. c.if-has_time.true)

pub returns-else-has_time : goal.returns-else-has_time
returns-else-has_time c =
    let law = day-before c.args.rule.now c.args.last c.args.count (omega arith) (omega arith) (omega arith) in (
      λ h. law.0 (inr (c.has_time-else-has_time.ensures.0 h)),
      λ p. ⊎_elim (λ a. absurd (let yes = c.has_time-2.ensures.1 a in let no = c.if-has_time.false in cc)) c.has_time-else-has_time.ensures.1 (law.1 p),
    )
