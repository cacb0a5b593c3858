use Rattle.std.proofs.Common.{◌≡◌, Bool, false, refl, true}
use Rattle.trig_set.proofs.left.asked.Goals as goal

pub returns-in-Some : goal.returns-in-Some
returns-in-Some c = (λ is. (let bad : ◌≡◌ {A = Bool} true false = is in absurd (cc)), λ left. c.in-Some.ensures.1 left.1)

pub returns-in-None : goal.returns-in-None
returns-in-None c = (
  λ is. (c.leaves_entries.ensures.0 (c.unless.ensures.0 is), c.in-None.ensures.0 refl),
  λ left. c.unless.ensures.1 (c.leaves_entries.ensures.1 left.0),
)
