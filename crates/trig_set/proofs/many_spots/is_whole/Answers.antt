use Rattle.std.proofs.Common.{◌≡◌, ◌∙◌, Bool, arith, false, sym, true}
use Rattle.std.proofs.lemmas.Bool.Decides.{nat_tests}
use Rattle.trig_set.proofs.many_spots.is_whole.Goals as goal

pub returns-then-opens-clause-within : goal.returns-then-opens-clause-within
returns-then-opens-clause-within c is = absurd (let bad : ◌≡◌ {A = Bool} true false = is in cc)

pub returns-then-opens-clause-late : goal.returns-then-opens-clause-late
returns-then-opens-clause-late c is = absurd (let bad : ◌≡◌ {A = Bool} true false = is in cc)

pub returns-clause-within : goal.returns-clause-within
returns-clause-within c is = sym c.opens.ensures ∙ c.if-opens.false

pub returns-clause-late : goal.returns-clause-late
returns-clause-late c is = grind (arith, nat_tests, is)
