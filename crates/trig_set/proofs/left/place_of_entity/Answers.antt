use Rattle.std.proofs.Common.{◌∙◌, refl, sym}
use Rattle.trig_set.proofs.left.place_of_entity.Goals as goal

pub returns-in-Some : goal.returns-in-Some
returns-in-Some c = (
  λ is n. sym (c.in-Some.ensures n) ∙ c.is_empty.ensures.0 (c.unless.ensures.0 is) n,
  λ none. c.unless.ensures.1 (c.is_empty.ensures.1 (λ n. c.in-Some.ensures n ∙ none n)),
)

pub returns-in-None : goal.returns-in-None
returns-in-None c = (λ is n. sym (c.in-None.ensures n), λ none. refl)
