use Rattle.ha_check.proofs.AnswerLemmas.{answer_of}
use Rattle.ha_check.proofs.check.checked.Goals as goal

pub returns-clause-of_file : goal.returns-clause-of_file
returns-clause-of_file g c = answer_of (g.P.Place.holds c.args.place.now) c.args.name.now _ c.in-Err.ensures.fault c.in-Err.ensures.refused c.in-Err.ensures.there
