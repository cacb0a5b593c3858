use Rattle.helper_laws.proofs.BoundLemmas.{counter-within, sound-within}
use Rattle.helper_laws.proofs.laws.counters_stay_in_their_bounds.Goals as goal

pub returns-clause-sound : goal.returns-clause-sound
returns-clause-sound k j rs right sound e h c named counts n = sound-within j rs right sound e h c named counts n

pub returns-clause-each : goal.returns-clause-each
returns-clause-each k j rs right e h c named counts apt n = counter-within j rs right e h c named counts apt n
