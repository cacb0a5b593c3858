use Rattle.whole_laws.proofs.SeenLemmas.{front-below, has-boot, seen-there}
use Rattle.whole_laws.proofs.laws.the_last_segment_is_seen.Goals as goal

pub returns : goal.returns
returns c = record { boot = has-boot; front = front-below; seen = seen-there }
