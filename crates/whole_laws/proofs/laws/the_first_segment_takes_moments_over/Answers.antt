use Rattle.std.proofs.Common.{refl}
use Rattle.std.specs.Prelude.{is_some}
use Rattle.ha_config.specs.Names.{automation_named}
use Rattle.ha_config.proofs.OrderLemmas.{moments-named, ordered-kept}
use Rattle.whole_laws.proofs.laws.the_first_segment_takes_moments_over.Goals as goal

pub returns : goal.returns
returns c = λ text config stored start zone last ordered. record {
  serials = refl;
  numbers = refl;
  lines = refl;
  shut = refl;
  last = moments-named config.automations last;
  ordered = ordered-kept (λ p. is_some (automation_named config.automations p.0)) last ordered;
}
