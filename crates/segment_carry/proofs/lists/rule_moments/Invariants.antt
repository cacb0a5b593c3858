use Rattle.std.proofs.Common.{◌≡◌, take, None}
use Rattle.std.specs.Prelude.{slice_get, unwrap_or}
use Rattle.segment_carry.specs.ByName.{listed}
use Rattle.ha_config.specs.Names.{names_of}
use Rattle.segment_carry.proofs.lists.rule_moments.Given as goal

abbrev pub invariant-chosen : goal.invariant-chosen
invariant-chosen l = l.made ≡ listed (names_of l.automations) (λ a. unwrap_or (slice_get l.lasts a) None) (take l.at-index l.order)
