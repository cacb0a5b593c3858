use Rattle.std.proofs.Common.{◌≡◌, take}
use Rattle.ha_config.specs.Names.{names_of}
use Rattle.segment_carry.proofs.lists.rule_names.Given as goal

abbrev pub invariant-automations : goal.invariant-automations
invariant-automations l = l.names ≡ take l.at (names_of l.automations)
