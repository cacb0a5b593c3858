use Rattle.std.proofs.Common.{◌≡◌}
use Rattle.std.specs.Prelude.{map}
use Rattle.ha_config.specs.Names.{name_of}
use Rattle.ha_config.specs.Words.{up_to}
use Rattle.ha_whole.specs.Named.{named}
use Rattle.segment_carry.proofs.lists.lasts.Given as goal

abbrev pub invariant-automations : goal.invariant-automations
invariant-automations l = l.lasts.items ≡ map (λ a. named (name_of l.automations a) l.carried) (up_to l.at)
