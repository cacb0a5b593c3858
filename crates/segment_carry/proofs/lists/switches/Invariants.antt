use Rattle.std.proofs.Common.{◌≡◌, take}
use Rattle.segment_carry.specs.ByName.{listed}
use Rattle.segment_carry.specs.Closing.{flag_in}
use Rattle.segment_carry.proofs.lists.switches.Given as goal

abbrev pub invariant-chosen : goal.invariant-chosen
invariant-chosen l = l.made ≡ listed l.names (flag_in l.switches) (take l.at-index l.order)
