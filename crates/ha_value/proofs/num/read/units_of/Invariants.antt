use Rattle.std.proofs.Common.{◌≡◌, ◌≤◌, take}
use Rattle.std.specs.Str.Parse.{digits_value}
use Rattle.ha_value.proofs.num.read.units_of.Given as goal

abbrev pub invariant-loop-i : goal.invariant-loop-i
invariant-loop-i l = record {
  value : l.units ≡ digits_value 10 (take l.i l.text);
  size : l.units ≤ 1_000_000_000_000;
}
