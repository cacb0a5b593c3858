use Rattle.std.proofs.Common.{◌≡◌, take}
use Rattle.ha_sight.specs.Inner.{scripts_named}
use Rattle.script_calls.specs.Numbered.{scripts_with}
use Rattle.script_calls.proofs.services.scripts_named.Given as goal

abbrev pub invariant-loop-i : goal.invariant-loop-i
invariant-loop-i l = l.found ≡ scripts_named (scripts_with l.numbers l.scripts) (take l.i l.targets)
