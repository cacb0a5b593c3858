use Rattle.std.proofs.Common.{◌≡◌, drop}
use Rattle.ha_sight.specs.Inner.{number_named}
use Rattle.script_calls.specs.Numbered.{scripts_with}
use Rattle.script_calls.proofs.services.number_of.Given as goal

-- no script before this one has the name
abbrev pub invariant-loop-i : goal.invariant-loop-i
invariant-loop-i l = number_named (scripts_with l.numbers l.scripts) l.name ≡ number_named (scripts_with (drop l.i l.numbers) (drop l.i l.scripts)) l.name
