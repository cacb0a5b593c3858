use Rattle.std.proofs.Common.{◌≡◌, ◌++◌, map, take}
use Rattle.ha_sight.specs.ItemText.{script_text}
use Rattle.ha_config.specs.ValueText.{comma_joined}
use Rattle.ha_texts.proofs.item.push_scripts.Given as goal

abbrev pub invariant-loop-i : goal.invariant-loop-i
invariant-loop-i l = l.text ≡ l.initial.text ++ comma_joined (map (script_text l.units) (take l.i l.scripts))
