use Rattle.std.proofs.Common.{◌≡◌, ◌++◌, map, take}
use Rattle.ha_sight.specs.ItemText.{change_text}
use Rattle.ha_config.specs.ValueText.{comma_joined}
use Rattle.ha_texts.proofs.helped.push_changes.Given as goal

abbrev pub invariant-loop-i : goal.invariant-loop-i
invariant-loop-i l = l.text ≡ l.initial.text ++ comma_joined (map change_text (take l.i l.changes))
