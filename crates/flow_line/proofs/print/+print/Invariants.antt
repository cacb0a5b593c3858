use Rattle.std.proofs.Common.{◌≡◌, ◌++◌, map, take}
use Rattle.ha_value.specs.declared.value.Value.{Value}
use Rattle.ha_config.specs.Words.{Text}
use Rattle.ha_config.specs.ValueText.{comma_joined, pair_text, print_value}
use Rattle.flow_line.proofs.print.+print.Given as goal

abbrev pub invariant-push_items-loop-i : goal.invariant-push_items-loop-i
invariant-push_items-loop-i l = l.text ≡ l.initial.text ++ comma_joined (map print_value (take l.i l.items))

abbrev pub invariant-push_pairs-loop-i : goal.invariant-push_pairs-loop-i
invariant-push_pairs-loop-i l = l.text ≡ l.initial.text ++ comma_joined (map (λ (p : Text × Value). pair_text p.0 (print_value p.1)) (take l.i l.pairs))
