use Rattle.std.proofs.Common.{◌≡◌, take, length}
use Rattle.ha_config.proofs.copies.forms.+same_form.Given as goal

abbrev pub invariant-same_forms-loop-i : goal.invariant-same_forms-loop-i
invariant-same_forms-loop-i l = record { long : length l.left ≡ length l.right; same_front : take l.i l.left ≡ take l.i l.right }

abbrev pub invariant-same_fields-loop-i : goal.invariant-same_fields-loop-i
invariant-same_fields-loop-i l = record { long : length l.left ≡ length l.right; same_front : take l.i l.left ≡ take l.i l.right }
