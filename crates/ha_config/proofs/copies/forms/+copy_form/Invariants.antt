use Rattle.std.proofs.Common.{◌≡◌, take}
use Rattle.ha_config.proofs.copies.forms.+copy_form.Given as goal

abbrev pub invariant-copy_forms-loop-i : goal.invariant-copy_forms-loop-i
invariant-copy_forms-loop-i l = l.all ≡ take l.i l.forms

abbrev pub invariant-copy_fields-loop-i : goal.invariant-copy_fields-loop-i
invariant-copy_fields-loop-i l = l.all ≡ take l.i l.fields
