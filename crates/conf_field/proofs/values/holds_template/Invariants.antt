use Rattle.std.proofs.Common.{◌≡◌, drop}
use Rattle.conf_field.specs.Kinds.{holds_template}
use Rattle.conf_field.proofs.values.holds_template.Given as goal

abbrev pub invariant-text : goal.invariant-text
invariant-text l = holds_template l.text ≡ holds_template (drop l.i l.text)
