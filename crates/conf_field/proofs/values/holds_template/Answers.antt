use Rattle.std.proofs.Common.{◌∙◌, ◌+◌, arith, rules}
use Rattle.conf_field.proofs.TemplateSigns.{sign_further}
use Rattle.conf_field.proofs.values.holds_template.Goals as goal
use Rattle.conf_field.proofs.values.holds_template.Goals.{else-i-text-via-then-i-text+else-opens, else-i-text-via-else-i-text}

pub text-preserved : goal.text-preserved
text-preserved c =
    let text = c.args.text.now in
    c.text.invariant ∙ sign_further text c.text.i c.text-test.true (λ more.
    elim c.else-i-text.branch [
      | else-i-text-via-then-i-text+else-opens w ↦ search rules
      | else-i-text-via-else-i-text w ↦ absurd (omega arith)
    ])
