use Rattle.std.proofs.Common.{◌∙◌, sym, subst, [], Bool, true, false, Some, if◌then◌else◌}
use Rattle.yaml_scan.specs.Answers.{Gives}
use Rattle.conf_field.specs.Readings.{behind}
use Rattle.conf_field.specs.Kinds as kinds
use Rattle.conf_script.specs.Calls as calls
use Rattle.conf_script.proofs.calls.text_targets.Goals as goal

pub returns-then-holds_template : goal.returns-then-holds_template
returns-then-holds_template c = λ m h.
    let t = c.args.text.now in
    let tree = kinds.template_by c.args.line (Some t) in
    let P : Bool → Type 0 = λ b. Gives (if b then behind m tree else calls.ids_from c.args.line m [] t) c.behind.result in
    subst P (sym c.if-holds_template.true ∙ c.holds_template.ensures) (c.behind.ensures m tree h c.template_text.ensures)

pub returns : goal.returns
returns c = λ m h.
    let t = c.args.text.now in
    let tree = kinds.template_by c.args.line (Some t) in
    let P : Bool → Type 0 = λ b. Gives (if b then behind m tree else calls.ids_from c.args.line m [] t) c.ids_of.result in
    subst P (sym c.if-holds_template.false ∙ c.holds_template.ensures) (c.ids_of.ensures m h)
