use Rattle.std.proofs.Common.{sym, subst, ℕ, List, Option}
use Rattle.yaml_scan.specs.Answers.{Gives}
use Rattle.yaml_scan.specs.declared.fault.Code.TheVariants as code
use Rattle.conf_field.specs.Readings.{bad, behind}
use Rattle.conf_script.specs.Calls as calls
use Rattle.conf_script.proofs.calls.targets_text.Goals as goal

pub returns-in-Some : goal.returns-in-Some
returns-in-Some c = λ m h.
    let P : Option (List ℕ) → Type 0 = λ o. Gives (calls.targets_text m c.args.line o) c.text_targets.result in
    subst P (sym c.in-Some.ensures) (c.text_targets.ensures m h)

pub returns-in-None : goal.returns-in-None
returns-in-None c = λ m h.
    let P : Option (List ℕ) → Type 0 = λ o. Gives (calls.targets_text m c.args.line o) c.behind.result in
    subst P (sym c.in-None.ensures) (c.behind.ensures m (bad c.args.line code.Kind) h c.bad.ensures)
