use Rattle.std.proofs.Common.{sym, subst, List, ℕ, Option, Ok, if◌then◌else◌}
use Rattle.std.specs.Prelude.{is_some}
use Rattle.ha_value.specs.declared.value.EntityId.{EntityId}
use Rattle.yaml_scan.specs.Answers.{Gives}
use Rattle.yaml_scan.specs.declared.fault.Code.TheVariants as code
use Rattle.conf_field.specs.Readings.{bad}
use Rattle.conf_script.specs.Forms.{literal}
use Rattle.conf_script.proofs.IdTexts.{written}
use Rattle.conf_script.proofs.calls.id_text.Goals as goal

pub returns-in-Ok : goal.returns-in-Ok
returns-in-Ok c =
    let t = c.args.text.now in
    let ByForm : Option EntityId → Type 0 = λ o. Gives (if is_some o then Ok (literal t) else bad c.args.line code.EntityId) c.literal_id.result in
    let AsText : List ℕ → Type 0 = λ s. Gives (Ok (literal s)) c.literal_id.result in
    subst ByForm (sym c.in-Ok.ensures.ok) (subst AsText (written t c.in-Ok.id c.in-Ok.ensures.ok) c.literal_id.ensures)
