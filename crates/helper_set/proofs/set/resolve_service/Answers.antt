use Rattle.std.proofs.Common.{◌∙◌, sym}
use Rattle.helper_set.proofs.SeenLemmas.{good-data}
use Rattle.helper_set.proofs.TakenLemmas.{if-ok}
use Rattle.helper_set.proofs.set.resolve_service.Goals as goal

pub returns-in-Ok : goal.returns-in-Ok
returns-in-Ok c =
    if-ok c.resolved.result
    (λ inner is sight seen.
    is sight seen
    ∙ sym (good-data c.args.kept.now.items sight c.args.now seen c.args.service c.args.target.now c.args.fields.now c.in-Ok.wished
    (sym c.is_configured.ensures ∙ c.if-not-is_configured.false) (sym c.in-Ok.ensures)))
    c.resolved.ensures
