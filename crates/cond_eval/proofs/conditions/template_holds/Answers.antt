use Rattle.std.proofs.Common.{◌∙◌, ap, refl, sym}
use Rattle.ha_sight.specs.Templates.{is_true_text, rendered}
use Rattle.cond_eval.specs.Seen.{seen}
use Rattle.cond_eval.proofs.CaseLemmas.{no-text, same-text}
use Rattle.cond_eval.proofs.conditions.template_holds.Goals as goal

pub returns-in-Ok : goal.returns-in-Ok
returns-in-Ok c =
    let given = rendered (seen c.args.view.now) c.args.template.now c.args.env.now in
    c.is_true.ensures ∙ ap is_true_text (same-text given c.in-Ok.text (rw c.in-Ok.is at (c.render.ensures.seen (seen c.args.view.now) (λ e. refl))))

pub returns-in-Err-Fault : goal.returns-in-Err-Fault
returns-in-Err-Fault c =
    let given = rendered (seen c.args.view.now) c.args.template.now c.args.env.now in
    sym (ap is_true_text (no-text given (rw (c.in-Err-Fault.is, c.in-Err-Fault.field-0-is) at (c.render.ensures.seen (seen c.args.view.now) (λ e. refl)))))
