use Rattle.std.proofs.Common.{sym, subst}
use Rattle.std.specs.Prelude.{Option}
use Rattle.ha_config.specs.Words.{Text}
use Rattle.tpl_fns.specs.Outcome.{Gives}
use Rattle.tpl_eval.specs.declared.page.Page.{Page}
use Rattle.tpl_eval.proofs.PageLemmas.{page-fault, page-text}
use Rattle.tpl_eval.proofs.rendering.page_text.Goals as goal

pub returns-in-Ok : goal.returns-in-Ok
returns-in-Ok c = λ sight sees.
    let old : Page = record { text = c.new.result; set = c.make.result } in
    let known = rw c.in-Ok.is at (c.write_template.ensures sight sees) in
    subst (λ (o : Option Text). Gives {X = Text} c.trimmed.result o)
    (sym (page-text sight c.args.env.now c.args.template.now old c.write_template.new.page c.new.ensures c.make.ensures c.in-Ok.field-0 known)) c.trimmed.ensures

pub returns : goal.returns
returns c = λ sight sees.
    let old : Page = record { text = c.new.result; set = c.make.result } in
    let known = rw c.in-Err.is at (c.write_template.ensures sight sees) in
    page-fault sight c.args.env.now c.args.template.now old c.write_template.new.page c.new.ensures c.make.ensures c.in-Err.fault known
