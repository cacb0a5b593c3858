use Rattle.std.proofs.Common.{◌∙◌, ap, sym}
use Rattle.std.specs.List.{list_any}
use Rattle.ha_config.specs.Words.{same_entity}
use Rattle.tpl_reads.proofs.OnceLemmas.{found-again, found-new}
use Rattle.tpl_reads.proofs.found.add.Goals as goal

pub returns-then-is_among : goal.returns-then-is_among
returns-then-is_among c = λ before h.
    found-again c.args.found.now c.args.entity before h
    (ap (list_any (λ e. same_entity e c.args.entity)) (sym c.as_slice.ensures) ∙ sym c.is_among.ensures ∙ c.if-is_among.true)

pub returns : goal.returns
returns c = λ before h.
    c.in_ok-push.ensures.ok
    ∙ found-new c.args.found.now c.args.entity before h
    (ap (list_any (λ e. same_entity e c.args.entity)) (sym c.as_slice.ensures) ∙ sym c.is_among.ensures ∙ c.if-is_among.false)
