use Rattle.std.proofs.Common.{◌∙◌, ap, subst, sym}
use Rattle.std.specs.List.{list_any}
use Rattle.ha_config.specs.declared.config.Trigger.{Trigger}
use Rattle.ha_sight.specs.Rules.{is_template}
use Rattle.trig_set.specs.Reads.{AreRead}
use Rattle.trig_set.proofs.OnLemmas.{ok-then}
use Rattle.trig_set.proofs.ReadLemmas.{none-read}
use Rattle.trig_set.proofs.reads.reads_of.Goals as goal

pub returns-then-has_template : goal.returns-then-has_template
returns-then-has_template c = ok-then _ _ c.read_each.result (λ reads are. subst (λ l. AreRead l reads) c.as_slice-list.ensures are) c.read_each.ensures

pub returns-else-has_template : goal.returns-else-has_template
returns-else-has_template c =
    subst (AreRead c.args.triggers.now) (sym c.make.ensures)
    (none-read c.args.triggers.now (ap (list_any (λ (t : Trigger). is_template t.rule)) (sym c.as_slice-list.ensures) ∙ sym c.has_template.ensures ∙ c.if-has_template.false))
