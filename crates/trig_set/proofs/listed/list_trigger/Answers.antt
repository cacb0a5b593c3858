use Rattle.std.proofs.Common.{◌∙◌, ap, sym}
use Rattle.std.specs.Prelude.{◌||◌}
use Rattle.std.specs.Option.{option_copied}
use Rattle.ha_sight.specs.Rules.{is_template}
use Rattle.event_bus.specs.Subjects.{knows}
use Rattle.trig_set.proofs.OnLemmas.{on-then}
use Rattle.trig_set.proofs.ReadLemmas.{heeds-read}
use Rattle.trig_set.proofs.listed.list_trigger.Goals as goal

pub returns-in-Template-clause-own : goal.returns-in-Template-clause-own
returns-in-Template-clause-own c =
    let is = ap is_template c.in-Template.is in
    on-then _ _ c.put_read.result
    (λ own s. own s ∙ (λ i. heeds-read c.args.rule.now (option_copied c.args.read) is c.requires s i || knows c.args.index.now s c.args.owner))
    c.put_read.ensures.own

pub returns-in-Template-clause-part : goal.returns-in-Template-clause-part
returns-in-Template-clause-part c s h =
    let is = ap is_template c.in-Template.is in
    (λ i. sym (heeds-read c.args.rule.now (option_copied c.args.read) is c.requires s) i || knows c.args.index.now s c.args.owner) ∙ c.put_read.ensures.part s h
