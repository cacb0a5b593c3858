use Rattle.std.proofs.Common.{◌∙◌, ap}
use Rattle.std.specs.Prelude.{not, ◌&&◌}
use Rattle.std.specs.Option.{option_copied}
use Rattle.ha_sight.specs.Rules.{is_template}
use Rattle.event_bus.specs.Subjects.{knows}
use Rattle.trig_set.proofs.ReadLemmas.{heeds-read}
use Rattle.trig_set.proofs.listed.unlist_trigger.Goals as goal

pub returns-in-Template-clause-own : goal.returns-in-Template-clause-own
returns-in-Template-clause-own c read s =
    let is = ap is_template c.in-Template.is in
    c.take_read.ensures.own s ∙ (λ i. not (heeds-read c.args.rule.now (option_copied c.args.read) is read s i) && knows c.args.index.now s c.args.owner)
