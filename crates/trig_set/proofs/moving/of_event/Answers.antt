use Rattle.std.proofs.Common.{◌∙◌, ap, sym}
use Rattle.std.specs.Prelude.{◌&&◌}
use Rattle.std.specs.List.{list_all}
use Rattle.std.specs.Option.{option_copied}
use Rattle.ha_sight.specs.Rules.{pair_holds}
use Rattle.ha_config.specs.Words.{one_of}
use Rattle.trig_set.proofs.OnLemmas.{ok-then}
use Rattle.trig_set.proofs.MovedLemmas.{dataless, event-told, kindless}
use Rattle.trig_set.proofs.moving.of_event.Goals as goal

pub returns : goal.returns
returns c =
    ok-then _ _ c.of_named.result
    (λ v e b a j.
    e
    ∙ event-told b a j c.args.entry.now c.args.trigger.now c.in-Event.kinds c.in-Event.pairs c.in-Event.is _ _ _
    (sym (ap option_copied c.in-Some.is) ∙ c.kind_in.ensures)
    (sym (ap option_copied c.in-Some-data_in.is) ∙ c.data_in.ensures)
    (c.is_named-named.ensures
    ∙ (λ i. one_of c.in-Some.kind.now (c.as_slice.ensures i) && list_all (pair_holds (c.as_slice-3.ensures i)) (c.as_slice-2.ensures i))))
    c.of_named.ensures

pub returns-in_default-kind_in : goal.returns-in_default-kind_in
returns-in_default-kind_in c = λ b a j.
    kindless b a j c.args.entry.now c.args.trigger.now c.in-Event.kinds c.in-Event.pairs c.in-Event.is
    (sym (ap option_copied c.in_default-kind_in.is) ∙ c.kind_in.ensures)

pub returns-in_default-data_in : goal.returns-in_default-data_in
returns-in_default-data_in c = λ b a j.
    dataless b a j c.args.entry.now c.args.trigger.now c.in-Event.kinds c.in-Event.pairs c.in-Event.is
    (sym (ap option_copied c.in_default-data_in.is) ∙ c.data_in.ensures)
