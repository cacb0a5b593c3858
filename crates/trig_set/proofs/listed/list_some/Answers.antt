use Rattle.std.proofs.Common.{◌∙◌}
use Rattle.trig_set.specs.Known.{heeds}
use Rattle.event_bus.proofs.AnyLemmas.{any-part, any-put}
use Rattle.trig_set.proofs.ReadLemmas.{read-there}
use Rattle.trig_set.proofs.listed.list_some.Goals as goal

pub list_trigger-requires : goal.list_trigger-requires
list_trigger-requires c = c.read_at.ensures ∙ read-there c.args.triggers.now c.args.reads.now c.loop-place.place c.index-triggers-place.result c.requires c.loop-place-test.true

pub loop-place-preserved : goal.loop-place-preserved
loop-place-preserved c = record {
  own = λ s. any-put (λ t. heeds t.rule s) c.args.triggers.now c.loop-place.place c.index-triggers-place.result c.loop-place-test.true _ _ _
      (c.in_ok-list_trigger.ensures.own s) (c.loop-place.invariant.own s);
  others = λ s n apart. c.in_ok-list_trigger.ensures.others s n apart ∙ c.loop-place.invariant.others s n apart;
}

pub returns-in_err-list_trigger-clause-part : goal.returns-in_err-list_trigger-clause-part
returns-in_err-list_trigger-clause-part c s h =
    any-part (λ t. heeds t.rule s) c.args.triggers.now c.loop-place.place c.index-triggers-place.result c.loop-place-test.true _ _
    (c.list_trigger.ensures.part s h) (c.loop-place.invariant.own s)
