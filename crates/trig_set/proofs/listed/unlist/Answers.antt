use Rattle.std.proofs.Common.{◌∙◌}
use Rattle.event_bus.proofs.AnyLemmas.{any-taken}
use Rattle.trig_set.specs.Known.{heeds}
use Rattle.trig_set.proofs.ReadLemmas.{read-there}
use Rattle.trig_set.proofs.listed.unlist.Goals as goal

pub loop-place-preserved : goal.loop-place-preserved
loop-place-preserved c = record {
  own = λ are s. any-taken (λ t. heeds t.rule s) c.args.triggers.now c.loop-place.place c.index-triggers-place.result c.loop-place-test.true _ _ _
      (c.unlist_trigger.ensures.own (c.read_at.ensures ∙ read-there c.args.triggers.now c.args.reads.now c.loop-place.place c.index-triggers-place.result are c.loop-place-test.true) s) (c.loop-place.invariant.own are s);
  others = λ s n apart. c.unlist_trigger.ensures.others s n apart ∙ c.loop-place.invariant.others s n apart;
}
