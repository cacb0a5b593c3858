use Rattle.std.proofs.Common.{◌∙◌, sym, subst}
use Rattle.std.specs.Option.{option_map}
use Rattle.ha_run.specs.Core.{IsHandedOn}
use Rattle.ha_run.proofs.HandedLemmas.{fault_handed}
use Rattle.ha_run.proofs.finish.end.Goals as goal

pub returns-in-Some-clause-handed : goal.returns-in-Some-clause-handed
returns-in-Some-clause-handed g c =
    subst (IsHandedOn (option_map g.K.Sink.kept c.stopped.result.trace)) (sym (c.stopped.ensures.status ∙ c.status_of.ensures)) (fault_handed (option_map g.K.Sink.kept c.stopped.result.trace) c.in-Some.fault)
