use Rattle.std.proofs.Common.{sym, subst}
use Rattle.std.specs.Option.{option_map}
use Rattle.ha_run.specs.Core.{IsHandedOn}
use Rattle.ha_run.proofs.HandedLemmas.{end_handed}
use Rattle.ha_run.proofs.finish.ended.Goals as goal

pub returns-clause-handed : goal.returns-clause-handed
returns-clause-handed g c =
    let kept = g.K.Sink.kept in
    let e = c.end-core in
    subst (IsHandedOn (option_map kept e.result.trace)) (sym c.status_behind-status.ensures) (end_handed kept e.result.trace c.args.told e.result.first e.ensures.handed)
