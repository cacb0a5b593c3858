use Rattle.std.proofs.Common.{sym, subst}
use Rattle.ha_config.specs.declared.config.Mode.{Mode}
use Rattle.engine_parts.specs.Kept.{Going}
use Rattle.ha_engine.specs.Admits.{gone_by}
use Rattle.ha_engine.proofs.admit.clear_way.Goals as goal

pub returns-in-Restart-clause-going : goal.returns-in-Restart-clause-going
returns-in-Restart-clause-going c k at table going =
    subst (λ (m : Mode). Going (gone_by m c.args.automation c.args.runs.now.list) k c.args.runs.now.list c.forget_live.new.parts) (sym c.in-Restart.is) (c.forget_live.ensures.going k at table going)
