use Rattle.std.specs.Prelude.{Some}
use Rattle.std.proofs.Common.{◌-◌, ◌<◌, length, sym, subst, arith}
use Rattle.ha_model.specs.Records.{Records}
use Rattle.run_modes.specs.Table.{live_of, stopped}
use Rattle.ha_engine.specs.Admits.{are_in}
use Rattle.engine_parts.specs.Kept.{Going, nobody}
use Rattle.engine_parts.specs.Records.{AreEnded, IsTable}
use Rattle.ha_engine.proofs.StopLemmas.{going-ended, stopped-ended, stopped-table}
use Rattle.ha_engine.proofs.stop.stop_runs.Goals as goal

pub returns-clause-kept : goal.returns-clause-kept
returns-clause-kept c k at some table going =
    let rs : Records = c.args.runs.now.list in
    let rs' : Records = stopped (Some c.args.automation) c.args.place c.args.cause rs in
    let lt : c.args.place < length k = omega (arith, at, some) in
    let behind : IsTable k rs' = stopped-table k (Some c.args.automation) c.args.place c.args.cause rs lt table in
    let kept : Going nobody k rs' c.forget_live.new.parts
    = going-ended (are_in (live_of c.args.automation rs)) k rs rs' c.forget_live.new.parts behind table.numbered
    (subst (λ q. AreEnded (are_in (live_of c.args.automation rs)) q rs rs') at (stopped-ended c.args.automation c.args.place c.args.cause rs table.numbered))
    (c.forget_live.ensures.going k at table going) in
    (subst (λ (l : Records). IsTable k l) (sym c.stop_all.ensures.list) behind, subst (λ (l : Records). Going nobody k l c.forget_live.new.parts) (sym c.stop_all.ensures.list) kept)

pub forget_live-requires : goal.forget_live-requires
forget_live-requires c = c.requires.room
