use Rattle.std.proofs.Common.{sym, arith}
use Rattle.run_modes.proofs.LaneLemmas.{lane-at, lane-got, lane-none}
use Rattle.run_modes.proofs.lanes.Lanes.find.Goals as goal

pub index-requires : goal.index-requires
index-requires c = omega (arith, (lane-at c.args.automation c.in-Some.at c.args.self.now.rows.items (sym c.in-Some.ensures)).1, c.args.self.now.rows.ok.0)

pub returns-in-Some : goal.returns-in-Some
returns-in-Some c = sym (lane-got c.args.automation c.in-Some.at c.args.self.now.rows.items c.index.result.now (sym c.in-Some.ensures) c.index.ensures).0

pub returns-in-None : goal.returns-in-None
returns-in-None c = lane-none c.args.automation c.args.self.now.rows.items c.in-None.ensures
