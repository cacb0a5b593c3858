use Rattle.std.proofs.Common.{sym, ◌∙◌}
use Rattle.run_modes.proofs.LaneLemmas.{marked-place}
use Rattle.run_modes.proofs.lanes.Lanes.place.Goals as goal

pub returns-then-is_at : goal.returns-then-is_at
returns-then-is_at c = sym (marked-place c.args.automation c.marked-at.result c.args.self.now.rows.items c.requires (sym c.is_at.ensures ∙ c.if-is_at.true))
