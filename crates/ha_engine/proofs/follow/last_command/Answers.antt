use Rattle.std.proofs.Common.{sym, ◌∙◌}
use Rattle.ha_journal.specs.declared.entry.Entry.TheVariants.{Line}
use Rattle.ha_engine.proofs.follow.last_command.Goals as goal

pub returns : goal.returns
returns c j source number cmd is = (let e = sym c.in-Line.is ∙ c.last_entry.ensures j (Line source number cmd) is in cc)
