use Rattle.std.proofs.Common.{sym, ◌∙◌}
use Rattle.ha_journal.specs.declared.entry.Entry.TheVariants.{Step}
use Rattle.engine_entry.proofs.step_enter.last_item.Goals as goal

pub returns : goal.returns
returns c j worker serial branch item is = (let e = sym c.in-Step.is ∙ c.last_entry.ensures j (Step worker serial branch item) is in cc)
