use Rattle.std.specs.Prelude.{Some}
use Rattle.engine_parts.proofs.SlotTables.{values-put}
use Rattle.engine_parts.proofs.slots.Slots.put.Goals as goal

pub returns-clause-items : goal.returns-clause-items
returns-clause-items g c = rw (← c.self.view_is) (values-put c.self.inside.list.items c.put_at.new.list.items c.args.at (Some c.args.value) c.put_at.ensures.items)
