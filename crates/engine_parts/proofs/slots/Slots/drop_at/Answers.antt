use Rattle.std.specs.Prelude.{None}
use Rattle.engine_parts.proofs.SlotTables.{values-put}
use Rattle.engine_parts.proofs.slots.Slots.drop_at.Goals as goal

pub returns-then-at-len-clause-items : goal.returns-then-at-len-clause-items
returns-then-at-len-clause-items g c = rw (← c.self.view_is) (λ _. values-put c.self.inside.list.items c.put_at.new.list.items c.args.at None c.put_at.ensures.items)
