use Rattle.engine_parts.proofs.SlotTables.{value-got, values-put}
use Rattle.std.specs.Prelude.{None}
use Rattle.engine_parts.proofs.slots.Slots.take.Goals as goal

pub returns-clause-taken : goal.returns-clause-taken
returns-clause-taken g c = rw (← c.self.view_is) (value-got c.self.inside.list.items c.args.at c.take_at.result c.take_at.ensures.taken)

pub returns-clause-rest : goal.returns-clause-rest
returns-clause-rest g c = rw (← c.self.view_is) (values-put c.self.inside.list.items c.take_at.new.list.items c.args.at None c.take_at.ensures.rest)
