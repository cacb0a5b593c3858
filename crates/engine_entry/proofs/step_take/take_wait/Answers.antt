use Rattle.engine_entry.proofs.step_take.take_wait.Goals as goal

pub attach_wait-requires-clause-free : goal.attach_wait-requires-clause-free
attach_wait-requires-clause-free c = c.requires.taken.free c.in-Some.ask c.in-Some.is
