use Rattle.ha_engine.proofs.engine.Machine.append_reload.Goals as goal

pub append_kept-requires-clause-switches : goal.append_kept-requires-clause-switches
append_kept-requires-clause-switches c = c.in-Ok.ensures.switches

pub append_kept-requires-clause-moments : goal.append_kept-requires-clause-moments
append_kept-requires-clause-moments c = c.in-Ok.ensures.moments
