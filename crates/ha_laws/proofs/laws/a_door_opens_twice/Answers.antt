use Rattle.ha_laws.proofs.ModeTests as tests
use Rattle.ha_laws.proofs.laws.a_door_opens_twice.Goals as goal

pub returns-clause-restart : goal.returns-clause-restart
returns-clause-restart c = tests.restarted

pub returns-clause-single : goal.returns-clause-single
returns-clause-single c = tests.single

pub returns-clause-queued : goal.returns-clause-queued
returns-clause-queued c = tests.queued

pub returns-clause-queued_then : goal.returns-clause-queued_then
returns-clause-queued_then c = tests.then_off
