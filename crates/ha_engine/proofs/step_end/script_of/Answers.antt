use Rattle.ha_journal.specs.Force.{force}
use Rattle.ha_engine.proofs.ActsLemmas.{holds-acts}
use Rattle.ha_engine.proofs.step_end.script_of.Goals as goal

pub returns-clause-script : goal.returns-clause-script
returns-clause-script c = c.actions.ensures (force c.args.journal.now) c.known.ensures

pub returns-clause-sound : goal.returns-clause-sound
returns-clause-sound c = holds-acts c.known.result.0.now (force c.args.journal.now) c.known.result.1.now c.known.ensures c.args.unit
