use Rattle.ha_journal.proofs.SinceLaws.{on-kept}
use Rattle.reload_laws.proofs.SameForce.{force-same}
use Rattle.reload_laws.proofs.SameSight.{known-same, sight-same, since-same}
use Rattle.reload_laws.proofs.SameTriggers.{attempts-same, fires-same, holds-same, new-same, records-same, runs-same}
use Rattle.reload_laws.proofs.laws.the_same_text_changes_nothing.Goals as goal

pub returns-clause-force : goal.returns-clause-force
returns-clause-force c j x s = force-same j x s.config s.some s.reloads s.sound s.alike

pub returns-clause-switches : goal.returns-clause-switches
returns-clause-switches c j x s a lt = on-kept j x s.config a s.some s.reloads lt

pub returns-clause-on_since : goal.returns-clause-on_since
returns-clause-on_since c j x s a lt = since-same j x s.config s.some s.reloads a lt

pub returns-clause-known_since : goal.returns-clause-known_since
returns-clause-known_since c j x s name = known-same j x s.config s.some s.reloads s.sound s.alike name

pub returns-clause-seen : goal.returns-clause-seen
returns-clause-seen c j x s = sight-same j x s.config s.some s.reloads s.sound s.alike

pub returns-clause-fires : goal.returns-clause-fires
returns-clause-fires c j x s t e from = fires-same j x s t e from

pub returns-clause-attempted : goal.returns-clause-attempted
returns-clause-attempted c j x s = attempts-same j x s

pub returns-clause-holds : goal.returns-clause-holds
returns-clause-holds c j x s t e from = holds-same j x s t e from

pub returns-clause-runs : goal.returns-clause-runs
returns-clause-runs c j x s n r found there = runs-same j x s n r found there

pub returns-clause-none_new : goal.returns-clause-none_new
returns-clause-none_new c j x s = new-same j x s

pub returns-clause-records : goal.returns-clause-records
returns-clause-records c j x rs s right = records-same j x s rs right
