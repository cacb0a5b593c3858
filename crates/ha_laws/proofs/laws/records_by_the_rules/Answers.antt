use Rattle.ha_laws.proofs.ToldBegins.{by-the-rules, by-the-one-before}
use Rattle.ha_laws.proofs.ToldExactly.{exactly}
use Rattle.ha_laws.proofs.laws.records_by_the_rules.Goals as goal

pub returns-clause-rules : goal.returns-clause-rules
returns-clause-rules c = by-the-rules

pub returns-clause-only : goal.returns-clause-only
returns-clause-only c = exactly

pub returns-clause-near : goal.returns-clause-near
returns-clause-near c = by-the-one-before
