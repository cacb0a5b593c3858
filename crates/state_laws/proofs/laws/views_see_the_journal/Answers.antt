use Rattle.std.proofs.Common.{ap, sym}
use Rattle.std.proofs.Math.Seq.{take-length}
use Rattle.ha_journal.specs.Helpers.{known}
use Rattle.state_laws.proofs.SeenLemmas.{parts_see, scripts_see}
use Rattle.state_laws.proofs.laws.views_see_the_journal.Goals as goal

pub returns-clause-parts : goal.returns-clause-parts
returns-clause-parts c = λ v j is. parts_see v.states.now v.numbers.now v.config.now v.zone.now v.at j is

pub returns-clause-whole : goal.returns-clause-whole
returns-clause-whole c = λ v j named is same. scripts_see v.states.now v.numbers.now v.config.now v.zone.now v.at j named (known j) is same (sym (ap known (take-length j)))
