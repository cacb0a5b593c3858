use Rattle.ha_laws.proofs.HoldTests.{number-too-soon, number-fires, template-ended, template-fires, attribute-too-soon, attribute-fires}
use Rattle.ha_laws.proofs.laws.holds_over_a_gone.Goals as goal

pub returns-clause-number : goal.returns-clause-number
returns-clause-number c = (number-too-soon, number-fires)

pub returns-clause-template : goal.returns-clause-template
returns-clause-template c = (template-ended, template-fires)

pub returns-clause-attribute : goal.returns-clause-attribute
returns-clause-attribute c = (attribute-too-soon, attribute-fires)
