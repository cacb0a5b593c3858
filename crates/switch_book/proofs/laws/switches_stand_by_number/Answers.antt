use Rattle.switch_book.proofs.SwitchLaws.{names-of-journal, numbers-of-journal, pairs-of-journal, switch-of-journal}
use Rattle.switch_book.proofs.laws.switches_stand_by_number.Goals as goal

pub returns-clause-switch : goal.returns-clause-switch
returns-clause-switch c = switch-of-journal

pub returns-clause-numbers : goal.returns-clause-numbers
returns-clause-numbers c = numbers-of-journal

pub returns-clause-names : goal.returns-clause-names
returns-clause-names c = names-of-journal

pub returns-clause-pairs : goal.returns-clause-pairs
returns-clause-pairs c = pairs-of-journal
