use Rattle.switch_book.proofs.SwitchLaws.{boot-stands, each-set, more-stands, named-one, reload-stands}
use Rattle.switch_book.proofs.laws.switches_of_one_more.Goals as goal

pub returns-clause-boot : goal.returns-clause-boot
returns-clause-boot c = boot-stands

pub returns-clause-more : goal.returns-clause-more
returns-clause-more c = more-stands

pub returns-clause-reload : goal.returns-clause-reload
returns-clause-reload c = reload-stands

pub returns-clause-named : goal.returns-clause-named
returns-clause-named c = named-one

pub returns-clause-each : goal.returns-clause-each
returns-clause-each c = each-set
