use Rattle.switch_book.proofs.StoredLaws.{found-in_name_order, ordered-in_name_order}
use Rattle.switch_book.proofs.laws.stored_switches_are_read.Goals as goal

pub returns-clause-found : goal.returns-clause-found
returns-clause-found c = found-in_name_order

pub returns-clause-order : goal.returns-clause-order
returns-clause-order c = λ s h. ordered-in_name_order s h
