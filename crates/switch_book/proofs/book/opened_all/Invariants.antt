use Rattle.std.proofs.Common.{◌≡◌, ◌++◌}
use Rattle.std.specs.Option.{option_copied}
use Rattle.switch_book.specs.Book.{restored}
use Rattle.switch_book.proofs.BookLemmas.{left_at}
use Rattle.switch_book.proofs.book.opened_all.Given as goal

abbrev pub invariant-automations : goal.invariant-automations
invariant-automations l = l.switches.items ++ left_at (option_copied l.stored) l.automations l.at ≡ restored (option_copied l.stored) l.automations
