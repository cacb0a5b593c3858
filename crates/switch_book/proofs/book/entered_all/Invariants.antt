use Rattle.std.proofs.Common.{◌≡◌, ◌++◌}
use Rattle.std.specs.Prelude.{zip}
use Rattle.switch_book.specs.Book.{reloaded}
use Rattle.switch_book.proofs.BookLemmas.{behind_at}
use Rattle.switch_book.proofs.book.entered_all.Given as goal

abbrev pub invariant-automations : goal.invariant-automations
invariant-automations l = l.made.items ++ behind_at l.switches l.numbers l.automations l.at ≡ reloaded l.switches (zip l.numbers l.automations)
