use Rattle.std.proofs.Common.{◌≡◌, length}
use Rattle.switch_book.specs.Book.{Switch, reset}
use Rattle.switch_book.proofs.BookLemmas.{each_to}
use Rattle.switch_book.proofs.book.reset_all.Given as goal

abbrev pub invariant-switches : goal.invariant-switches
invariant-switches l = record {
  len : length l.switches.items ≡ length l.initial.switches.items;
  done : l.switches.items ≡ each_to {X = Switch} (reset l.automations) 0 l.at l.initial.switches.items;
}
