use Rattle.std.proofs.Common.{◌≡◌, drop}
use Rattle.switch_book.specs.Book.{are_placed}
use Rattle.switch_book.proofs.book.are_placed.Given as goal

abbrev pub invariant-switches : goal.invariant-switches
invariant-switches l = are_placed l.places l.at (drop l.at l.switches) ≡ are_placed l.places 0 l.switches
