use Rattle.std.proofs.Common.{◌≡◌, ◌++◌, take}
use Rattle.unit_book.specs.Book.{brought}
use Rattle.unit_book.proofs.grown.add_origins.Given as goal

abbrev pub invariant-numbers : goal.invariant-numbers
invariant-numbers l = l.origins.items ≡ l.initial.origins.items ++ brought l.latest l.free 0 (take l.at l.numbers)
