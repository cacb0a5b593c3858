use Rattle.std.proofs.Common.{◌≡◌, take}
use Rattle.unit_book.specs.Book.{firsts_of}
use Rattle.unit_book.proofs.grown.firsts_of.Given as goal

abbrev pub invariant-names : goal.invariant-names
invariant-names l = l.firsts.items ≡ take l.at (firsts_of l.names)
