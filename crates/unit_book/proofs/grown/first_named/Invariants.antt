use Rattle.std.proofs.Common.{◌≡◌, ◌≤◌, drop, length}
use Rattle.unit_book.specs.Book.{first_from}
use Rattle.unit_book.proofs.grown.first_named.Given as goal

abbrev pub invariant-names : goal.invariant-names
invariant-names l = (first_from 0 l.name l.names ≡ first_from l.at l.name (drop l.at l.names)) × (l.at ≤ length l.names)
