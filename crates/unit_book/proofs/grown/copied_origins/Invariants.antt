use Rattle.std.proofs.Common.{◌≡◌, take}
use Rattle.unit_book.proofs.grown.copied_origins.Given as goal

abbrev pub invariant-origins : goal.invariant-origins
invariant-origins l = l.made.items ≡ take l.at l.origins
