use Rattle.std.proofs.Common.{◌≡◌, List, take}
use Rattle.ha_config.specs.declared.config.Automation.{Automation}
use Rattle.ha_config.specs.Names.{names_of}
use Rattle.unit_book.specs.Book.{AreAt}
use Rattle.unit_book.proofs.grown.names_at.Given as goal

abbrev pub invariant-origins : goal.invariant-origins
invariant-origins l = (us : List Automation) → AreAt l.journal l.origins us → l.names ≡ take l.at (names_of us)
