use Rattle.std.proofs.Common.{◌≡◌, take}
use Rattle.std.specs.Prelude.{Some}
use Rattle.ha_config.specs.declared.config.Config.{Config}
use Rattle.unit_book.specs.Book.{config_at, listed_in}
use Rattle.unit_book.proofs.grown.listed_at.Given as goal

abbrev pub invariant-names : goal.invariant-names
invariant-names l = (c : Config) → config_at l.journal l.latest ≡ Some c → l.listed.items ≡ take l.at (listed_in c l.names)
