use Rattle.std.proofs.Common.{◌≡◌, ℕ, take}
use Rattle.std.specs.Prelude.{not, unwrap_or, zip}
use Rattle.std.specs.List.{list_any}
use Rattle.ha_config.specs.declared.config.Automation.{Automation}
use Rattle.ha_config.specs.Equal.{same_flag}
use Rattle.ha_journal.specs.Journal.{Journal, in_force}
use Rattle.ha_journal.specs.Switches.{is_on}
use Rattle.switch_book.specs.Book.{StandsFor}
use Rattle.ha_engine.proofs.restart.moves_any.Given as goal

abbrev pub invariant-rules : goal.invariant-rules
invariant-rules l =
    (j : Journal) → StandsFor l.switches j → zip l.numbers l.rules ≡ in_force j
    → l.changed ≡ list_any (λ (p : ℕ × Automation). not (same_flag (is_on j p.0) (unwrap_or p.1.initial (is_on j p.0)))) (take l.at (in_force j))
