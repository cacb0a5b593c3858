-- The units by their names, where runs are numbered by them.
use Rattle.std.specs.Prelude.{◌≡◌, ◌<◌, ℕ, List, [], ◌∷◌, filter, length, nat_eq}
use Rattle.ha_config.specs.Words.{up_to}
use Rattle.ha_journal.specs.Journal.{Journal, names}
use Rattle.named_runs.specs.Named.{first_in}
use Rattle.unit_book.specs.Book.{firsts_of}
use Rattle.ha_engine.specs.declared.admit.Prepared.{Prepared}

-- for each unit of the journal the first one of its name
abbrev pub AreFirsts : Journal → List ℕ → Type 0
AreFirsts k firsts = firsts ≡ firsts_of (names k)

-- each attempt is of one of so many units
abbrev pub AreKnown : ℕ → List Prepared → Type 0
AreKnown n [] = Unit {0}
AreKnown n (p ∷ ps) = (p.automation < n) × AreKnown n ps

-- the units that have the name of unit a
abbrev pub named_as : List ℕ → ℕ → List ℕ
named_as firsts a = filter (λ b. nat_eq (first_in firsts b) (first_in firsts a)) (up_to (length firsts))
