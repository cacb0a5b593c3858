-- Entries of a journal, by their workers.
use Rattle.std.specs.Prelude.{ℕ, ◌+◌, ◌==◌, ◌≡◌, Bool, false, cond, List, [], ◌∷◌}
use Rattle.ha_journal.specs.declared.entry.Entry.{Entry}
use Rattle.ha_journal.specs.declared.entry.Entry.TheVariants.{Boot, Line, Step, Again}
use Rattle.ha_journal.specs.Journal.{Journal}
use Rattle.ha_whole.specs.Whole.{is_quiet, records_of}

-- the entry is a line of source k, or a step of worker k
abbrev pub is_of : ℕ → Entry → Bool
is_of k (Boot text config stored start zone carry) = false
is_of k (Again number start stored carry) = false
is_of k (Line source number cmd) = source == k
is_of k (Step worker serial branch item) = worker == k

-- the entries of worker k, each with its place; the first has the place n
abbrev pub placed : ℕ → ℕ → List Entry → List (ℕ × Entry)
placed k n [] = []
placed k n (e ∷ es) = cond (is_of k e) ((n, e) ∷ placed k (n + 1) es) (placed k (n + 1) es)

-- some run of the journal is ready to step
abbrev pub IsRestless : Journal → Type 0
IsRestless j = is_quiet (records_of j) j ≡ false
