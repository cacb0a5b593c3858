-- What the sources gave so far, by what a segment took over and its own entries.
use Rattle.std.specs.Prelude.{ℕ, ◌+◌, Bool, false, ◌||◌, List, [], nat_eq, map, filter, count_by, slice_index, slice_index_or}
use Rattle.std.specs.List.{list_any}
use Rattle.ha_config.specs.Words.{up_to}
use Rattle.ha_journal.specs.declared.carry.Carry.{Carry}
use Rattle.ha_journal.specs.declared.entry.Entry.{Entry}
use Rattle.ha_journal.specs.declared.entry.Entry.TheVariants.{Boot, Line, Step, Again}
use Rattle.ha_journal.specs.Entries.{first_carry}
use Rattle.ha_model.specs.Lawful.{is_line_of, shuts}

-- what an opening takes over
abbrev pub carry_in : Entry → Carry
carry_in (Boot text config stored start zone carry) = carry
carry_in (Again number start stored carry) = carry
carry_in (Line source number cmd) = first_carry []
carry_in (Step worker serial branch item) = first_carry []

-- how many lines each source gave, where it gave so many before these entries
abbrev pub lines_with : List ℕ → List Entry → List ℕ
lines_with before entries = map (λ k. slice_index before k + count_by (is_line_of k) entries) (up_to 16)

-- which sources have no further line, where these had none before
abbrev pub shut_with : List ℕ → List Entry → List ℕ
shut_with before entries = filter (λ k. list_any (nat_eq k) before || list_any (shuts k) entries) (up_to 16)

-- the flag at a place; where there is none it is false
abbrev pub is_true_at : List Bool → ℕ → Bool
is_true_at flags k = slice_index_or flags k false
