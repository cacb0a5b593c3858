-- What the templates of pending waits read.
use Rattle.std.specs.Prelude.{◌≡◌, ℕ, Bool, false, nat_eq, List, [], ◌∷◌, Option, Some, None, is_some, if◌then◌else◌}
use Rattle.event_bus.specs.Subjects.{Subject, by_read}
use Rattle.tpl_reads.specs.Reads.{Written}

-- owners of waits, each with what its template reads
abbrev pub Reads : Type 0
Reads = List (ℕ × Written)

-- what the template of an owner's wait reads, if it asks one
abbrev pub read_by : ℕ → Reads → Option Written
read_by owner [] = None
read_by owner (x ∷ xs) = if nat_eq owner x.0 then Some x.1 else read_by owner xs

-- the owner's wait asks a template
abbrev pub is_reader : Reads → ℕ → Bool
is_reader reads owner = is_some (read_by owner reads)

-- the subject concerns one whose template reads this
abbrev pub hears : Subject → Option Written → Bool
hears s None = false
hears s (Some read) = by_read read s

-- each owner is known for exactly what its template reads
abbrev pub AreIndexed : Reads → (Subject → ℕ → Bool) → Type 0
AreIndexed reads known = (s : Subject) (n : ℕ) → known s n ≡ hears s (read_by n reads)
