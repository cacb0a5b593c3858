-- Who is rested behind one more entry.
use Rattle.std.specs.Prelude.{◌≡◌, ℕ, suc, Bool, true, false, ◌||◌, ◌<◌, ◌≤◌, nat_eq, slice_get, length}
use Rattle.std.specs.Prelude.{List, [], ◌∷◌, Option, Some, None, option_map, if◌then◌else◌}
use Rattle.std.specs.Option.{option_map_or}
use Rattle.ha_journal.specs.declared.entry.Entry.{Entry}
use Rattle.ha_journal.specs.Entries.{line_of}
use Rattle.ha_journal.specs.Journal.{Journal}
use Rattle.ha_model.specs.Records.{Records}
use Rattle.ha_model.specs.Lawful.{is_rested}

-- the flag of source k, where the entry is a line of that source, or of none, and the journal is quiet behind it, or not
abbrev pub flag_after : Option ℕ → Bool → ℕ → Bool → Bool
flag_after source quiet k flag = (if option_map_or (λ s. nat_eq s k) source false then false else flag) || quiet

-- the flags of the sources from n on
abbrev pub flags_from : Option ℕ → Bool → ℕ → List Bool → List Bool
flags_from source quiet n [] = []
flags_from source quiet n (f ∷ fs) = flag_after source quiet n f ∷ flags_from source quiet (suc n) fs

-- the source whose line an entry is
abbrev pub source_of : Entry → Option ℕ
source_of x = option_map (λ l. l.source) (line_of x)

-- the source of a line is one of the first 16
abbrev pub IsKnown : Option ℕ → Type 0
IsKnown None = Unit {0}
IsKnown (Some source) = source < 16

-- the flags of sources 0 to 15 say who is rested; no other source has a line
pub record RestedKept (j : Journal) (rs : Records) (flags : List Bool) : Type 0 where
  pub count : length flags ≡ 16
  pub known : (k : ℕ) → k < 16 → slice_get flags k ≡ Some (is_rested rs k j)
  pub others : (k : ℕ) → 16 ≤ k → is_rested rs k j ≡ true
