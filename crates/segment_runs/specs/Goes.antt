-- A table of runs that goes on behind the records of closed segments.
use Rattle.std.specs.Prelude.{◌≡◌, ◌≤◌, ◌+◌, ℕ, false, is_none, [], ◌∷◌, length, map, option_map}
use Rattle.ha_model.specs.declared.record.Record.{Record}
use Rattle.ha_model.specs.Records.{Records}

-- a record moved by so many entries and runs, and by so many runs of its unit's name
abbrev pub moved : ℕ → ℕ → (ℕ → ℕ) → Record → Record
moved n base num r = record r {
  serial = base + r.serial;
  number = num r.automation + r.number;
  place = n + r.place;
  begin = option_map (λ p. n + p) r.begin;
  end = option_map (λ e. (n + e.0, e.1)) r.end;
}

abbrev pub moved_all : ℕ → ℕ → (ℕ → ℕ) → Records → Records
moved_all n base num rs = map {A = Record} {B = Record} (moved n base num) rs

-- all have ended
abbrev pub AllEnded : Records → Type 0
AllEnded [] = Unit {0}
AllEnded (r ∷ rs) = (is_none r.end ≡ false) × AllEnded rs

-- none has a serial over n
abbrev pub SerialsTo : ℕ → Records → Type 0
SerialsTo n [] = Unit {0}
SerialsTo n (r ∷ rs) = (r.serial ≤ n) × SerialsTo n rs

-- both count alike for the unit of each
abbrev pub CountAlike : (ℕ → ℕ) → (ℕ → ℕ) → Records → Type 0
CountAlike num new [] = Unit {0}
CountAlike num new (r ∷ rs) = (num r.automation ≡ new r.automation) × CountAlike num new rs

-- a table goes on behind these: they have ended, and the base is how many there are
pub record GoesOn (base : ℕ) (c : Records) : Type 0 where
  pub ended : AllEnded c
  pub serials : base ≡ length c
