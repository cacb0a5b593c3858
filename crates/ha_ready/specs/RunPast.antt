-- What the records tell of places that are past.
use Rattle.std.specs.Prelude.{◌≡◌, ℕ, ◌<◌, [], ◌∷◌, Option, Some, None}
use Rattle.ha_model.specs.declared.record.EndCause.{EndCause}
use Rattle.ha_model.specs.declared.record.Record.{Record}
use Rattle.ha_model.specs.Records.{Records}

-- a begin, and an end, if there is one, stands before place n
abbrev pub BeginBefore : ℕ → Option ℕ → Type 0
BeginBefore n None = Unit {0}
BeginBefore n (Some b) = b < n

abbrev pub EndBefore : ℕ → Option (ℕ × EndCause) → Type 0
EndBefore n None = Unit {0}
EndBefore n (Some e) = e.0 < n

-- the record tells of places before n alone
pub record IsPast (n : ℕ) (r : Record) : Type 0 where
  pub place : r.place < n
  pub begin : BeginBefore n r.begin
  pub end : EndBefore n r.end

-- all of them do
abbrev pub AllPast : ℕ → Records → Type 0
AllPast n [] = Unit {0}
AllPast n (r ∷ rs) = IsPast n r × AllPast n rs

-- the same run, by its script
pub record SameScript (r r' : Record) : Type 0 where
  pub serial : r.serial ≡ r'.serial
  pub automation : r.automation ≡ r'.automation
  pub env : r.env ≡ r'.env
