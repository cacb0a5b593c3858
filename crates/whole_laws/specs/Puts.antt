-- What one put appends first.
use Rattle.std.specs.Prelude.{◌≡◌, None}
use Rattle.ha_journal.specs.declared.entry.Entry.{Entry}
use Rattle.ha_journal.specs.Entries.{again_in, IsBoot}

-- a line or a step
pub record IsPut (x : Entry) : Type 0 where
  pub none : again_in x ≡ None
  pub not_boot : IsBoot x → ⊥
