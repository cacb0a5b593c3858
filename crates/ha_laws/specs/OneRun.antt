-- Records of which at most the last one runs, and that one since the last entry.
use Rattle.std.specs.Prelude.{ℕ, ◌≡◌, Bool, true, false, nat_lt, [], ◌∷◌, ◌++◌, length, Some, None}
use Rattle.std.specs.Option.{option_map_or}
use Rattle.ha_config.specs.declared.command.Cmd.{Cmd}
use Rattle.ha_journal.specs.declared.entry.Entry.TheVariants.{Line}
use Rattle.ha_model.specs.declared.record.Record.{Record}
use Rattle.ha_journal.specs.Journal.{Journal}
use Rattle.ha_model.specs.Records.{Records, spots, calls_of}

-- the run's end stands before place n; each one's does
abbrev pub has_ended : ℕ → Record → Bool
has_ended n r = option_map_or (λ e. nat_lt e.0 n) r.end false

abbrev pub AllEnded : ℕ → Records → Type 0
AllEnded n [] = Unit {0}
AllEnded n (r ∷ rs) = (has_ended n r ≡ true) × AllEnded n rs

-- the last run alone is live: it began at the last entry, a line of source k, and has made no step
pub record IsBegun (k : ℕ) (j : Journal) (records : Records) : Type 0 where
  pub earlier : Records
  pub run : Record
  pub records_are : records ≡ earlier ++ (run ∷ [])
  pub ended : AllEnded (length j) earlier
  pub before : Journal
  pub number : ℕ
  pub cmd : Cmd
  pub line : j ≡ before ++ (Line k number cmd ∷ [])
  pub begin : run.begin ≡ Some (length before)
  pub live : run.end ≡ None
  pub no_step : spots j run.serial ≡ []
  pub no_call : calls_of j run.serial ≡ 0
  pub none_counted : run.calls ≡ 0

-- the same units and numbers, with perhaps more runs behind them
abbrev pub SameNumbers : Records → Records → Type 0
SameNumbers [] rs' = Unit {0}
SameNumbers (r ∷ rs) [] = ⊥
SameNumbers (r ∷ rs) (r' ∷ rs') = (r.automation ≡ r'.automation) × (r.number ≡ r'.number) × SameNumbers rs rs'
