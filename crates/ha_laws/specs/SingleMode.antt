-- What a line that ends nobody does to the records, where all units are of mode single.
use Rattle.std.specs.Prelude.{ℕ, ◌+◌, ◌≡◌, List, [], ◌∷◌, ◌++◌, length, Some}
use Rattle.std.specs.Prelude.{option_map, nat_eq, cond, if◌then◌else◌}
use Rattle.ha_config.specs.declared.config.Mode.{Mode}
use Rattle.ha_model.specs.declared.record.Record.{Record}
use Rattle.ha_journal.specs.Journal.{Journal, units}
use Rattle.ha_journal.specs.Attempts.{Attempt}
pub use Rattle.ha_config.specs.Fair.{IsPlain}
pub use Rattle.ha_sight.specs.Items.{EndsNone}
use Rattle.ha_model.specs.Records.{Records, mode_of, live_count, new_record}
use Rattle.ha_config.specs.Words.{or_else}
use Rattle.ha_sight.specs.Items.{is_call}
use Rattle.ha_sight.specs.Scripts.{Branch}
use Rattle.ha_sight.specs.declared.item.Item.{Item}
use Rattle.ha_model.specs.NextPlace.{next_end}
use Rattle.ha_model.specs.declared.record.EndCause.{EndCause}

-- all units are of mode single
abbrev pub AllSingle : Journal → Type 0
AllSingle j = (a : ℕ) → mode_of (units j) a ≡ Mode.Single

-- admission in mode single: the new record begins at once
abbrev pub started : Record → Record
started r = record r { begin = Some r.place }

abbrev pub admit_started : Journal → Records → List (ℕ × Attempt) → Records
admit_started k rs [] = rs
admit_started k rs (x ∷ xs) =
    admit_started k (if nat_eq (live_count x.1.automation rs) 0 then rs ++ (started (new_record k rs x) ∷ []) else rs) xs

-- the record of the run that makes a step
abbrev pub with_step : Journal → Branch → Item → Record → Record
with_step j branch item r =
    record r {
      end = or_else r.end
          (option_map {T = EndCause} (λ c. (length j, c)) (next_end j r branch));
      calls = r.calls + cond (is_call item) 1 0;
    }

abbrev pub step_all : Journal → ℕ → Branch → Item → Records → Records
step_all j serial branch item [] = []
step_all j serial branch item (r ∷ rs) =
    (if nat_eq serial r.serial then with_step j branch item r else r) ∷ step_all j serial branch item rs
