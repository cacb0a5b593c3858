-- Records by passes over the whole journal: admission place by place, then the ends, then begins and calls. They are those of the fold, as
-- a law says; what earlier places tell is seen to stay here more easily than along the fold.
use Rattle.std.specs.Prelude.{ℕ, zero, suc, false, ◌&&◌, nat_eq, nat_lt, List, [], ◌∷◌, ◌++◌, length, map, Option, Some, None, option_map, if◌then◌else◌}
use Rattle.std.specs.Option.{option_map_or}
use Rattle.ha_config.specs.Words.{or_else}
use Rattle.ha_journal.specs.declared.entry.Entry.{Entry}
use Rattle.ha_journal.specs.Journal.{Journal, through, last_place, more, units}
use Rattle.ha_journal.specs.Attempts.{Attempt, passing}
use Rattle.ha_model.specs.declared.record.EndCause.{EndCause}
use Rattle.ha_model.specs.declared.record.Record.{Record}
use Rattle.ha_model.specs.Records.{Records, mode_of, own_cause, is_restart_mode, next_place, lets_in_after, new_record, last_record, begin_of, calls_of}

-- the last entry does so, where it stands after the record's place
abbrev pub own_end : Journal → Record → Option EndCause
own_end j r = if nat_lt r.place (last_place j) then own_cause j r else None

-- in mode restart it ends at the place of the next record of its automation
abbrev pub replaced : Journal → Record → Option ℕ → Option EndCause
replaced j r next =
    if is_restart_mode (mode_of (units j) r.automation) && option_map_or (λ p. nat_eq p (last_place j)) next false
    then Some EndCause.Replaced
    else None

-- its end at the last entry, if it ends there; `next` is the place of the next record of its automation
abbrev pub end_here : Journal → Record → Option ℕ → Option (ℕ × EndCause)
end_here j r next = option_map (λ cause. (last_place j, cause)) (or_else (own_end j r) (replaced j r next))

-- its end at the first place below n at which it ends, if there is one
abbrev pub end_below : Journal → Record → Option ℕ → ℕ → Option (ℕ × EndCause)
end_below j r next zero = None
end_below j r next (suc p) = or_else (end_below j r next p) (end_here (through j p) r next)

-- each record with its end in the journal
abbrev pub with_ends : Journal → Records → Records
with_ends j [] = []
with_ends j (r ∷ rs) = record r { end = end_below j r (next_place r.automation rs) (length j) } ∷ with_ends j rs

-- the records, and then those of the attempts of the last entry that are admitted in turn, each by the ends up to this entry
abbrev pub admitted : Journal → Records → List (ℕ × Attempt) → Records
admitted j before [] = before
admitted j before (x ∷ xs) = admitted j
    (if lets_in_after (units j) (with_ends j before) x.1.automation then before ++ (new_record j before x ∷ []) else before)
    xs

-- the records of all attempts admitted at places below n, as yet without begin, end and calls
abbrev pub bare_below : Journal → ℕ → Records
bare_below j zero = []
bare_below j (suc p) = admitted (through j p) (bare_below j p) (passing (through j p))

abbrev pub bare : Journal → Records
bare j = bare_below j (length j)

-- each record with its begin and calls; `before` has the records before them, the last one first
abbrev pub with_begins : Journal → Records → Records → Records
with_begins j before [] = []
with_begins j before (r ∷ rs) =
    record r { begin = begin_of (mode_of (units j) r.automation) (last_record r.automation before) r; calls = calls_of j r.serial }
    ∷ with_begins j (r ∷ before) rs

-- the records with their ends
abbrev pub ended : Journal → Records
ended j = with_ends j (bare j)

abbrev pub by_passes : Journal → Records
by_passes j = with_begins j [] (ended j)

-- ---- with one more entry

-- each record that has no end gets the one that the last entry gives it
abbrev pub end_now : Journal → Records → Records
end_now j [] = []
end_now j (r ∷ rs) = record r { end = or_else r.end (end_here j r (next_place r.automation rs)) } ∷ end_now j rs

-- the attempts of the last entry are looked at in turn; one that is admitted adds a record, and ends the one that it replaces
abbrev pub admit_now : Journal → Records → List (ℕ × Attempt) → Records
admit_now j rs [] = rs
admit_now j rs (x ∷ xs) =
    admit_now j (if lets_in_after (units j) rs x.1.automation then end_now j (rs ++ (new_record j rs x ∷ [])) else rs) xs

-- the records without their begins and calls
abbrev pub no_begins : Records → Records
no_begins rs = map {A = Record} {B = Record} (λ r. record r { begin = None; calls = 0 }) rs

abbrev pub passes_after : Journal → Records → Entry → Records
passes_after j rs x = with_begins (more j x) [] (admit_now (more j x) (end_now (more j x) (no_begins rs)) (passing (more j x)))
