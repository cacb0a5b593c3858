-- What the records are, in the words of the rules: which attempts have one, where each begins, and how it ends. (`records_of` makes
-- the same list entry by entry; a law says that the two agree.)
use Rattle.std.specs.Prelude.{ℕ, zero, suc, ◌≡◌, ◌⊎◌, Bool, true, false, not, ◌&&◌, nat_eq, nat_lt, nat_le, List, []}
use Rattle.std.specs.Prelude.{◌∷◌, ◌++◌, length, map, count_by, Option, Some, None, option_map, if◌then◌else◌}
use Rattle.std.specs.List.{list_any}
use Rattle.std.specs.Option.{option_map_or}
use Rattle.ha_config.specs.declared.config.Mode.{Mode}
use Rattle.ha_config.specs.declared.config.Automation.{Automation}
use Rattle.ha_model.specs.declared.record.EndCause.{EndCause}
use Rattle.ha_model.specs.declared.record.Record.{Record}
use Rattle.ha_config.specs.Names.{name_of}
use Rattle.ha_journal.specs.Journal.{Journal, through, units}
use Rattle.ha_journal.specs.Attempts.{Attempt, passing}
use Rattle.ha_model.specs.Records.{Records, mode_of, max_of, lets_in, ended_by_script, stops, is_dropped, last_is, is_restart_mode, next_place, begin_of, calls_of}
use Rattle.ha_journal.specs.Entries.{is_restart}
use Rattle.ha_config.specs.Words.{or_else, same}

-- ---- which attempts have a record

-- an attempt that passes, with the place of its entry and its order there
pub record Tried : Type 0 where
  pub place : ℕ
  pub order : ℕ
  pub attempt : Attempt

abbrev pub tried_at : ℕ → ℕ × Attempt → Tried
tried_at p x = record { place = p; order = x.0; attempt = x.1 }

-- those of the entries below place n, in order of place, and then of their order there
abbrev pub passing_below : Journal → ℕ → List Tried
passing_below j zero = []
passing_below j (suc p) = passing_below j p ++ map (tried_at p) (passing (through j p))

-- a record has ended by place p
abbrev pub has_ended_by : ℕ → Record → Bool
has_ended_by p r = option_map_or (λ e. nat_le e.0 p) r.end false

abbrev pub is_unended : ℕ → ℕ → Record → Bool
is_unended a p r = nat_eq r.automation a && not (has_ended_by p r)

-- how many records of automation a have no end at a place up to p
abbrev pub unended_count : ℕ → ℕ → Records → ℕ
unended_count a p rs = count_by (is_unended a p) rs

-- an attempt is admitted by the mode of its unit and by how many earlier records of it have no end up to its place
abbrev pub is_admitted : List Automation → Records → Tried → Bool
is_admitted all before t =
    lets_in (mode_of all t.attempt.automation) (max_of all t.attempt.automation) (unended_count t.attempt.automation t.place before)

-- the record of an attempt, behind those before it; runs are numbered by the names of their units
pub record IsRecordOf (all : List Automation) (before : Records) (t : Tried) (r : Record) : Type 0 where
  pub serial : r.serial ≡ suc (length before)
  pub automation : r.automation ≡ t.attempt.automation
  pub number : r.number ≡ suc (count_by (λ x. same (name_of all x.automation) (name_of all t.attempt.automation)) before)
  pub place : r.place ≡ t.place
  pub order : r.order ≡ t.order
  pub env : r.env ≡ t.attempt.env

-- the units that were in force up to the place of an attempt
abbrev pub units_then : Journal → Tried → List Automation
units_then j t = units (through j t.place)

-- exactly the admitted ones of these attempts have these records, in order, behind those before them
abbrev pub HaveRecords : Journal → Records → List Tried → Records → Type 0
HaveRecords j before [] [] = Unit {0}
HaveRecords j before [] (r ∷ rs) = ⊥
HaveRecords j before (t ∷ ts) [] = (is_admitted (units_then j t) before t ≡ false) × HaveRecords j before ts []
HaveRecords j before (t ∷ ts) (r ∷ rs) =
    ((is_admitted (units_then j t) before t ≡ true) × IsRecordOf (units_then j t) before t r × HaveRecords j (before ++ (r ∷ [])) ts rs)
    ⊎ ((is_admitted (units_then j t) before t ≡ false) × HaveRecords j before ts (r ∷ rs))

-- ---- how a record ends

-- after its own place, an entry ends it that turns its automation off and stops its runs, or ends the runs of its script; and so does a
-- Restart, and a Reload behind which its unit is not in force
abbrev pub outer_cause : Journal → Record → Option EndCause
outer_cause k r =
    if last_is (stops (units k) r.automation) k then Some EndCause.SwitchedOff
    else if last_is is_restart k then Some EndCause.Restarted
    else if is_dropped k r.automation then Some EndCause.Reloaded
    else None

-- why it ends at place p, if it does: its Step there ends its script; or one of those three does; or, in mode restart, the next record of its
-- automation has this place
abbrev pub cause_at : Journal → Record → Option ℕ → ℕ → Option EndCause
cause_at j r next p = or_else (ended_by_script (through j p) r) (or_else
    (if nat_lt r.place p then outer_cause (through j p) r else None)
    (if is_restart_mode (mode_of (units (through j p)) r.automation) && option_map_or (λ q. nat_eq q p) next false
    then Some EndCause.Replaced else None))

-- the first place below n at which there is something
abbrev pub first_below : {X : Type 0} → (ℕ → Option X) → ℕ → Option (ℕ × X)
first_below at zero = None
first_below at (suc p) = or_else (first_below at p) (option_map (λ x. (p, x)) (at p))

-- ---- where a record begins

-- the last record of automation a
abbrev pub last_among : ℕ → Records → Option Record
last_among a [] = None
last_among a (r ∷ rs) = or_else (last_among a rs) (if nat_eq r.automation a then Some r else None)

-- where the other one ends, unless its own end is there or earlier
abbrev pub begins_behind : Option (ℕ × EndCause) → Option (ℕ × EndCause) → Option ℕ
begins_behind own None = None
begins_behind own (Some e) = if option_map_or (λ x. nat_le x.0 e.0) own false then None else Some e.0

-- at its place; but in mode queued, where an earlier record of its automation has not ended by that place, at the end of the record of its
-- automation just before it, unless it ends there or earlier itself: then it never begins
abbrev pub told_begin : Mode → Records → Record → Option ℕ
told_begin Mode.Single before r = Some r.place
told_begin Mode.Restart before r = Some r.place
told_begin Mode.Parallel before r = Some r.place
told_begin Mode.Queued before r =
    if list_any (is_unended r.automation r.place) before
    then begins_behind r.end (option_map_or (λ x. x.end) (last_among r.automation before) None)
    else Some r.place

-- ---- all of it

-- a record between those before it and those behind it
pub record IsTold (j : Journal) (before : Records) (r : Record) (behind : Records) : Type 0 where
  pub begin : r.begin ≡ told_begin (mode_of (units j) r.automation) before r
  pub end : r.end ≡ first_below (cause_at j r (next_place r.automation behind)) (length j)
  pub calls : r.calls ≡ calls_of j r.serial

abbrev pub AreTold : Journal → Records → Records → Type 0
AreTold j before [] = Unit {0}
AreTold j before (r ∷ rs) = IsTold j before r rs × AreTold j (before ++ (r ∷ [])) rs

-- the records of a journal, by the rules
pub record ByTheRules (j : Journal) (rs : Records) : Type 0 where
  pub admitted : HaveRecords j [] (passing_below j (length j)) rs
  pub told : AreTold j [] rs

-- each begin is also told by the record of its automation just before it alone: in mode queued it is the same to ask whether an earlier
-- one has not ended and whether this one has not
abbrev pub AreNear : Journal → Records → Records → Type 0
AreNear j before [] = Unit {0}
AreNear j before (r ∷ rs) =
    (r.begin ≡ begin_of (mode_of (units j) r.automation) (last_among r.automation before) r) × AreNear j (before ++ (r ∷ [])) rs
