-- A whole journal: its records, which journals are right and which are lawful, by what its segments are, each read alone.
use Rattle.std.specs.Prelude.{ℕ, suc, ◌+◌, ◌-◌, ◌≡◌, ◌<◌, ◌≤◌, ◌⊎◌, Bool, true, false, not, ◌&&◌, ◌||◌, nat_eq, List, [], ◌∷◌, ◌++◌, length, take, drop, replicate}
use Rattle.std.specs.Prelude.{map, filter, count_by, Option, Some, None, option_map, is_some, if◌then◌else◌}
use Rattle.std.specs.List.{list_any, list_all}
use Rattle.std.specs.Option.{option_map_or}
use Rattle.ha_config.specs.declared.config.Automation.{Automation}
use Rattle.ha_journal.specs.declared.carry.Carry.{Carry}
use Rattle.ha_journal.specs.declared.entry.Entry.{Entry}
use Rattle.ha_journal.specs.declared.entry.Entry.TheVariants.{Boot, Line, Step, Again}
use Rattle.ha_model.specs.declared.record.Record.{Record}
use Rattle.ha_config.specs.Words.{Text, same, up_to, EachAfter, EachWith}
use Rattle.ha_whole.specs.Named.{in_name_order, are_in_name_order, last_of_each}
use Rattle.ha_journal.specs.Commands.{lets_reload}
use Rattle.ha_journal.specs.Entries.{boot_of, is_again, is_reload, is_restart}
use Rattle.ha_config.specs.Equal.{same_flag}
use Rattle.ha_journal.specs.Journal.{Journal, now, more, units}
use Rattle.ha_config.specs.Names.{name_of, automation_named}
use Rattle.ha_journal.specs.States.{switches_of}
use Rattle.ha_sight.specs.Scripts.{Branch}
use Rattle.ha_model.specs.Records as one
use Rattle.ha_model.specs.Records.{Records, last_is}
use Rattle.ha_whole.specs.Lasts.{lasts}
use Rattle.ha_model.specs.Lawful as alone
use Rattle.ha_model.specs.Lawful.{is_line_of, shuts, is_by_worker_0, pick}
use Rattle.ha_journal.specs.Sights as here
use Rattle.ha_config.specs.StoreText.{store_of}
use Rattle.ha_whole.specs.Segments.{alone as counted, carried, carried_number, front, segment, segments}

-- ---- records

-- a record of a segment among those of the whole journal: its serial and its number go on from those before, and its places count from the
-- journal's front
abbrev pub placed : ℕ → Journal → Record → Record
placed front s r = record r {
  serial = carried s + r.serial;
  number = carried_number s (name_of (units s) r.automation) + r.number;
  place = front + r.place;
  begin = option_map (λ p. front + p) r.begin;
  end = option_map (λ e. (front + e.0, e.1)) r.end;
}

abbrev pub placed_all : ℕ → Journal → Records → Records
placed_all n s rs = map {A = Record} {B = Record} (placed n s) rs

-- the records of segments, of which the first has so many entries before it
abbrev pub records_from : ℕ → List Journal → Records
records_from n [] = []
records_from n (s ∷ ss) = placed_all n s (one.records_of s) ++ records_from (n + length s) ss

-- the records of its segments, one after the other
abbrev pub records_of : Journal → Records
records_of j = records_from 0 (segments j)

-- a record as the last segment alone has it
abbrev pub taken_back : ℕ → Journal → Record → Record
taken_back n s r = record r {
  serial = r.serial - carried s;
  number = r.number - carried_number s (name_of (units s) r.automation);
  place = r.place - n;
  begin = option_map (λ p. p - n) r.begin;
  end = option_map (λ e. (e.0 - n, e.1)) r.end;
}

-- of these records of a whole journal, those of its last segment: they stand behind as many as were carried
abbrev pub own : Journal → Records → Records
own j rs = map {A = Record} {B = Record} (taken_back (front j) (segment j)) (drop (carried (segment j)) rs)

-- ---- what stands behind a Restart

-- the numbers that the segment's Boot carries, by the names of runs
abbrev pub numbers_carried : Journal → List (Text × ℕ)
numbers_carried [] = []
numbers_carried (e ∷ es) = option_map_or (λ b. b.carry.numbers) (boot_of e) []

-- the number of each run of a segment, with the run's name
abbrev pub run_numbers : Journal → Records → List (Text × ℕ)
run_numbers s rs = map {A = Record} {B = Text × ℕ} (λ r. (name_of (units s) r.automation, carried_number s (name_of (units s) r.automation) + r.number)) rs

-- the last number of each name that has a run: in the last segment, else as it was carried
abbrev pub numbers_of : Journal → List (Text × ℕ)
numbers_of j = last_of_each (numbers_carried (segment j) ++ run_numbers (segment j) (one.records_of (segment j)))

abbrev pub carry_of : Journal → Carry
carry_of j = record {
  serials = length (records_of j);
  numbers = in_name_order (numbers_of j);
  lines = map (λ k. count_by (is_line_of k) j) (up_to 16);
  shut = filter (λ k. list_any (shuts k) j) (up_to 16);
  last = in_name_order (lasts (segment j));
}

abbrev pub again_of : Journal → Entry
again_of j = Again (suc (count_by is_again j)) (now (segment j)) (in_name_order (switches_of (segment j))) (carry_of j)

abbrev pub ends_segment : Journal → Bool
ends_segment j = last_is is_restart j

-- the journal with one put: the entry, and behind a Restart the Again that opens the next segment
abbrev pub opened : Journal → Journal
opened j = if ends_segment j then more j (again_of j) else j

abbrev pub put : Journal → Entry → Journal
put j x = opened (more j x)

-- what one put appends
abbrev pub appended : Journal → Entry → List Entry
appended j x = if is_restart x then x ∷ again_of (more j x) ∷ [] else x ∷ []

-- ---- which lists are journals

-- what the first Boot carries: nothing but when automations of the configuration last triggered
pub record CarriesNothing (all : List Automation) (c : Carry) : Type 0 where
  pub serials : c.serials ≡ 0
  pub numbers : c.numbers ≡ []
  pub lines : c.lines ≡ replicate 16 0
  pub shut : c.shut ≡ []
  pub last : list_all (λ p. is_some (automation_named all p.0)) c.last ≡ true
  pub ordered : are_in_name_order c.last ≡ true

abbrev pub IsFirst : Entry → Type 0
IsFirst (Boot text config stored start zone carry) = CarriesNothing config.automations carry
IsFirst (Line source number cmd) = ⊥
IsFirst (Step worker serial branch item) = ⊥
IsFirst (Again number start stored carry) = ⊥

-- behind a Restart its Again stands, and nowhere else one; no other entry is a Boot
abbrev pub IsBehind : Journal → Entry → Type 0
IsBehind before (Boot text config stored start zone carry) = ⊥
IsBehind before (Line source number cmd) = ends_segment before ≡ false
IsBehind before (Step worker serial branch item) = ends_segment before ≡ false
IsBehind before (Again number start stored carry) = (ends_segment before ≡ true) × (Again number start stored carry ≡ again_of before)

abbrev pub AreEntries : Journal → Type 0
AreEntries [] = ⊥
AreEntries (e ∷ es) = IsFirst e × EachAfter IsBehind (e ∷ []) es

pub record IsJournal (j : Journal) : Type 0 where
  pub entries : AreEntries j
  pub opened : ends_segment j ≡ false

-- ---- right and lawful

-- the entry is right after these, as the last segment has it
abbrev pub IsRightEntry : Records → Journal → Entry → Type 0
IsRightEntry rs before x = alone.IsRightEntry (own before rs) (segment before) (counted (segment before) x)

pub record Right (j : Journal) (rs : Records) : Type 0 where
  pub journal : IsJournal j
  pub records_are : rs ≡ records_of j
  pub entries : EachAfter (IsRightEntry rs) [] j

module _ (rs : Records) where
  -- the pairs of serial and branch that may step next, in order
  abbrev pub ready : Journal → List (ℕ × Branch)
  ready j = map (λ p. (carried (segment j) + p.0, p.1)) (alone.ready (own j rs) (segment j))

  abbrev pub is_quiet : Journal → Bool
  is_quiet j = alone.is_quiet (own j rs) (segment j)

  -- the source has no line in the last segment, or the journal was quiet since its last one there
  abbrev pub is_rested : ℕ → Journal → Bool
  is_rested k j = alone.is_rested (own j rs) k (segment j)

  -- the entry stands by the order of turns after these, and no more Reloads than there may be
  abbrev pub IsTurn : Journal → Entry → Type 0
  IsTurn before (Boot text config stored start zone carry) = Unit {0}
  IsTurn before (Line k number cmd) =
      (k < 16) × (is_rested k before ≡ true) × (number ≡ count_by (is_line_of k) before) × (list_any (shuts k) before ≡ false)
      × (is_reload (Line k number cmd) ≡ true → lets_reload before ≡ true)
  IsTurn before (Step k serial branch item) = (0 < length (ready before)) × (pick k (ready before) ≡ Some (serial, branch))
  IsTurn before (Again number start stored carry) = Unit {0}

  -- a rested worker's Step is a closing one, after which only such stand
  abbrev pub IsDue : Journal → List Entry → Type 0
  IsDue before [] = Unit {0}
  IsDue before (Boot text config stored start zone carry ∷ behind) = Unit {0}
  IsDue before (Line source number cmd ∷ behind) = Unit {0}
  IsDue before (Step k serial branch item ∷ behind) = (is_rested k before ≡ false) ⊎ ((k ≡ 0) × (list_all is_by_worker_0 behind ≡ true))
  IsDue before (Again number start stored carry ∷ behind) = Unit {0}

  abbrev pub IsClosed : Journal → Type 0
  IsClosed j = EachWith IsDue [] j

  -- no Step so far is a closing one
  abbrev pub IsBusy : Journal → Entry → Type 0
  IsBusy before (Boot text config stored start zone carry) = Unit {0}
  IsBusy before (Line source number cmd) = Unit {0}
  IsBusy before (Step k serial branch item) = is_rested k before ≡ false
  IsBusy before (Again number start stored carry) = Unit {0}

  abbrev pub IsOpen : Journal → Type 0
  IsOpen j = EachAfter IsBusy [] j

pub record Lawful (j : Journal) (rs : Records) : Type 0 where
  pub right : Right j rs
  pub turns : EachAfter (IsTurn rs) [] j
  pub closed : IsClosed rs j

-- a lawful journal that has no closing step
pub record Running (j : Journal) (rs : Records) : Type 0 where
  pub lawful : Lawful j rs
  pub is_open : IsOpen rs j

-- ---- switches and the store

abbrev pub switch_of : Journal → ℕ → Option Bool
switch_of j a = here.switch_of (segment j) a

-- the switches, and when automations last triggered, of those that have
abbrev pub store_text : Journal → Text
store_text j = store_of (switches_of (segment j)) (in_name_order (lasts (segment j)))

-- the journal before its last put
abbrev pub before_put : Journal → Journal
before_put j = take (length j - (if last_is is_again j then 2 else 1)) j

-- two lists have the same names with alike values
abbrev pub same_pairs_by : {X : Type 0} → (X → X → Bool) → List (Text × X) → List (Text × X) → Bool
same_pairs_by alike [] [] = true
same_pairs_by alike (p ∷ ps) (q ∷ qs) = same p.0 q.0 && alike p.1 q.1 && same_pairs_by alike ps qs
same_pairs_by alike [] (q ∷ qs) = false
same_pairs_by alike (p ∷ ps) [] = false

-- what the store keeps is the same after both segments: the switches in force, and when automations last triggered
abbrev pub is_kept_same : Journal → Journal → Bool
is_kept_same s t =
    same_pairs_by same_flag (in_name_order (switches_of s)) (in_name_order (switches_of t))
    && same_pairs_by nat_eq (in_name_order (lasts s)) (in_name_order (lasts t))

-- the journal is the first Boot alone, or the last put changed what the store keeps
abbrev pub changes_store : Journal → Bool
changes_store j = nat_eq (length j) 1 || not (is_kept_same (segment (before_put j)) (segment j))

-- ---- room

abbrev pub most_in_segment : ℕ
most_in_segment = 1_048_576

abbrev pub most_entries : ℕ
most_entries = 4_194_304

abbrev pub most_segments : ℕ
most_segments = 1_024

-- none of these has more entries than a segment may
abbrev pub AreShort : List Journal → Type 0
AreShort [] = Unit {0}
AreShort (s ∷ ss) = (length s ≤ most_in_segment) × AreShort ss

-- no segment and not the journal has more than it may
pub record IsWithin (j : Journal) : Type 0 where
  pub segment_room : AreShort (segments j)
  pub room : length j ≤ most_entries
  pub segments_room : length (segments j) ≤ most_segments

-- the last segment or the journal is full
abbrev pub IsFull : Journal → Type 0
IsFull j = (length (segment j) ≡ most_in_segment) ⊎ (length j ≡ most_entries)

-- a Restart with its Again has no room
abbrev pub CannotRestart : Journal → Type 0
CannotRestart j = (suc (length j) ≡ most_entries) ⊎ (length (segments j) ≡ most_segments)

-- what stands next has none
abbrev pub LacksRoom : Journal → Bool → Type 0
LacksRoom j restarts = IsFull j ⊎ ((restarts ≡ true) × CannotRestart j)

pub record HasRoom (j : Journal) (restarts : Bool) : Type 0 where
  pub segment_room : length (segment j) < most_in_segment
  pub room : length j < most_entries
  pub restart : restarts ≡ true → (suc (length j) < most_entries) × (length (segments j) < most_segments)
