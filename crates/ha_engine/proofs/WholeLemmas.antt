-- What stands for a whole journal with one entry more that opens no segment.
use Rattle.std.proofs.Common.{◌≡◌, suc, ◌+◌, ◌-◌, ◌<◌, ◌≤◌, inl, inr, ◌⊎◌, ℕ, zero, List, [], ◌∷◌, ◌++◌, length, Bool, true, false, refl, sym, ap, subst, ◌∙◌, arith}
use Rattle.std.specs.Prelude.{None, map, option_map}
use Rattle.ha_config.specs.declared.config.Automation.{Automation}
use Rattle.ha_config.specs.Names.{name_of, names_of}
use Rattle.ha_config.specs.Words.{Text}
use Rattle.ha_journal.specs.declared.entry.Entry.{Entry}
use Rattle.ha_journal.specs.Entries.{is_restart, reload_in}
use Rattle.ha_journal.specs.Force.{force}
use Rattle.ha_journal.specs.Journal.{HasEntry, Journal, more, units}
use Rattle.ha_journal.proofs.ForceLaws.{force-still, units-more}
use Rattle.ha_journal.proofs.MoreLemmas.{has-entry, length-more}
use Rattle.ha_model.specs.declared.record.EndCause.{EndCause}
use Rattle.ha_model.specs.Lawful as one
use Rattle.ha_model.specs.Records as all
use Rattle.ha_model.specs.Records.{Records}
use Rattle.ha_model.proofs.KnownLaws.{AllKnown, all-known}
use Rattle.ha_whole.specs.Segments.{alone, carried, carried_number, cut, entries_in, front, segment, segments}
use Rattle.ha_whole.specs.Whole.{AreEntries, CannotRestart, HasRoom, IsFull, Right, most_entries, most_in_segment, most_segments, records_from, records_of}
use Rattle.segment_runs.specs.Goes.{moved_all}
use Rattle.segment_runs.specs.Segment.{all_of, number_at}
use Rattle.segment_carry.proofs.LawLemmas.{table-records}
use Rattle.named_runs.specs.Named.{NamedTable}
use Rattle.unit_book.specs.declared.book.UnitBook.{UnitBook}
use Rattle.unit_book.specs.Book.{Holds}
use Rattle.unit_book.proofs.BookLemmas.{holds-front}
use Rattle.whole_laws.specs.Puts.{IsPut}
use Rattle.whole_laws.proofs.CutLemmas.{IsCut, alone-reload, carried-on, closed-on, is-cut, segment-on}
use Rattle.whole_laws.proofs.LiftLemmas.{right-lifts}
use Rattle.whole_laws.proofs.PutLemmas.{put-on}
use Rattle.whole_laws.proofs.SeenLemmas.{front-below}
use Rattle.ha_engine.specs.declared.bounds.Bounds.{Bounds}
use Rattle.ha_engine.specs.Lies.{IsBounded, IsLeast, Lies}
use Rattle.ha_engine.specs.Told.{AreRuns, IsTold}

-- ---- room

module _ (j : Journal) (b : Bounds) (lies : Lies j b) (bounded : IsBounded j b) where
  cut-is : IsCut j
  cut-is = is-cut j lies.entries

  -- LAW: below the limit one entry has room
  pub room-below : length j < b.limit → HasRoom j false
  room-below lt = record {
    segment_room = omega (arith, lt, bounded.limit.own, cut-is.length_is);
    room = omega (arith, lt, bounded.limit.all);
    restart = λ e. absurd (let bad : ◌≡◌ {A = Bool} true false = sym e in cc);
  }

  -- LAW: at the limit the segment or the journal is full
  pub full-at : b.limit ≤ length j → IsFull j
  full-at le = by bounded.limit.is
    where
      by : (b.limit ≡ front j + most_in_segment) ⊎ (b.limit ≡ most_entries) → IsFull j
      by (inl e) = inl (omega (arith, e, le, bounded.within, cut-is.length_is))
      by (inr e) = inr (omega (arith, e, le, bounded.within))

  -- LAW: where one entry has room, it is below the limit
  pub below-limit : (restarts : Bool) → HasRoom j restarts → length j < b.limit
  below-limit restarts h = by bounded.limit.is
    where
      by : (b.limit ≡ front j + most_in_segment) ⊎ (b.limit ≡ most_entries) → length j < b.limit
      by (inl e) = omega (arith, e, h.segment_room, cut-is.length_is)
      by (inr e) = omega (arith, e, h.room)

  -- LAW: a restart has room too
  pub restart-room : HasRoom j false → length j + 1 < most_entries → b.segments < most_segments → HasRoom j true
  restart-room h lt few = record {
    segment_room = h.segment_room;
    room = h.room;
    restart = λ e. (omega (arith, lt), omega (arith, few, bounded.segments_are));
  }

  -- LAW: where a restart has none, one entry is left, or no segment
  pub restart-none : HasRoom j false → (most_entries ≤ length j + 1) ⊎ (most_segments ≤ b.segments) → CannotRestart j
  restart-none h (inl le) = inl (omega (arith, le, h.room))
  restart-none h (inr le) = inr (omega (arith, le, bounded.few, bounded.segments_are))

-- ---- one entry more

-- records go on by the same numbers of known units
moved-alike : (n b : ℕ) (f g : ℕ → ℕ) (m : ℕ) → ((a : ℕ) → a < m → f a ≡ g a) → (rs : Records) → AllKnown m rs → moved_all n b f rs ≡ moved_all n b g rs
moved-alike n b f g m alike [] known = refl
moved-alike n b f g m alike (r ∷ rs) known =
    (λ i. record r {
      serial = b + r.serial;
      number = alike r.automation known.0 i + r.number;
      place = n + r.place;
      begin = option_map (λ p. n + p) r.begin;
      end = option_map {T = ℕ × EndCause} (λ e. (n + e.0, e.1)) r.end;
    } ∷ moved-alike n b f g m alike rs known.1 i)

number-mapped : (f : Text → ℕ) (us : List Automation) (a : ℕ) → a < length us → number_at (map f (names_of us)) a ≡ f (name_of us a)
number-mapped f [] a lt = absurd (omega (arith, lt))
number-mapped f (x ∷ us) zero lt = refl
number-mapped f (x ∷ us) (suc a) lt = number-mapped f us a (omega (arith, lt))

-- LAW: the records of all segments, where a table has what closed ones left
pub all-records : (j : Journal) (t : NamedTable) → AreEntries j → AreRuns j t → records_of j ≡ all_of t.closed t.list
all-records j t entries h =
    let s : Journal = segment j in
    let ns : List ℕ = map (carried_number s) (names_of (units s)) in
    table-records j ns entries refl
    ∙ (λ i. records_from 0 (cut j).closed ++ moved-alike (front j) (length (records_from 0 (cut j).closed)) (number_at ns) (number_at t.closed.numbers) (length (units s))
    (λ a lt. number-mapped (carried_number s) (units s) a lt ∙ sym (h.numbers a lt)) (all.records_of s) (all-known s) i)
    ∙ (λ i. all_of (record { records = sym h.records i; entries = sym h.entries i; numbers = t.closed.numbers }) (sym h.own i))

module _ (j : Journal) (x : Entry) (b : Bounds) (u u' : UnitBook) (t t' : NamedTable) (is_put : IsPut x) (stays : is_restart x ≡ false) (told : IsTold j b u t)
    (own : one.Right (more (segment j) (alone (segment j) x)) t'.list) (records_is : t'.closed.records ≡ t.closed.records) (entries_is : t'.closed.entries ≡ t.closed.entries)
    (numbers_are : (a : ℕ) → a < length (units (more (segment j) (alone (segment j) x)))
    → number_at t'.closed.numbers a ≡ carried_number (more (segment j) (alone (segment j) x)) (name_of (units (more (segment j) (alone (segment j) x))) a))
    (holds : Holds (more j x) (force (more (segment j) (alone (segment j) x))) u') (room : length j < b.limit) where
  abbrev s : Journal
  s = segment j

  abbrev y : Entry
  y = alone s x

  abbrev k : Journal
  k = more j x

  c : IsCut j
  c = is-cut j told.lies.entries

  pub on : segment k ≡ more s y
  on = segment-on j x is_put.none

  pub closed_same : (cut k).closed ≡ (cut j).closed
  closed_same = closed-on j x is_put.none

  pub front-same : front k ≡ front j
  front-same = (λ i. entries_in (closed_same i))

  lifted : Right k (records_of k)
  lifted = subst (λ i. Right i (records_of i)) (put-on j x stays) (right-lifts j (all_of t.closed t.list) t'.list x is_put told.right own)

  pub own-right : one.Right (segment k) t'.list
  own-right = subst (λ i. one.Right i t'.list) (sym on) own

  pub runs-on : AreRuns k t'
  runs-on = record {
    own = own-right.records_are;
    records = records_is ∙ told.runs.records ∙ (λ i. records_from 0 (sym closed_same i));
    entries = entries_is ∙ told.runs.entries ∙ sym front-same;
    numbers = subst (λ q. (a : ℕ) → a < length (units q) → number_at t'.closed.numbers a ≡ carried_number q (name_of (units q) a)) (sym on) numbers_are;
  }

  all-on : all_of t'.closed t'.list ≡ records_of k
  all-on = sym (all-records k t' lifted.journal.entries runs-on)

  pub lies-on : Lies k b
  lies-on = record {
    entries = lifted.journal.entries;
    few = omega (arith, room, told.bounded.limit.all, length-more j x);
    front_is = told.lies.front_is ∙ sym front-same;
    base_is = told.lies.base_is ∙ sym ((λ i. carried (on i)) ∙ carried-on s y (has-entry s c.alone));
  }

  pub bounded-on : IsBounded k b
  bounded-on = record {
    segments_are = told.bounded.segments_are ∙ (λ i. length (sym closed_same i ++ (s ∷ []))) ∙ same-count (cut k).closed s (segment k);
    few = told.bounded.few;
    limit = subst (IsLeast b.limit) (sym front-same) told.bounded.limit;
    within = omega (arith, room, length-more j x);
  }
    where
      same-count : (ss : List Journal) (a b : Journal) → length (ss ++ (a ∷ [])) ≡ length (ss ++ (b ∷ []))
      same-count [] a b = refl
      same-count (s ∷ ss) a b = ap suc (same-count ss a b)

  -- LAW: all of it goes on
  pub told-on : IsTold k b u' t'
  told-on = record {
    right = subst (Right k) (sym all-on) lifted;
    own_right = own-right;
    runs = runs-on;
    lies = lies-on;
    bounded = bounded-on;
    holds = subst (λ q. Holds k (force q) u') (sym on) holds;
  }

  -- LAW: the entry opens no segment
  pub not-opening : length k ≡ suc (front k) → ⊥
  not-opening e = omega (arith, e, front-same, length-more j x, front-below j told.lies.entries)

pub number-on : (s : Journal) (x : Entry) → HasEntry s → (name : Text) → carried_number s name ≡ carried_number (more s x) name
number-on [] x h name = absurd h
number-on (e ∷ es) x h name = refl

-- ---- an entry that changes nothing of what is in force

module _ (j : Journal) (x : Entry) (u : UnitBook) (t t' : NamedTable) (entries : AreEntries j) (quiet : reload_in x ≡ None) (runs : AreRuns j t) (closed : t'.closed ≡ t.closed) where
  abbrev here : Journal
  here = more (segment j) (alone (segment j) x)

  has : HasEntry (segment j)
  has = has-entry (segment j) (is-cut j entries).alone

  pub alone-quiet : reload_in (alone (segment j) x) ≡ None
  alone-quiet = alone-reload (carried (segment j)) x ∙ quiet

  pub units-quiet : units here ≡ units (segment j)
  units-quiet = sym (units-more (segment j) (alone (segment j) x) has alone-quiet)

  -- LAW: the numbers of closed segments are the same
  pub numbers-quiet : (a : ℕ) → a < length (units here) → number_at t'.closed.numbers a ≡ carried_number here (name_of (units here) a)
  numbers-quiet a lt =
      (λ i. number_at (closed i).numbers a) ∙ runs.numbers a (subst (λ (us : List Automation). a < length us) units-quiet lt)
      ∙ (λ i. number-on (segment j) (alone (segment j) x) has (name_of (sym units-quiet i) a) i)

  -- LAW: a book holds the same
  pub holds-quiet : Holds j (force (segment j)) u → Holds (more j x) (force here) u
  holds-quiet h = subst (λ f. Holds (more j x) f u) (force-still (segment j) (alone (segment j) x) has alone-quiet) (holds-front j (x ∷ []) (force (segment j)) u h)

-- LAW: so a book holds the same behind an entry of the last segment, as the segment has it
pub holds-still : (j s : Journal) (x y : Entry) (u : UnitBook) → HasEntry s → reload_in y ≡ None → Holds j (force s) u → Holds (more j x) (force (more s y)) u
holds-still j s x y u has none h = subst (λ f. Holds (more j x) f u) (force-still s y has none) (holds-front j (x ∷ []) (force s) u h)
