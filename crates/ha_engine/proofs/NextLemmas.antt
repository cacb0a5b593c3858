-- A restart with the opening behind it: what stands for the journal then.
use Rattle.std.proofs.Common.{◌≡◌, ℕ, zero, suc, ◌+◌, ◌-◌, ◌<◌, ◌≤◌, inl, inr, List, [], ◌∷◌, ◌++◌, length, map, Bool, true, false, refl, sym, ap, subst, ◌∙◌, arith}
use Rattle.std.specs.Prelude.{Option, None, count_by, drop, nat_eq, nat_le, ◌⊎◌, not, ◌||◌, unwrap_or}
use Rattle.std.specs.List.{list_all, list_any}
use Rattle.ha_config.specs.declared.command.Cmd.{Cmd}
use Rattle.ha_clock.specs.Local.{last_moment}
use Rattle.ha_config.specs.declared.config.Automation.{Automation}
use Rattle.ha_config.specs.declared.config.Script.{Script}
use Rattle.ha_config.specs.Equal.{same_flag}
use Rattle.ha_config.specs.Names.{name_of, names_of}
use Rattle.ha_config.specs.StoreText.{in_name_order}
use Rattle.ha_config.specs.ValueFacts.{all_distinct}
use Rattle.ha_config.specs.Words.{Text, same, up_to}
use Rattle.ha_config.proofs.AutomationLemmas.{any-named}
use Rattle.ha_journal.specs.declared.entry.Entry.{Entry}
use Rattle.ha_journal.specs.declared.entry.Entry.TheVariants.{Line}
use Rattle.ha_journal.specs.Attempts.{passing}
use Rattle.ha_journal.specs.Force.{force}
use Rattle.ha_journal.specs.Journal.{HasEntry, IsJournal, Journal, automations, in_force, more, names, now, units, zone_of}
use Rattle.ha_journal.specs.States.{switches_of}
use Rattle.ha_journal.specs.Switches.{is_on}
use Rattle.ha_journal.proofs.ForceLaws.{automations-more, force-still, units-more}
use Rattle.ha_journal.proofs.MoreLemmas.{length-more}
use Rattle.ha_model.specs.declared.record.EndCause.{EndCause}
use Rattle.ha_model.specs.declared.record.Record.{Record}
use Rattle.ha_model.specs.Lawful as one
use Rattle.ha_model.specs.Records as all
use Rattle.ha_model.specs.Records.{Records, has_name}
use Rattle.ha_model.proofs.AppendLemmas.{each-snoc}
use Rattle.ha_model.proofs.KnownLaws.{AllKnown, all-known}
use Rattle.run_modes.specs.Table.{stopped}
use Rattle.ha_whole.specs.Lasts.{last_triggered, lasts, lasts_carried}
use Rattle.ha_whole.specs.Named.{named}
use Rattle.ha_whole.specs.Segments.{carried, carried_number, cut, entries_in, front, reopened, segment, segments}
use Rattle.ha_whole.specs.Whole.{AreEntries, HasRoom, IsBehind, Right, again_of, before_put, most_entries, most_in_segment, records_from, records_of, same_pairs_by}
use Rattle.whole_laws.proofs.CutLemmas.{IsCut, carried-on, closed-again, closed-on, is-cut, segment-again, segment-on}
use Rattle.whole_laws.proofs.LiftLemmas.{right-lifts}
use Rattle.whole_laws.proofs.PutLemmas.{before-put, line-put, put-restart}
use Rattle.segment_runs.specs.Segment.{all_of, number_at}
use Rattle.segment_carry.specs.Closing.{last_number}
use Rattle.segment_carry.proofs.LawLemmas.{carried-moments, stopped-counts}
use Rattle.segment_carry.proofs.MomentLemmas.{found-moments}
use Rattle.switch_book.specs.Book as switches
use Rattle.named_runs.specs.Named.{NamedTable, first_in, runs_named}
use Rattle.named_runs.proofs.CountLemmas.{runs-alike, units-stopped}
use Rattle.unit_book.specs.declared.book.UnitBook.{UnitBook}
use Rattle.unit_book.specs.Book.{Holds, firsts_of}
use Rattle.unit_book.proofs.FirstLemmas.{firsts-many, names-many, text-name, text_at}
use Rattle.engine_parts.specs.declared.parts.Parts.{Parts}
use Rattle.engine_parts.specs.Kept.{AreSound, Kept}
use Rattle.engine_parts.specs.Numbers.{numbers_in}
use Rattle.ha_engine.specs.declared.bounds.Bounds.{Bounds}
use Rattle.ha_engine.specs.Begun.{IsBegun}
use Rattle.ha_engine.specs.Lies.{Follows, IsBounded, IsLeast, Lies}
use Rattle.ha_engine.specs.Noted.{AreNoted, are_in_time, changes_lasts, changes_switches, known_lasts, moved_by, noted}
use Rattle.ha_engine.specs.Restarts.{ClosesWith, Reopened, reopening}
use Rattle.ha_engine.specs.Told.{AreLasts, AreRuns, IsFollowed, IsTold}
use Rattle.ha_engine.proofs.FollowedLemmas.{firsts-told, rules-differ}
use Rattle.ha_engine.proofs.StoredLemmas.{carried-in-time, lasts-in-time}
use Rattle.ha_engine.proofs.LastsLemmas.{apart-of, carried-by, last-more, last-opened, lasts-more, lasts-opened, with_runs}
use Rattle.ha_engine.proofs.MovedLemmas.{any-there, is_listed, moved-told, noted-in-time}
use Rattle.ha_engine.proofs.NumberLemmas.{all-named, runs-told}
use Rattle.ha_engine.proofs.ReopenLemmas.{all-as-long, none-behind, reopened-automations, reopened-begun, switches-reopened}
use Rattle.ha_engine.proofs.RestartLine.{again-now, again-read, again-right, again-some, again-sound, again-zone}
use Rattle.ha_engine.proofs.WholeLemmas.{all-records, holds-quiet, numbers-quiet}

pub entries-more : (j : Journal) (x : Entry) → AreEntries j → IsBehind j x → AreEntries (more j x)
entries-more [] x h b = absurd h
entries-more (e ∷ es) x h b = (h.0, each-snoc IsBehind (e ∷ []) es x h.1 b)

count-snoc : {X : Type 0} (xs : List X) (a : X) → length (xs ++ (a ∷ [])) ≡ suc (length xs)
count-snoc [] a = refl
count-snoc (x ∷ xs) a = ap suc (count-snoc xs a)

pub known-none : (ns : List Text) (carried : List (Text × ℕ)) → known_lasts [] ns carried ≡ map (λ name. named name carried) ns
known-none [] carried = refl
known-none (n ∷ ns) carried = refl

number-of : (f : Text → ℕ) (us : List Automation) (a : ℕ) → a < length us → number_at (map f (names_of us)) a ≡ f (name_of us a)
number-of f [] a lt = absurd (omega (arith, lt))
number-of f (x ∷ us) zero lt = refl
number-of f (x ∷ us) (suc a) lt = number-of f us a (omega (arith, lt))

module _ (j : Journal) (source number : ℕ) (b : Bounds) (u : UnitBook) (t : NamedTable) (p : Parts) (ls : List (Option ℕ)) (told : IsTold j b u t) (firsts : t.firsts ≡ u.firsts.items) (kept : Kept (segment j) t.list p)
    (stood : AreLasts (segment j) u ls) (room : HasRoom j true) (nothing : passing (more (segment j) (Line source number Cmd.Restart)) ≡ []) where
  abbrev x : Entry
  x = Line source number Cmd.Restart

  abbrev s : Journal
  s = segment j

  abbrev k : Journal
  k = more j x

  abbrev n : Journal
  n = more k (again_of k)

  abbrev rs' : Records
  rs' = stopped None (length s) EndCause.Restarted t.list

  c : IsCut j
  c = is-cut j told.lies.entries

  has : HasEntry s
  has = again-some s t.list p source number told.own_right kept nothing

  pub on-k : segment k ≡ more s x
  on-k = segment-on j x refl

  closed-k : (cut k).closed ≡ (cut j).closed
  closed-k = closed-on j x refl

  own : one.Right (more s x) rs'
  own = again-right s t.list p source number told.own_right kept nothing

  pub lifted : Right n (records_of n)
  lifted = subst (λ i. Right i (records_of i)) (put-restart j x refl) (right-lifts j (all_of t.closed t.list) rs' x (line-put source number Cmd.Restart) told.right own)

  pub entries-k : AreEntries k
  entries-k = entries-more j x told.lies.entries told.right.journal.opened

  pub entries-n : AreEntries n
  entries-n = lifted.journal.entries

  c-k : IsCut k
  c-k = is-cut k entries-k

  c-n : IsCut n
  c-n = is-cut n entries-n

  front-k : front k ≡ front j
  front-k = (λ i. entries_in (closed-k i))

  pub holds-k : Holds k (force (segment k)) u
  holds-k = subst (λ q. Holds k (force q) u) (sym on-k) (holds-quiet j x u t t told.lies.entries refl told.runs refl told.holds)

  -- the table once all runs of the segment have ended
  abbrev stopped_table : NamedTable
  stopped_table = record { list = rs'; spare = t.spare; closed = t.closed; firsts = t.firsts }

  runs-k : AreRuns k stopped_table
  runs-k = record {
    own = own.records_are ∙ (λ i. all.records_of (sym on-k i));
    records = told.runs.records ∙ (λ i. records_from 0 (sym closed-k i));
    entries = told.runs.entries ∙ sym front-k;
    numbers = subst (λ q. (a : ℕ) → a < length (units q) → number_at t.closed.numbers a ≡ carried_number q (name_of (units q) a)) (sym on-k)
        (numbers-quiet j x u t t told.lies.entries refl told.runs refl);
  }

  -- LAW: the records of all segments, where those of the last one were stopped
  pub records-k : records_of k ≡ all_of t.closed rs'
  records-k = all-records k stopped_table entries-k runs-k

  pub as-many : length (all_of t.closed t.list) ≡ length (records_of k)
  as-many = all-as-long t.closed t.list rs' (stopped-counts None (length s) EndCause.Restarted t.list) ∙ ap length (sym records-k)

  firsts-s : u.firsts.items ≡ firsts_of (names s)
  firsts-s = firsts-told j s u told.holds

  own-s : one.Right s (all.records_of s)
  own-s = subst (one.Right s) told.runs.own told.own_right

  -- no run was admitted there
  none-new : drop (length (all.records_of s)) (all.records_of (more s x)) ≡ []
  none-new =
      (let same : length t.list ≡ length rs' = stopped-counts None (length s) EndCause.Restarted t.list in
      (λ i. drop (length (sym told.runs.own i)) (sym own.records_are i)) ∙ none-behind t.list rs' same)

  lasts-k : AreLasts (more s x) u ls
  lasts-k = subst (λ l. AreLasts (more s x) u (noted (now (more s x)) u.firsts.items l ls)) none-new (lasts-more s x own-s refl u ls firsts-s stood)

  last-same : (name : Text) → last_triggered (segment k) name ≡ last_triggered s name
  last-same name =
      (λ i. last_triggered (on-k i) name) ∙ last-more s x own-s refl name ∙ (λ i. with_runs (now (more s x)) (names (more s x)) (none-new i) (last_triggered s) name)

  lasts-there : AreLasts (segment k) u ls
  lasts-there = subst (λ q. AreLasts q u ls) (sym on-k) lasts-k

  sound-k : AreSound (segment k)
  sound-k = subst AreSound (sym on-k) (again-sound s t.list p source number told.own_right kept nothing)

  pub lies-k : Lies k b
  lies-k = record {
    entries = entries-k;
    few = omega (arith, (room.restart refl).0, length-more j x);
    front_is = told.lies.front_is ∙ sym front-k;
    base_is = told.lies.base_is ∙ sym ((λ i. carried (on-k i)) ∙ carried-on s x has);
  }

  count-k : b.segments ≡ length (segments k)
  count-k = told.bounded.segments_are ∙ count-snoc (cut j).closed s ∙ (λ i. suc (length (sym closed-k i))) ∙ sym (count-snoc (cut k).closed (segment k))

  known-list : AllKnown (length (units s)) t.list
  known-list = subst (AllKnown (length (units s))) (sym told.runs.own) (all-known s)

  -- the number of the last run of each unit's name
  last-at : (a : ℕ) → a < length (names s) → number_at t.closed.numbers a + runs_named t.firsts (first_in t.firsts a) t.list ≡ last_number (segment k) (text_at (names s) a)
  last-at a la =
      (let many = names-many s in
      let lt : a < length (units s) = omega (arith, la, many) in
      let fs : t.firsts ≡ firsts_of (names s) = firsts ∙ firsts-s in
      let name : name_of (units s) a ≡ text_at (names s) a = sym (text-name (units s) a) in
      let same-units : units s ≡ units (more s x) = units-more s x has refl in
      let before : number_at t.closed.numbers a ≡ carried_number (segment k) (text_at (names s) a)
      = numbers-quiet j x u t t told.lies.entries refl told.runs refl a (subst (λ (us : List Automation). a < length us) same-units lt)
      ∙ (λ i. carried_number (sym on-k i) (name_of (sym same-units i) a)) ∙ (λ i. carried_number (segment k) (name i)) in
      let counts : runs_named t.firsts (first_in t.firsts a) t.list ≡ count_by (has_name (segment k) (text_at (names s) a)) (all.records_of (segment k))
      = (λ i. runs_named (fs i) (first_in (fs i) a) t.list)
      ∙ sym (runs-alike (firsts_of (names s)) (first_in (firsts_of (names s)) a) t.list rs' (units-stopped None (length s) EndCause.Restarted t.list))
      ∙ runs-told s rs' a lt (subst (AllKnown (length (units s))) (sym own.records_are) (subst (λ (us : List Automation). AllKnown (length us) (all.records_of (more s x))) (sym same-units) (all-known (more s x))))
      ∙ (λ i. count_by (λ (r : Record). same (name_of (same-units i) r.automation) (name i)) rs')
      ∙ (λ i. count_by (has_name (sym on-k i) (text_at (names s) a)) (own.records_are i))
      ∙ (λ i. count_by (has_name (segment k) (text_at (names s) a)) (all.records_of (sym on-k i))) in
      λ i. before i + counts i)

  -- LAW: all stands for the segment that closes
  pub closes : (q : Parts) → q.at ≡ p.at → q.numbers ≡ p.numbers → switches.StandsFor q.switches (more s x) → ClosesWith k b u t q ls
  closes q at numbers stand = record {
    entries = entries-k;
    small = omega (arith, told.lies.few, length-more j x);
    lies = lies-k;
    count_is = count-k;
    at_is = at ∙ again-now s t.list p source number told.own_right kept nothing ∙ ap now (sym on-k);
    sound = sound-k;
    holds = holds-k;
    numbers_are = numbers ∙ kept.going.sees.looks.numbers_are ∙ numbers-still ∙ ap numbers_in (sym on-k);
    switches_are = subst (switches.StandsFor q.switches) (sym on-k) stand;
    runs_are = as-many;
    last_are = (λ i. map (λ a. number_at t.closed.numbers a + runs_named t.firsts (first_in t.firsts a) t.list) (up_to (many i))) ∙ all-named _ (last_number (segment k)) (names s) last-at
        ∙ ap (map (last_number (segment k))) (sym told.holds.names_are);
    lasts_are = lasts-there;
  }
    where
      numbers-still : numbers_in s ≡ numbers_in (more s x)
      numbers-still = (λ i. map {A = ℕ × Automation} {B = ℕ} (λ r. r.0) (force-still s x has refl i).rules ++ map {A = ℕ × Script} {B = ℕ} (λ r. r.0) (force-still s x has refl i).scripts)

      many : length t.firsts ≡ length (names s)
      many = ap length (firsts ∙ firsts-s) ∙ firsts-many (names s)

  -- ---- the opening

  closed-n : (cut n).closed ≡ segments k
  closed-n = closed-again k (again_of k) (reopening k) refl

  pub segment-n : segment n ≡ reopened (segment k) (reopening k)
  segment-n = segment-again k (again_of k) (reopening k) refl

  pub begun : IsBegun (segment n)
  begun = subst IsBegun (sym segment-n) (reopened-begun (segment k) (reopening k) c-k.alone)

  pub front-n : front n ≡ length k
  front-n = (λ i. entries_in (closed-n i)) ∙ entries-of (cut k).closed (segment k) ∙ c-k.length_is
    where
      entries-of : (ss : List Journal) (l : Journal) → entries_in (ss ++ (l ∷ [])) ≡ entries_in ss + length l
      entries-of [] l = omega arith
      entries-of (q ∷ ss) l = omega (arith, entries-of ss l)

  module _ (next : Bounds) (next_is : Follows next (length k) (length (all_of t.closed t.list)) (b.segments + 1)) where
    pub lies-n : Lies n next
    lies-n = record {
      entries = entries-n;
      few = omega (arith, (room.restart refl).0, length-more j x, length-more k (again_of k));
      front_is = next_is.front_is ∙ sym front-n;
      base_is = next_is.base_is ∙ as-many ∙ (λ i. length (records_from 0 (sym closed-n i))) ∙ sym c-n.carried_is;
    }

    counted : b.segments + 1 ≡ length (segments n)
    counted =
        omega (arith, told.bounded.segments_are, count-snoc (cut j).closed s, ap length closed-k, count-snoc (cut k).closed (segment k), ap length closed-n, count-snoc (cut n).closed (segment n))

    pub bounded-n : IsBounded n next
    bounded-n = record {
      segments_are = next_is.segments_are ∙ counted;
      few = omega (arith, next_is.segments_are, (room.restart refl).1, told.bounded.segments_are);
      limit = subst (IsLeast next.limit) (sym front-n) next_is.limit;
      within = by next_is.limit.is;
    }
      where
        by : (next.limit ≡ length k + most_in_segment) ⊎ (next.limit ≡ most_entries) → length n ≤ next.limit
        by (inl e) = omega (arith, e, length-more k (again_of k))
        by (inr e) = omega (arith, e, (room.restart refl).0, length-more j x, length-more k (again_of k))

    pub reopened-n : Reopened n next p.zone p.at
    reopened-n = record {
      closed = k;
      journal_is = refl;
      lies = lies-n;
      segment_is = segment-n;
      journal = c-k.alone;
      sound = sound-k;
      zone_is = again-zone s t.list p source number told.own_right kept nothing ∙ (λ i. zone_of (sym on-k i));
      zone_read = again-read s t.list p source number told.own_right kept nothing;
      at_is = again-now s t.list p source number told.own_right kept nothing ∙ ap now (sym on-k);
      in_time = kept.going.sees.looks.in_time;
    }

    -- what stands for it once the segment was closed and the next one begun
    module _ (u' : UnitBook) (t' : NamedTable) (p' : Parts) (ls' : List (Option ℕ)) (numbers' : List ℕ) (own_is : t'.list ≡ all.records_of (segment n)) (own_right : one.Right (segment n) t'.list)
        (kept' : Kept (segment n) t'.list p') (closed_is : t'.closed ≡ record { records = all_of t.closed rs'; entries = length k; numbers = numbers' }) (holds' : Holds n (force (segment n)) u')
        (numbers_is : numbers' ≡ map (carried_number (segment n)) u'.names) (firsts' : t'.firsts ≡ u'.firsts.items)
        (noted_is : ls' ≡ noted p'.at t'.firsts t'.list (known_lasts [] u'.names (lasts_carried (segment n)))) where
      names-n : u'.names ≡ names (segment n)
      names-n = holds'.names_are

      firsts-n : u'.firsts.items ≡ firsts_of (names (segment n))
      firsts-n = firsts-told n (segment n) u' holds'

      runs-n : AreRuns n t'
      runs-n = record {
        own = own_is;
        records = (λ i. (closed_is i).records) ∙ sym records-k ∙ (λ i. records_from 0 (sym closed-n i));
        entries = (λ i. (closed_is i).entries) ∙ sym front-n;
        numbers = λ a lt. (λ i. number_at (closed_is i).numbers a) ∙ (λ i. number_at (numbers_is i) a) ∙ (λ i. number_at (map (carried_number (segment n)) (names-n i)) a)
            ∙ number-of (carried_number (segment n)) (units (segment n)) a lt;
      }

      -- LAW: the journal is right with all records
      pub told-n : IsTold n next u' t'
      told-n = record {
        right = subst (Right n) (all-records n t' entries-n runs-n) lifted;
        own_right = own_right;
        runs = runs-n;
        lies = lies-n;
        bounded = bounded-n;
        holds = holds';
      }

      -- the moments of its units before it
      abbrev carried_lasts : List (Option ℕ)
      carried_lasts = map (λ name. named name (lasts_carried (segment n))) (names (segment n))

      known-are : known_lasts [] u'.names (lasts_carried (segment n)) ≡ carried_lasts
      known-are = known-none u'.names (lasts_carried (segment n)) ∙ ap (map (λ name. named name (lasts_carried (segment n)))) names-n

      -- what is noted is what stands behind it
      noted-there : ls' ≡ noted (now (segment n)) u'.firsts.items (all.records_of (segment n)) carried_lasts
      noted-there = noted_is ∙ (λ i. noted (kept'.going.sees.looks.now_is i) (firsts' i) (own_is i) (known-are i))

      on-n : segment n ≡ reopened (more s x) (reopening k)
      on-n = segment-n ∙ (λ i. reopened (on-k i) (reopening k))

      back : before_put n ≡ j
      back = (λ i. before_put (sym (put-restart j x refl) i)) ∙ before-put j x refl

      journal-k : IsJournal (more s x)
      journal-k = subst IsJournal on-k c-k.alone

      rules-apart : all_distinct (names_of (automations s)) ≡ true
      rules-apart = rules-differ s kept.going.sees.sound

      changes-n : changes_switches n ≡ list_any (λ (r : ℕ × Automation). not (same_flag (is_on s r.0) (unwrap_or r.1.initial (is_on s r.0)))) (in_force s)
      changes-n =
          (let first : nat_eq (length n) 1 ≡ false = apart-of (length n) 1 (λ e. omega (arith, e, length-more j x, length-more k (again_of k))) in
          (λ i. first i || not (same_pairs_by same_flag (in_name_order (switches_of (segment (back i)))) (in_name_order (switches_of (on-n i)))))
          ∙ switches-reopened s source number (reopening k) c.alone journal-k rules-apart (λ i. in_name_order (switches_of (on-k i))))

      -- LAW: and so do the parts, the moments and whether it changed a switch
      pub followed-n : (reset : Bool) → reset ≡ list_any (λ (r : ℕ × Automation). not (same_flag (is_on s r.0) (unwrap_or r.1.initial (is_on s r.0)))) (in_force s) → IsFollowed n u' t' p' ls' reset
      followed-n reset is = record {
        kept = kept';
        firsts_are = firsts';
        lasts_are = subst (AreLasts (segment n) u') (sym noted-there) (lasts-opened (segment n) u' begun firsts-n);
        reset_is = λ e. changes-n ∙ sym is;
      }

      rules-n : automations s ≡ automations (segment n)
      rules-n = automations-more s x has refl ∙ ap automations (sym on-k) ∙ sym (reopened-automations (segment k) (reopening k) c-k.alone) ∙ ap automations (sym segment-n)

      -- of an automation in force the moment before it is the one that it carries
      same-before : (name : Text) → is_listed (automations s) name ≡ true → named name (lasts_carried (segment n)) ≡ last_triggered s name
      same-before name is_so =
          (let rules-k : automations s ≡ automations (segment k) = automations-more s x has refl ∙ ap automations (sym on-k) in
          let got = any-there (automations (segment k)) name (any-named (automations (segment k)) name ∙ (λ i. is_listed (sym rules-k i) name) ∙ is_so) in
          let apart : all_distinct (names_of (automations (segment k))) ≡ true = (λ i. all_distinct (names_of (sym rules-k i))) ∙ rules-apart in
          (λ i. named (sym got.2 i) (carried-moments k entries-k i))
          ∙ found-moments (segment k) apart got.0 got.1
          ∙ (λ i. last_triggered (segment k) (got.2 i))
          ∙ last-same name)

      listed-n : u'.listed.items ≡ map (is_listed (automations s)) (names (segment n))
      listed-n = holds'.listed_are ∙ (λ i. map (is_listed (sym rules-n i)) (names-n i))

      lasts-n : changes_lasts n ≡ moved_by p'.at t'.firsts u'.listed.items t'.list (known_lasts [] u'.names (lasts_carried (segment n)))
      lasts-n =
          (let carried : List (Text × ℕ) = lasts_carried (segment n) in
          (λ i. not (same_pairs_by nat_eq (in_name_order (lasts (segment (back i)))) (in_name_order (lasts (segment n)))))
          ∙ moved-told (now (segment n)) s (segment n) (names (segment n)) (all.records_of (segment n)) carried_lasts (λ name. named name carried) rules-n rules-apart
          (subst (λ m. AllKnown m (all.records_of (segment n))) (sym (names-many (segment n))) (all-known (segment n)))
          (carried-by (names (segment n)) carried) same-before (last-opened (segment n) begun)
          ∙ (λ i. moved_by (sym kept'.going.sees.looks.now_is i) (sym (firsts' ∙ firsts-n) i) (sym listed-n i) (sym own_is i) (sym known-are i)))

      -- LAW: and whether it changed when an automation last triggered
      pub noted-n : are_in_time ls ≡ true → (moved : Bool) → moved ≡ moved_by p'.at t'.firsts u'.listed.items t'.list (known_lasts [] u'.names (lasts_carried (segment n))) → AreNoted n ls' moved
      noted-n in_time moved is = record {
        in_time = subst (λ l. are_in_time l ≡ true) (sym noted-there)
            (noted-in-time (now (segment n)) u'.firsts.items (all.records_of (segment n)) carried_lasts (subst (λ m. m ≤ last_moment) kept'.going.sees.looks.now_is kept'.going.sees.looks.in_time)
            (carried-in-time (names (segment n)) (lasts_carried (segment n))
            ((λ i. list_all (λ q. nat_le q.1 last_moment) (carried-moments k entries-k i)) ∙ lasts-in-time (segment k) u ls lasts-there in_time)));
        carried = (λ i. list_all (λ q. nat_le q.1 last_moment) (carried-moments k entries-k i)) ∙ lasts-in-time (segment k) u ls lasts-there in_time;
        moved_is = λ many quiet. lasts-n ∙ sym is;
      }
