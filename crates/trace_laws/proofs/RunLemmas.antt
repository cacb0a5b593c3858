-- What a text begins with tells the run.
use Rattle.std.proofs.Common.{◌≡◌, ◌≢◌, ◌∙◌, ap, sym, subst, refl, ℕ, ◌+◌, ◌<◌, ◌≤◌, ◌^◌, inl, inr, List, [], ◌∷◌, ◌++◌, length, Bool, true, false, arith, append_assoc, append-nil, length-append}
use Rattle.std.specs.Prelude.{◌⊎◌, None, if◌then◌else◌}
use Rattle.ha_journal.specs.declared.entry.Entry.{Entry}
use Rattle.ha_journal.specs.declared.entry.Entry.TheVariants.{Boot, Line, Step, Again}
use Rattle.ha_config.specs.Words.{Text}
use Rattle.ha_journal.specs.Commands.{IsReadEntry}
use Rattle.ha_journal.specs.Journal.{HasEntry, Journal, more}
use Rattle.ha_laws.proofs.RightMore.{each-last}
use Rattle.ha_journal.specs.Entries.{again_in, is_restart}
use Rattle.ha_model.specs.Records.{Records}
use Rattle.ha_whole.specs.Trace.{names}
use Rattle.ha_whole.specs.Whole.{CannotRestart, HasRoom, IsBehind, IsFull, IsWithin, LacksRoom, Lawful, ends_segment, is_quiet, opened, put, records_of}
use Rattle.ha_config.specs.CheckText.{as_line}
use Rattle.ha_journal.specs.EntryText.{end_line, trace_line}
use Rattle.ha_config.proofs.ListLemmas.{true-false}
use Rattle.whole_laws.proofs.AnswerLemmas.{Rest, whole-rest}
use Rattle.whole_laws.proofs.CutLemmas.{cut-first}
use Rattle.whole_laws.proofs.FrontLemmas.{front-lawful}
use Rattle.ha_replay.specs.Traces.{IsEnd}
use Rattle.ha_replay.proofs.SeamLemmas.{behind-of, each-front}
use Rattle.conf_auto.specs.Config.{config_in}
use Rattle.trace_laws.specs.Lines.{Cuts}
use Rattle.trace_laws.specs.Runs.{Begins, GoesOn, IsFirst, IsRun, MayFollow, line_count}
use Rattle.trace_laws.specs.Tells.{GoesNoFurther, HasNoAgain, HasNoEnd, HasNoRoom, IsFarthest, IsNoTrace, IsTraceOf, RestartsNext}
use Rattle.trace_laws.proofs.CutLemmas.{line_front, one_cut, one_front}
use Rattle.trace_laws.proofs.FeedLemmas.{end_feed, entry_feed}
use Rattle.trace_laws.proofs.FirstLemmas.{one_first}
use Rattle.trace_laws.proofs.EntryLemmas.{known_tail, same_restart}
use Rattle.trace_laws.proofs.FrontLemmas.{AllKnown, added, all_known, opened_behind, opened_is, opened_on, put_front, read_added}
use Rattle.trace_laws.proofs.RoomLemmas.{had_room, room_or_none, within_front}
use Rattle.trace_laws.proofs.WalkLemmas.{IsFront, either_way, told, told_is, walk}

-- ---- two runs with whose traces one text begins

-- a run, ended or not, with what is left behind its trace, is a front of another
abbrev pub IsFrontRun : Journal → Bool → Text → Journal → Bool → Text → Type 0
IsFrontRun j ended left j' ended' left' = IsFront [] j ended left j' ended' left'

text_told : (text : Text) (j : Journal) (rs : Records) (ended : Bool) (left : Text) → Begins text j rs ended left → text ≡ told [] j ended left
text_told text j rs ended left b = b.text_is ∙ told_is [] j ended left

-- a run's journal, with the Again that is put behind a Restart at its end
lawful_run : (x : Entry) (xs : Journal) (rs : Records) → IsRun (x ∷ xs) rs → Lawful (x ∷ (xs ++ added (x ∷ xs))) rs
lawful_run x xs rs run = subst (λ l. Lawful l rs) (opened_is (x ∷ xs)) run.1

known_behind : (x : Entry) (xs : Journal) (rs : Records) → IsRun (x ∷ xs) rs → AllKnown (xs ++ added (x ∷ xs))
known_behind x xs rs run = known_tail x (xs ++ added (x ∷ xs)) (all_known (x ∷ (xs ++ added (x ∷ xs))) rs (lawful_run x xs rs run) (read_added (x ∷ xs) run.2))

-- LAW: of two runs with whose traces a text begins, one is a front of the other
pub fronts : (text : Text) (j j' : Journal) (rs rs' : Records) (ended ended' : Bool) (left left' : Text) → Begins text j rs ended left → Begins text j' rs' ended' left'
    → IsFrontRun j ended left j' ended' left' ⊎ IsFrontRun j' ended' left' j ended left
fronts text [] j' rs rs' true ended' left left' b b' = absurd ((b.ends refl).0)
fronts text [] j' rs rs' false ended' left left' b b' = inl (inr (refl, (j', refl, sym b.text_is ∙ text_told text j' rs' ended' left' b')))
fronts text (x ∷ xs) [] rs rs' ended true left left' b b' = absurd ((b'.ends refl).0)
fronts text (x ∷ xs) [] rs rs' ended false left left' b b' = inr (inr (refl, (x ∷ xs, refl, sym b'.text_is ∙ text_told text (x ∷ xs) rs ended left b)))
fronts text (x ∷ xs) (y ∷ ys) rs rs' ended ended' left left' b b' =
    let all : List Text = names [] in
    let whole : told [] (x ∷ xs) ended left ≡ told [] (y ∷ ys) ended' left' = sym (text_told text (x ∷ xs) rs ended left b) ∙ text_told text (y ∷ ys) rs' ended' left' b' in
    let cut = one_front (trace_line all x) (told (x ∷ []) xs ended left) (trace_line all y) (told (y ∷ []) ys ended' left') (entry_feed all x) (entry_feed all y) whole in
    let same : x ≡ y = one_first all all x y b.run.0 b'.run.0 cut.0 in
    let behind : told (x ∷ []) xs ended left ≡ told (x ∷ []) ys ended' left' = cut.1 ∙ (λ i. told (sym same i ∷ []) ys ended' left') in
    let ts : Journal = added (x ∷ xs) in
    let us : Journal = added (y ∷ ys) in
    let lawful = lawful_run x xs rs b.run in
    let lawful' = lawful_run y ys rs' b'.run in
    let rest : Rest (x ∷ []) (ys ++ us) rs' = subst (λ z. Rest (z ∷ []) (ys ++ us) rs') (sym same) (whole-rest y (ys ++ us) rs' lawful') in
    let low = b.room.room in
    let count = ap length (opened_is (x ∷ xs)) in
    let way = walk xs ended ys ended' (x ∷ []) rs rs' left left' ts us tt (cut-first x lawful.right.journal.entries.0) (omega (arith, low, count, length-append (x ∷ xs) ts)) (whole-rest x (xs ++ ts) rs lawful) rest
    (known_behind x xs rs b.run) (known_behind y ys rs' b'.run) behind in
    either_way [] x y xs ys ended ended' left left' same way

-- ---- finished runs

same_records : (j j' : Journal) (rs rs' : Records) → j ≡ j' → IsRun j rs → IsRun j' rs' → rs ≡ rs'
same_records [] j' rs rs' e run run' = (let none : IsRun [] rs' = subst (λ l. IsRun l rs') (sym e) run' in run ∙ sym none)
same_records (x ∷ xs) j' rs rs' e run run' =
    (let moved : IsRun (x ∷ xs) rs' = subst (λ l. IsRun l rs') (sym e) run' in run.1.right.records_are ∙ sym moved.1.right.records_are)

-- LAW: a text is the trace of one finished run at most
pub one_run : (text : Text) (j j' : Journal) (rs rs' : Records) → IsTraceOf text j rs → IsTraceOf text j' rs' → (j ≡ j') × (rs ≡ rs')
one_run text j j' rs rs' b b' = by (fronts text j j' rs rs' true true [] [] b b')
  where
    both : j ≡ j' → (j ≡ j') × (rs ≡ rs')
    both e = (e, same_records j j' rs rs' e b.run b'.run)

    by : IsFrontRun j true [] j' true [] ⊎ IsFrontRun j' true [] j true [] → (j ≡ j') × (rs ≡ rs')
    by (inl (inl f)) = both (sym f.2)
    by (inl (inr f)) = absurd (true-false f.0)
    by (inr (inl f)) = both f.2
    by (inr (inr f)) = absurd (true-false f.0)

-- LAW: the shorter of two runs with whose traces a text begins is what the longer one begins with
pub shorter_front : (text : Text) (j j' : Journal) (rs rs' : Records) (ended ended' : Bool) (left left' : Text) → Begins text j rs ended left → Begins text j' rs' ended' left' → length j ≤ length j'
    → (behind : Journal) × (j' ≡ j ++ behind)
shorter_front text j j' rs rs' ended ended' left left' b b' le = by (fronts text j j' rs rs' ended ended' left left' b b')
  where
    none_more : (behind : Journal) → j ≡ j' ++ behind → (more : Journal) × (j' ≡ j ++ more)
    none_more [] e = ([], sym (append-nil j ∙ e ∙ append-nil j'))
    none_more (x ∷ xs) e = absurd (let n = ap length e in omega (arith, n, le, length-append j' (x ∷ xs)))

    by : IsFrontRun j ended left j' ended' left' ⊎ IsFrontRun j' ended' left' j ended left → (behind : Journal) × (j' ≡ j ++ behind)
    by (inl (inl f)) = ([], f.2 ∙ sym (append-nil j))
    by (inl (inr f)) = (f.1.0, f.1.1)
    by (inr (inl f)) = ([], sym f.2 ∙ sym (append-nil j))
    by (inr (inr f)) = none_more f.1.0 f.1.1

-- ---- where a text goes no further

-- the line that is left begins with a line of a longer run
cut_entry : (all : List Text) (x : Entry) (left behind : Text) → left ≡ trace_line all x ++ behind → Cuts left (entry_feed all x).line behind
cut_entry all x left behind e = (let feed = entry_feed all x in record { text_is = e ∙ sym (line_front feed.line (trace_line all x) behind feed.shown_is); one_line = feed.one_line })

cut_end : (n : ℕ) (left behind : Text) → left ≡ end_line n ++ behind → Cuts left (end_feed n).line behind
cut_end n left behind e = (let feed = end_feed n in record { text_is = e ∙ sym (line_front feed.line (end_line n) behind feed.shown_is); one_line = feed.one_line })

pub run_front : (j behind : Journal) (rs : Records) → HasEntry j → IsRun (j ++ behind) rs → IsRun j (records_of (opened j))
run_front [] behind rs has run = absurd has
run_front (x ∷ xs) behind rs has run =
    let j : Journal = x ∷ xs in (
      run.0,
      front-lawful j (behind ++ added (j ++ behind)) rs tt (subst (λ l. Lawful l rs) (opened_behind j behind) run.1),
      each-front (λ before y. IsReadEntry config_in y) [] j behind run.2,
    )

has_more : (j : Journal) (x : Entry) → HasEntry (more j x)
has_more [] x = tt
has_more (first ∷ behind) x = tt

long_front : (j : Journal) (x : Entry) (xs j' : Journal) → j' ≡ j ++ (x ∷ xs) → j' ≡ more j x ++ xs
long_front j x xs j' e = e ∙ sym (append_assoc j (x ∷ []) xs)

-- an entry with which a longer run goes on may follow
entry_follows : (j j' : Journal) (rs' : Records) (x : Entry) (xs : Journal) → j' ≡ j ++ (x ∷ xs) → IsRun j' rs' → GoesOn j (entry_feed (names j) x).line x (records_of (opened (more j x)))
entry_follows j j' rs' x xs e run =
    let long : j' ≡ more j x ++ xs = long_front j x xs j' e in
    let moved : IsRun (more j x ++ xs) rs' = subst (λ z. IsRun z rs') long run in
    record {
      run = run_front (more j x) xs rs' (has_more j x) moved;
      line_is = (entry_feed (names j) x).shown_is;
    }

-- the end of a run that ended may follow
end_is : (j j' : Journal) (rs rs' : Records) → j' ≡ j → IsRun j rs → IsRun j' rs' → ends_segment j' ≡ false → is_quiet rs' j' ≡ true → IsEnd j rs (end_feed (length j)).line
end_is j j' rs rs' e run run' open_end quiet = record {
  opened = (λ i. ends_segment (sym e i)) ∙ open_end;
  quiet = (λ i. is_quiet (sym (same_records j' j rs' rs e run' run) i) (sym e i)) ∙ quiet;
  line_is = (end_feed (length j)).shown_is;
}

-- ---- how another run with whose trace the text begins may be longer

-- by a further entry, whose line is left
record ByEntry (j : Journal) (ended : Bool) (left : Text) (j' : Journal) : Type 0 where
  entry : Entry
  more_behind : Journal
  behind : Text
  unended : ended ≡ false
  journal : j' ≡ j ++ (entry ∷ more_behind)
  left_is : left ≡ trace_line (names j) entry ++ behind

-- by the end line, which is left
record ByEnd (j : Journal) (ended : Bool) (left : Text) (j' : Journal) (ended' : Bool) (left' : Text) : Type 0 where
  unended : ended ≡ false
  ends : ended' ≡ true
  journal : j' ≡ j
  left_is : left ≡ end_line (length j) ++ left'

abbrev IsLonger : Journal → Bool → Text → Journal → Bool → Text → Type 0
IsLonger j ended left j' ended' left' = ByEntry j ended left j' ⊎ ByEnd j ended left j' ended' left'

abbrev Compared : Journal → Bool → Text → Journal → Bool → Text → Type 0
Compared j ended left j' ended' left' = (line_count j' ended' ≤ line_count j ended) ⊎ IsLonger j ended left j' ended' left'

both_ended : (m n : ℕ) (e e' : Bool) → e ≡ true → e' ≡ true → m ≡ n → m + (if e' then 1 else 0) ≤ n + (if e then 1 else 0)
both_ended m n false e' h h' same = absurd (true-false (sym h))
both_ended m n true false h h' same = absurd (true-false (sym h'))
both_ended m n true true h h' same = omega (arith, same)

one_open : (m n : ℕ) (e e' : Bool) → e' ≡ false → m ≤ n → m + (if e' then 1 else 0) ≤ n + (if e then 1 else 0)
one_open m n e true h le = absurd (true-false h)
one_open m n true false h le = omega (arith, le)
one_open m n false false h le = omega (arith, le)

goes_on : (j : Journal) (ended : Bool) (left : Text) (j' : Journal) (behind : Journal) (ended' : Bool) (left' : Text) → ended ≡ false → j' ≡ j ++ behind → left ≡ told j behind ended' left'
    → Compared j ended left j' ended' left'
goes_on j ended left j' (x ∷ xs) ended' left' open_run journal is =
    inr (inl (record { entry = x; more_behind = xs; behind = told (more j x) xs ended' left'; unended = open_run; journal = journal; left_is = is }))
goes_on j ended left j' [] true left' open_run journal is = inr (inr (record { unended = open_run; ends = refl; journal = journal ∙ append-nil j; left_is = is }))
goes_on j ended left j' [] false left' open_run journal is =
    inl (let n = ap length (journal ∙ append-nil j) in one_open (length j') (length j) ended false refl (omega (arith, n)))

compared : (j : Journal) (ended : Bool) (left : Text) (j' : Journal) (ended' : Bool) (left' : Text) → IsFrontRun j ended left j' ended' left' ⊎ IsFrontRun j' ended' left' j ended left → Compared j ended left j' ended' left'
compared j ended left j' ended' left' (inl (inl f)) = inl (both_ended (length j') (length j) ended ended' f.0 f.1 (ap length f.2))
compared j ended left j' ended' left' (inl (inr f)) =
    goes_on j ended left j' f.1.0 ended' left' f.0 f.1.1 f.1.2
compared j ended left j' ended' left' (inr (inl f)) = inl (both_ended (length j') (length j) ended ended' f.1 f.0 (sym (ap length f.2)))
compared j ended left j' ended' left' (inr (inr f)) = inl (let n = ap length f.1.1 in one_open (length j') (length j) ended ended' f.0 (omega (arith, n, length-append j' f.1.0)))

-- ---- where there is no room

pub none_full : IsFull [] → ⊥
none_full (inl e) = (let n : 0 ≡ 1_048_576 = e in omega (arith, n))
none_full (inr e) = (let n : 0 ≡ 4_194_304 = e in omega (arith, n))

pub first_plain : (x : Entry) → IsFirst x → is_restart x ≡ true → ⊥
first_plain (Boot text config stored start zone carry) h e = true-false (sym e)
first_plain (Line source number cmd) h e = h
first_plain (Step worker serial branch item) h e = h
first_plain (Again number start stored carry) h e = h

plain_behind : (j : Journal) (x : Entry) → IsBehind j x → ends_segment j ≡ false → again_in x ≡ None
plain_behind j (Boot text config stored start zone carry) h e = absurd h
plain_behind j (Line source number cmd) h e = refl
plain_behind j (Step worker serial branch item) h e = refl
plain_behind j (Again number start stored carry) h e = absurd (true-false (sym h.0 ∙ e))

lawful_next : (j : Journal) (x : Entry) (rs : Records) → HasEntry j → IsRun (more j x) rs → Lawful (put j x) rs
lawful_next [] x rs has run = absurd has
lawful_next (first ∷ behind) x rs has run = run.1

lawful_opened : (j xs : Journal) (rs : Records) → HasEntry j → IsRun (j ++ xs) rs → Lawful (opened (j ++ xs)) rs
lawful_opened [] xs rs has run = absurd has
lawful_opened (first ∷ behind) xs rs has run = run.1

pub read_next : (j : Journal) (x : Entry) (rs : Records) → HasEntry j → IsRun (more j x) rs → IsReadEntry config_in x
read_next [] x rs has run = absurd has
read_next (first ∷ behind) x rs has run = each-last (λ before y. IsReadEntry config_in y) [] (first ∷ behind) x run.2

-- a journal without room for what stands next has no longer run
module _ (j : Journal) (left : Text) (has : HasEntry j) (open_end : ends_segment j ≡ false) (short : length j < 2 ^ 64)
    (x : Entry) (xs : Journal) (j' : Journal) (rs' : Records) (behind : Text) (e : j' ≡ j ++ (x ∷ xs)) (left_is : left ≡ trace_line (names j) x ++ behind) (run : IsRun j' rs') where
  goes : GoesOn j (entry_feed (names j) x).line x (records_of (opened (more j x)))
  goes = entry_follows j j' rs' x xs e run

  stands : Lawful (put j x) (records_of (opened (more j x)))
  stands = lawful_next j x (records_of (opened (more j x))) has goes.run

  lacks_it : IsFull (opened j) ⊎ (CannotRestart (opened j) × RestartsNext j left) → LacksRoom j (is_restart x)
  lacks_it (inl full) = inl (subst IsFull (opened_on j open_end) full)
  lacks_it (inr cannot) =
      let n = cannot.1 in
      let cuts = cut_entry (names j) x left behind left_is in
      let same = (one_cut n.line n.behind (entry_feed (names j) x).line behind n.cuts.one_line cuts.one_line (sym n.cuts.text_is ∙ cuts.text_is)).0 in
      inr (
        same_restart j n.line n.entry x n.records (records_of (opened (more j x))) has short (lawful_next j n.entry n.records has n.goes_on.run) stands
            (read_next j n.entry n.records has n.goes_on.run) (read_next j x (records_of (opened (more j x))) has goes.run) n.goes_on.line_is (ap as_line same ∙ goes.line_is) n.restarts,
        subst CannotRestart (opened_on j open_end) cannot.0,
      )

  had_it : IsWithin (opened j') → HasRoom j (is_restart x)
  had_it within =
      let long : j' ≡ more j x ++ xs = long_front j x xs j' e in
      let moved : IsRun (more j x ++ xs) rs' = subst (λ z. IsRun z rs') long run in
      let lawful = lawful_opened (more j x) xs rs' (has_more j x) moved in
      let front = put_front j x xs has lawful.right.journal.entries in
      let none = plain_behind j x (behind-of j x has stands.right.journal.entries) open_end in
      had_room j x none (within_front (put j x) front.0 (subst IsWithin ((λ i. opened (long i)) ∙ front.1) within))

no_entry : (j : Journal) (left : Text) → HasNoRoom j left → HasNoAgain j left → (j' : Journal) (rs' : Records) (x : Entry) (xs : Journal) (behind : Text) → j' ≡ j ++ (x ∷ xs) → left ≡ trace_line (names j) x ++ behind
    → IsRun j' rs' → IsWithin (opened j') → ⊥
no_entry [] left (inl full) no_again j' rs' x xs behind e left_is run within = none_full full
no_entry [] left (inr cannot) no_again j' rs' x xs behind e left_is run within = first_plain cannot.1.entry cannot.1.goes_on.run.0 cannot.1.restarts
no_entry (first ∷ es) left lacks no_again j' rs' x xs behind e left_is run within = by (ends_segment (first ∷ es)) refl
  where
    by : (b : Bool) → ends_segment (first ∷ es) ≡ b → ⊥
    by true ends = no_again (entry_feed (names (first ∷ es)) x).line behind x (records_of (opened (more (first ∷ es) x))) (cut_entry (names (first ∷ es)) x left behind left_is) ends (entry_follows (first ∷ es) j' rs' x xs e run)
    by false open_end =
        let count = ap length e ∙ length-append (first ∷ es) (x ∷ xs) in
        let whole = ap length (opened_is j') ∙ length-append j' (added j') in
        let low = within.room in
        let short : length (first ∷ es) < 2 ^ 64 = omega (arith, count, whole, low) in
        room_or_none (first ∷ es) (is_restart x) (had_it (first ∷ es) left tt open_end short x xs j' rs' behind e left_is run within)
        (lacks_it (first ∷ es) left tt open_end short x xs j' rs' behind e left_is run lacks)

module _ (text : Text) (j : Journal) (rs : Records) (ended : Bool) (left : Text) (b : Begins text j rs ended left) where
  no_longer : ((j' : Journal) (rs' : Records) (ended' : Bool) (left' : Text) → Begins text j' rs' ended' left' → IsLonger j ended left j' ended' left' → ⊥) → IsFarthest text (line_count j ended)
  no_longer none j' rs' ended' left' b' = by (compared j ended left j' ended' left' (fronts text j j' rs rs' ended ended' left left' b b'))
    where
      by : Compared j ended left j' ended' left' → line_count j' ended' ≤ line_count j ended
      by (inl le) = le
      by (inr longer) = absurd (none j' rs' ended' left' b' longer)

  -- LAW: where the line that is left may not stand next, the text begins with the trace of no longer run
  pub no_further : GoesNoFurther j rs ended left → IsFarthest text (line_count j ended)
  no_further stops = no_longer by
    where
      open_stops : (line behind : Text) → ended ≡ false → (ended ≡ true) ⊎ (MayFollow j rs line → ⊥) → MayFollow j rs line → ⊥
      open_stops line behind open_run (inl closed) follows = true-false (sym closed ∙ open_run)
      open_stops line behind open_run (inr never) follows = never follows

      by : (j' : Journal) (rs' : Records) (ended' : Bool) (left' : Text) → Begins text j' rs' ended' left' → IsLonger j ended left j' ended' left' → ⊥
      by j' rs' ended' left' b' (inl e) =
          let line : Text = (entry_feed (names j) e.entry).line in
          open_stops line e.behind e.unended (stops line e.behind (cut_entry (names j) e.entry left e.behind e.left_is)) (inr (e.entry, records_of (opened (more j e.entry)), entry_follows j j' rs' e.entry e.more_behind e.journal b'.run))
      by j' rs' ended' left' b' (inr e) =
          let line : Text = (end_feed (length j)).line in
          let ends = b'.ends e.ends in
          open_stops line left' e.unended (stops line left' (cut_end (length j) left left' e.left_is)) (inl (subst HasEntry e.journal ends.0, end_is j j' rs rs' e.journal b.run b'.run ends.1 ends.2))

  -- LAW: so it is where there is no room for what stands next, and neither the end line nor that of an Again is left
  pub full_further : HasNoRoom j left → HasNoEnd j rs left → HasNoAgain j left → IsFarthest text (line_count j ended)
  full_further lacks no_end_line no_again_line = no_longer by
    where
      by : (j' : Journal) (rs' : Records) (ended' : Bool) (left' : Text) → Begins text j' rs' ended' left' → IsLonger j ended left j' ended' left' → ⊥
      by j' rs' ended' left' b' (inl e) = no_entry j left lacks no_again_line j' rs' e.entry e.more_behind e.behind e.journal e.left_is b'.run b'.room
      by j' rs' ended' left' b' (inr e) =
          (let ends = b'.ends e.ends in
          no_end_line (end_feed (length j)).line left' (cut_end (length j) left left' e.left_is) (end_is j j' rs rs' e.journal b.run b'.run ends.1 ends.2))

  -- LAW: a text that begins with the trace of no longer run, and is not that of this one, is the trace of no finished run
  pub no_trace : (ended ≡ true → left ≢ []) → IsFarthest text (line_count j ended) → IsNoTrace text
  no_trace unfinished farthest j' rs' b' = by (fronts text j j' rs rs' ended true left [] b b')
    where
      most : line_count j' true ≤ line_count j ended
      most = farthest j' rs' true [] b'

      none : (e : Bool) → e ≡ false → length j ≤ length j' → length j' + 1 ≤ length j + (if e then 1 else 0) → ⊥
      none true h le low = true-false h
      none false h le low = omega (arith, le, low)

      by : IsFrontRun j ended left j' true [] ⊎ IsFrontRun j' true [] j ended left → ⊥
      by (inl (inl f)) = unfinished f.0 f.3
      by (inl (inr f)) = none ended f.0 (let n = ap length f.1.1 in omega (arith, n, length-append j f.1.0)) most
      by (inr (inl f)) = unfinished f.1 (sym f.3)
      by (inr (inr f)) = true-false f.0
