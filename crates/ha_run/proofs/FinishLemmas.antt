-- What stands after a run of a booted core, at each status.
use Rattle.std.proofs.Common.{◌≡◌, ◌⊎◌, inl, inr, ◌∙◌, ◌<◌, ◌+◌, ◌==◌, ℕ, suc, Bool, true, false, List, [], ◌∷◌, ◌++◌, length, map, Option, Some, None, ap, arith, length-append, refl, sym, subst}
use Rattle.std.proofs.Math.Nat.{le_refl}
use Rattle.std.proofs.lemmas.Bool.{eqb-true}
use Rattle.std.proofs.lemmas.List.{append-nil}
use Rattle.std.proofs.lemmas.Option.{none-some, same_Some}
use Rattle.std.specs.Prelude.{◌&&◌, IfSome, IsSomeAnd, slice_get, if◌then◌else◌}
use Rattle.std.specs.List.{list_all}
use Rattle.ha_io.specs.Told.{told_as}
use Rattle.ha_io.proofs.ToldLemmas.{Gives-nothing}
use Rattle.ha_journal.specs.declared.entry.Entry.{Entry}
use Rattle.ha_journal.specs.declared.entry.Entry.TheVariants.{Boot, Line, Step, Again}
use Rattle.ha_journal.specs.Commands.{ArePutFrom, AreRead}
use Rattle.ha_journal.specs.Entries.{restarts}
use Rattle.ha_journal.specs.Journal.{Journal}
use Rattle.ha_model.specs.Lawful.{is_by_worker_0}
use Rattle.ha_whole.specs.Trace.{call_text, trace_text}
use Rattle.ha_whole.specs.Whole.{AreEntries, CannotRestart, IsFull, Lawful, Right, changes_store, is_quiet, put, store_text}
use Rattle.ha_model.specs.Records.{Records}
use Rattle.ha_journal.specs.EntryText.{error_text}
use Rattle.ha_config.specs.declared.command.Cmd.{Cmd}
use Rattle.ha_config.specs.declared.config.Config.{Config}
use Rattle.ha_config.specs.Words.{Text}
use Rattle.flow_line.specs.Command.{cmd_of}
use Rattle.ha_status.specs.declared.status.Status.{Status}
use Rattle.ha_status.specs.Files.{Files}
use Rattle.bus_turn.specs.declared.fault.BusFault.{BusFault}
use Rattle.bus_turn.specs.Buses.{HasTaken, HasTakenFront, HoldsStore, IsBus, IsCut, IsWritten, SinkFailed, Stands}
use Rattle.bus_turn.specs.Ends.{HasEnded}
use Rattle.bus_turn.specs.Shown.{BusView, texts_of}
use Rattle.bus_turn.specs.States.{KeeperState, Outside, SinkState}
use Rattle.bus_turn.specs.Writes.{Saves, Shows}
use Rattle.bus_turn.proofs.GrowthLemmas.{full-cause, shows-grow, shows-rise}
use Rattle.bus_turn.proofs.LastLemmas.{boot-put}
use Rattle.whole_laws.proofs.PutLemmas.{first-put}
use Rattle.bus_pass.specs.declared.hand.Origin.{Origin}
use Rattle.bus_pass.specs.Origins.{IsStored}
use Rattle.ha_worker.specs.declared.end.WorkerEnd.{WorkerEnd}
use Rattle.ha_worker.specs.Closing.{Closed}
use Rattle.ha_worker.specs.Courses.{Course, SourceState}
use Rattle.ha_worker.proofs.CloseLemmas.{closed_puts}
use Rattle.ha_worker.proofs.CourseLemmas.{whole_empty}
use Rattle.ha_run.specs.Core.{BeginsWith, CoreRan, IsEndCut, IsEndWritten, IsPartWritten, OutCause, SameOutside, view_of, writings}
use Rattle.ha_run.specs.Finish.{Finishes, IsStop, MayClose, StopsOrEnds, ended_status}
use Rattle.ha_run.specs.Opened.{AreNew}
use Rattle.ha_run.specs.Served.{AreServed, Each, Feed, IsFirst, IsOf, OwesLine, OwesRestart}
use Rattle.ha_run.specs.Stands.{Ran, RanThrough, Scene, StandsAt}
use Rattle.ha_run.specs.Team.{AreWorked, StoodStill, Teamed, WentRound, status_of, told_by}
use Rattle.ha_run.proofs.ServedLemmas.{all_served, all_through, new_length, told_cases, worked_later}
use Rattle.ha_run.proofs.WrittenLemmas.{ended_same, grown_out, round_same, same_then, seen_cut, seen_whole}

-- ---- the boot

starts : (j : Journal) (boot : Entry) → slice_get j 0 ≡ Some boot → BeginsWith boot j
starts [] boot e = absurd (none-some boot e)
starts (x ∷ xs) boot e = (xs, ap (λ (z : Entry). z ∷ xs) (same_Some x boot e))

begins_later : (boot : Entry) (j j' later : Journal) → j' ≡ j ++ later → BeginsWith boot j → BeginsWith boot j'
begins_later boot j j' later e h = (h.0 ++ later, e ∙ ap (λ (z : Journal). z ++ later) h.1)

boot_puts : (rs : Records) (x : Entry) (k : ℕ) → Right (x ∷ []) rs → ArePutFrom k (x ∷ []) []
boot_puts rs (Boot text config stored start zone carry) k right = tt
boot_puts rs (Again number start stored carry) k right = absurd right.journal.entries.0
boot_puts rs (Line source number cmd) k right = absurd right.journal.entries.0
boot_puts rs (Step worker serial branch item) k right = absurd right.journal.entries.0

boot_lawful : (rs : Records) (x : Entry) → Right (x ∷ []) rs → Lawful (x ∷ []) rs
boot_lawful rs (Boot text config stored start zone carry) right = record { right = right; turns = (tt, tt); closed = (tt, tt) }
boot_lawful rs (Again number start stored carry) right = absurd right.journal.entries.0
boot_lawful rs (Line source number cmd) right = absurd right.journal.entries.0
boot_lawful rs (Step worker serial branch item) right = absurd right.journal.entries.0

boot_named : (rs : Records) (x : Entry) (n : ℕ) → Right (x ∷ []) rs → Each (IsOf n) (x ∷ [])
boot_named rs (Boot text config stored start zone carry) n right = (tt, tt)
boot_named rs (Again number start stored carry) n right = absurd right.journal.entries.0
boot_named rs (Line source number cmd) n right = absurd right.journal.entries.0
boot_named rs (Step worker serial branch item) n right = absurd right.journal.entries.0

-- ---- the closing steps

false_true : false ≡ true → ⊥
false_true e = let bad : ◌≡◌ {A = Bool} false true = e in cc

fst : (x y : Bool) → (x && y) ≡ true → x ≡ true
fst true y e = refl
fst false y e = e

snd : (x y : Bool) → (x && y) ≡ true → y ≡ true
snd true y e = e
snd false y e = absurd (false_true e)

steps_named : (n : ℕ) (xs : List Entry) → 0 < n → list_all is_by_worker_0 xs ≡ true → Each (IsOf n) xs
steps_named n [] some h = tt
steps_named n (Boot text config stored start zone carry ∷ xs) some h = absurd (false_true h)
steps_named n (Again number start stored carry ∷ xs) some h = absurd (false_true h)
steps_named n (Line source number cmd ∷ xs) some h = absurd (false_true h)
steps_named n (Step worker serial branch item ∷ xs) some h =
    let e : worker ≡ 0 = eqb-true worker 0 (fst (worker == 0) (list_all is_by_worker_0 xs) h) in
    (omega (arith, e, some), steps_named n xs some (snd (worker == 0) (list_all is_by_worker_0 xs) h))

both_named : (n : ℕ) (xs ys : List Entry) → Each (IsOf n) xs → Each (IsOf n) ys → Each (IsOf n) (xs ++ ys)
both_named n [] ys h k = k
both_named n (x ∷ xs) ys h k = (h.0, both_named n xs ys h.1 k)

closed_named : (n : ℕ) (a b : BusView) → 0 < n → Closed a b → Each (IsOf n) a.journal → Each (IsOf n) b.journal
closed_named n a b some c h = let P : Journal → Type 0 = λ z. Each (IsOf n) z in subst P (sym c.behind) (both_named n a.journal c.later h (steps_named n c.later some c.steps))

-- ---- the keeper at the boot

none_left : (later : List Entry) → length later ≡ 0 → later ≡ []
none_left [] e = refl
none_left (x ∷ xs) e = absurd (omega (arith, e))

closed_stored : (boot : Entry) (a b : BusView) → BeginsWith boot a.journal → Closed a b → IsStored a → IsStored b
closed_stored boot a b begun c stored = λ one.
    let later : c.later ≡ [] = none_left c.later (omega (arith, one, ap length c.behind, length-append a.journal c.later, ap length begun.1)) in
    let same : b.journal ≡ a.journal = c.behind ∙ ap (λ (z : List Entry). a.journal ++ z) later ∙ append-nil a.journal in
    let P : Journal → Type 0 = λ z. HoldsStore z b.out.keep in
    let Q : Outside → Type 0 = λ z. HoldsStore a.journal z.keep in
    subst P (sym same) (subst Q (sym (c.untouched later)) (stored (sym (ap length same) ∙ one)))

-- a keeper that was told this text holds it
told_text : (kept : Option (Option Text)) (k : KeeperState) (text : Text) → k.kept ≡ told_as kept (Some text) → IfSome k.kept (λ t. t ≡ Some text)
told_text kept k text e = subst (λ z. IfSome z (λ t. t ≡ Some text)) (sym e) (by kept)
  where
    by : (o : Option (Option Text)) → IfSome (told_as o (Some text)) (λ t. t ≡ Some text)
    by None = tt
    by (Some old) = refl

saved : (flag : Bool) (text : Text) (k k' : KeeperState) (fault : BusFault) → Saves (if flag then Some text else None) k (Some fault) k'
    → (k'.kept ≡ k.kept) ⊎ IfSome k'.kept (λ t. t ≡ Some text)
saved false text k k' fault w = absurd w
saved true text k k' fault w = by w.0.kept
  where
    by : (k'.kept ≡ k.kept) ⊎ (k'.kept ≡ told_as k.kept (Some text)) → (k'.kept ≡ k.kept) ⊎ IfSome k'.kept (λ t. t ≡ Some text)
    by (inl h) = inl h
    by (inr h) = inr (told_text k.kept k' text h)

-- the keeper after a boot that was not written whole
boot_store : (rs : Records) (boot : Entry) (fault : BusFault) (old new : Outside) → put [] boot ≡ boot ∷ [] → Shows (texts_of rs [] boot) old (Some fault) new
    → (new.keep.kept ≡ old.keep.kept) ⊎ HoldsStore (boot ∷ []) new.keep
boot_store rs boot fault old new is (inl w) = inl (ap (λ (k : KeeperState). k.kept) w.3)
boot_store rs boot fault old new is (inr (inl w)) = inl (ap (λ (k : KeeperState). k.kept) w.3)
boot_store rs boot fault old new is (inr (inr (inl w))) = inl (ap (λ (k : KeeperState). k.kept) w.3)
boot_store rs boot fault old new is (inr (inr (inr w))) =
    let P : Journal → Type 0 = λ z. (new.keep.kept ≡ old.keep.kept) ⊎ HoldsStore z new.keep in
    subst P is (saved (changes_store (put [] boot)) (store_text (put [] boot)) old.keep new.keep fault w.3)

-- a Restart that is not put is a line that is not put
owes_line : (feeds : List Feed) → OwesRestart feeds → OwesLine feeds
owes_line [] h = h
owes_line (feed ∷ feeds) (inl h) = inl (some feed.unput h)
  where
    some : (cmds : List Cmd) → IsSomeAnd (slice_get cmds 0) (λ c. restarts c ≡ true) → 0 < length cmds
    some [] h = absurd h
    some (c ∷ cs) h = omega arith
owes_line (feed ∷ feeds) (inr h) = inr (owes_line feeds h)

-- what a cut has that is not written, at the boot alone
abbrev pub Store : Outside → BusView → Type 0
Store old b = (c : IsCut b) → c.before ≡ [] → (b.out.keep.kept ≡ old.keep.kept) ⊎ HoldsStore b.journal b.out.keep

stored_store : (old : Outside) (b : BusView) → AreEntries b.journal → IsStored b → Store old b
stored_store old b entries stored = λ c h.
    inr (stored (first-put b.journal c.last (c.is ∙ ap (λ (z : Journal). put z c.last) h) entries))

-- ---- what stands, by the fault that the bus keeps

abbrev pub scene : Option Files → List Text → BusView → List SourceState → Outside → Scene
scene files names b sources out = record { files = files; names = names; journal = b.journal; records = b.records; sources = sources }

part_written : (old : Outside) (b : BusView) → Store old b → IsCut b → IsPartWritten old (view_of b.journal b.records b.out)
unfolding seen_cut
part_written old b store c = inr (record { cut = seen_cut b c; store = λ h. store c h })

module _ (reading : Text → Option Config) (B : List Entry → Type 0) (files : Option Files) (names : List Text) (old : Outside) (b : BusView) (after : List SourceState) (feeds : List Feed) where
  abbrev Stood : Status → Type 0
  Stood = StandsAt reading B (scene files names b after b.out) (writings old (view_of b.journal b.records b.out))

  abbrev Owes : Type 0
  Owes = (IsFull b.journal × ((is_quiet b.records b.journal ≡ false) ⊎ OwesLine feeds)) ⊎ OwesRestart feeds

  -- what was due had no room
  had_no_room : Owes → IsFull b.journal ⊎ CannotRestart b.journal → (IsFull b.journal × ((is_quiet b.records b.journal ≡ false) ⊎ OwesLine feeds)) ⊎ (CannotRestart b.journal × OwesRestart feeds)
  had_no_room (inl due) lacks = inl due
  had_no_room (inr restart) (inl full) = inl (full, inr (owes_line feeds restart))
  had_no_room (inr restart) (inr cannot) = inr (cannot, restart)

  stopped : (fault : BusFault) → Stands b (Some fault) → Store old b → Ran reading B (scene files names b after b.out) feeds → (fault ≡ BusFault.Full → Owes) → Stood (status_of fault)
  stopped (BusFault.Write z) h store ran due = inl (part_written old b store h.0, record { feeds = feeds; ran = ran })
  stopped BusFault.Keep h store ran due = inr (part_written old b store h.0, record { feeds = feeds; ran = ran })
  stopped BusFault.Memory h store ran due = inr (inl (part_written old b store h, record { feeds = feeds; ran = ran }))
  stopped BusFault.Full h store ran due = (seen_whole b h.0, record { feeds = feeds; ran = ran; full = had_no_room (due refl) h.1 })

stop_cause : (b : BusView) (fault : BusFault) → Stands b (Some fault) → OutCause (status_of fault) b.out
stop_cause b (BusFault.Write z) h = h.1
stop_cause b BusFault.Keep h = h.1
stop_cause b BusFault.Memory h = tt
stop_cause b BusFault.Full h = tt

-- ---- what stands behind the end of the trace

module _ (j : Journal) (out out' : Outside) (same_calls : out'.calls ≡ out.calls) (same_errors : out'.errors ≡ out.errors) (same_keep : out'.keep ≡ out.keep) where
  end_written : (rs : Records) → IsWritten (view_of j rs out) → IfSome out'.trace (HasTaken (trace_text j true)) → IsEndWritten (view_of j rs out')
  end_written rs w h = record {
    calls = subst (λ z. HasTaken (call_text j rs) z) (sym same_calls) w.calls;
    errors = subst (λ z. HasTaken (error_text j) z) (sym same_errors) w.errors;
    trace = h;
    keep = subst (λ z. HoldsStore j z) (sym same_keep) w.keep;
  }

  end_cut : (rs : Records) → IsWritten (view_of j rs out) → IfSome out'.trace (HasTakenFront (trace_text j false) (trace_text j true)) → IsEndCut (view_of j rs out')
  end_cut rs w h = record {
    calls = subst (λ z. HasTaken (call_text j rs) z) (sym same_calls) w.calls;
    errors = subst (λ z. HasTaken (error_text j) z) (sym same_errors) w.errors;
    trace = h;
    keep = subst (λ z. HoldsStore j z) (sym same_keep) w.keep;
  }

and_front : (o : Option SinkState) (P Q : SinkState → Type 0) → IsSomeAnd o (λ s. P s × Q s) → IfSome o P
and_front None P Q h = tt
and_front (Some s) P Q h = h.0

and_only : (o : Option SinkState) (P : SinkState → Type 0) → IsSomeAnd o P → IfSome o P
and_only None P h = tt
and_only (Some s) P h = h

and_behind : (o : Option SinkState) (P Q : SinkState → Type 0) → IsSomeAnd o (λ s. P s × Q s) → IsSomeAnd o Q
and_behind None P Q h = h
and_behind (Some s) P Q h = h.1

end_cause : (j : Journal) (out : Outside) (told : Status) (first : Option BusFault) → HasEnded j first out.trace → OutCause told out → OutCause (ended_status first told) out
end_cause j out told None h told_cause = told_cause
end_cause j out told (Some (BusFault.Write z)) h told_cause = inr (inr (inl (and_behind out.trace (HasTakenFront (trace_text j false) (trace_text j true)) (SinkFailed (BusFault.Write z)) h)))
end_cause j out told (Some BusFault.Keep) h told_cause = absurd h
end_cause j out told (Some BusFault.Full) h told_cause = absurd h
end_cause j out told (Some BusFault.Memory) h told_cause = tt

module _ (reading : Text → Option Config) (B : List Entry → Type 0) (s : Scene) (old out : Outside) (written : IfSome out.trace (HasTaken (trace_text s.journal true)) → IsEndWritten (view_of s.journal s.records out))
    (cut : IfSome out.trace (HasTakenFront (trace_text s.journal false) (trace_text s.journal true)) → IsEndCut (view_of s.journal s.records out)) (through : (feeds : List Feed) × RanThrough reading B s feeds) where
  abbrev Over : Status → Type 0
  Over = StandsAt reading B s (writings old (view_of s.journal s.records out))

  end_stands : (told : Status) (first : Option BusFault) → HasEnded s.journal first out.trace → (IsEndWritten (view_of s.journal s.records out) → Over told) → Over (ended_status first told)
  end_stands told None h by_told = by_told (written h)
  end_stands told (Some (BusFault.Write z)) h by_told = inr (cut (and_front out.trace (HasTakenFront (trace_text s.journal false) (trace_text s.journal true)) (SinkFailed (BusFault.Write z)) h), through)
  end_stands told (Some BusFault.Keep) h by_told = absurd h
  end_stands told (Some BusFault.Full) h by_told = absurd h
  end_stands told (Some BusFault.Memory) h by_told = inr (inr (cut (and_only out.trace (HasTakenFront (trace_text s.journal false) (trace_text s.journal true)) h), through))

-- ---- a bus that did not go round

still_worked : (reading : Text → Option Config) (j : Journal) (first : Option BusFault) → ((first ≡ None) → ⊥) → ((k : ℕ) → ArePutFrom k j []) → (k : ℕ) (before : List SourceState)
    → AreWorked reading j first k before before (map (λ (s : SourceState). None) before) (map (λ (s : SourceState). record { course = Course.Goes; unput = [] }) before)
still_worked reading j first fault puts k [] = tt
still_worked reading j first fault puts k (s ∷ before) = (
  record {
    bytes = [];
    put = [];
    given = record { gave = Gives-nothing s.left; within = omega arith; faults_stay = le_refl s.faults; same_name = refl };
    cmds_are = ap (map cmd_of) whole_empty;
    puts = puts k;
    over = λ free. absurd (fault free);
  },
  still_worked reading j first fault puts (suc k) before,
)

-- ---- a run

module _ (reading : Text → Option Config) (boot : Entry) (old : Outside) (base : BusView) (at_boot : base.journal ≡ boot ∷ []) (shown : Shows (texts_of base.records [] boot) old base.first base.out) (base_bus : IsBus base) (before : List SourceState) where
  start_same : SameOutside old base.out
  start_same = grown_out old base.out (shows-grow (texts_of base.records [] boot) old base.first base.out shown)

  module _ (b : BusView) (after : List SourceState) (ends : List (Option WorkerEnd)) (r : WentRound reading base b before after ends) where
    begun : BeginsWith boot b.journal
    begun = starts b.journal boot (ap (λ (o : Origin). o.boot) r.same ∙ ap (λ (z : Journal). slice_get z 0) at_boot)

    round_out : SameOutside old b.out
    round_out = same_then old base.out b.out start_same (round_same base b r.same)

    module _ (files : Option Files) (names : List Text) (new : AreNew files names before) where
      ran : IsBus b → AreRead reading b.journal → Ran reading (BeginsWith boot) (scene files names b after b.out) r.feeds
      ran bus read = record {
        begins = begun;
        lawful = r.running.lawful;
        read = read;
        room = bus.room;
        named = subst (λ n. Each (IsOf n) b.journal) (sym (new_length files names before new)) r.named;
        served = all_served reading files b.journal b.first 0 names before after ends r.feeds new r.worked;
      }

      ran_closed : (last : BusView) → IsBus last → AreRead reading last.journal → 0 < length before → Closed b last → Ran reading (BeginsWith boot) (scene files names last after last.out) r.feeds
      ran_closed last bus read some c = record {
        begins = begins_later boot b.journal last.journal c.later c.behind begun;
        lawful = c.lawful;
        read = read;
        room = bus.room;
        named = subst (λ n. Each (IsOf n) last.journal) (sym (new_length files names before new)) (closed_named (length before) b last some c r.named);
        served = all_served reading files last.journal b.first 0 names before after ends r.feeds new
            (worked_later reading b.journal last.journal b.first (λ k cmds p. closed_puts b last k cmds c p) 0 before after ends r.feeds r.worked);
      }

      ran_through : (last : BusView) (out : Outside) → IsBus last → AreRead reading last.journal → 0 < length before → Closed b last → b.first ≡ None → is_quiet last.records last.journal ≡ true
          → RanThrough reading (BeginsWith boot) (scene files names last after out) r.feeds
      ran_through last out bus read some c free quiet =
          record { ran = ran_closed last bus read some c; through = all_through reading b.journal b.first free 0 before after ends r.feeds r.worked; quiet = quiet }

      -- the status by the ends of the workers
      told_stands : (last : BusView) (out : Outside) → b.first ≡ None → RanThrough reading (BeginsWith boot) (scene files names last after out) r.feeds → IsEndWritten (view_of last.journal last.records out)
          → StandsAt reading (BeginsWith boot) (scene files names last after out) (writings old (view_of last.journal last.records out)) (told_by 0 ends)
      told_stands last out free through written =
          told_cases reading b.journal b.first free (StandsAt reading (BeginsWith boot) (scene files names last after out) (writings old (view_of last.journal last.records out))) 0 before after ends r.feeds r.worked
          (λ each. (written, (r.feeds, through, each)))
          (λ i h. let e : i ≡ 0 + i = omega arith in let P : ℕ → Type 0 = λ z. IsFirst Course.Fails z r.feeds in (written, (r.feeds, through, subst P e h)))
          (λ i h. let e : i ≡ 0 + i = omega arith in let P : ℕ → Type 0 = λ z. IsFirst Course.Exceeds z r.feeds in (written, (r.feeds, through, subst P e h)))

    told_cause : (out : Outside) → b.first ≡ None → OutCause (told_by 0 ends) out
    told_cause out free = told_cases reading b.journal b.first free (λ z. OutCause z out) 0 before after ends r.feeds r.worked (λ each. tt) (λ i h. tt) (λ i h. tt)

  -- a bus that keeps a fault is left as it is
  stop_ran : (last : BusView) (after : List SourceState) (feeds : List Feed) (fault : BusFault) (status : Status) → IsBus last → last.first ≡ Some fault → status ≡ status_of fault → Store old last
      → SameOutside old last.out → ((files : Option Files) (names : List Text) → AreNew files names before → Ran reading (BeginsWith boot) (scene files names last after last.out) feeds)
      → (last.first ≡ Some BusFault.Full → (IsFull last.journal × ((is_quiet last.records last.journal ≡ false) ⊎ OwesLine feeds)) ⊎ OwesRestart feeds) → CoreRan reading boot old before status last.journal last.records after last.out
  stop_ran last after feeds fault status bus is status_is store same each due =
      let stands = subst (Stands last) is bus.stands in
      let P : Status → Type 0 = λ s. CoreRan reading boot old before s last.journal last.records after last.out in
      subst P (sym status_is) (record {
        stands = λ files names new. stopped reading (BeginsWith boot) files names old last after feeds fault stands store (each files names new)
            (λ full. due (is ∙ ap (λ (f : BusFault). Some f) full));
        same = same;
        cause = stop_cause last fault stands;
      })

  -- it is told with other words
  told_with : (status : Status) (last : BusView) (after : List SourceState) (j : List Entry) (rs : Records) (out : Outside) → j ≡ last.journal → rs ≡ last.records
      → CoreRan reading boot old before status last.journal last.records after out → CoreRan reading boot old before status j rs after out
  told_with status last after j rs out e f r =
      let P : List Entry → Type 0 = λ z. CoreRan reading boot old before status z rs after out in
      let Q : Records → Type 0 = λ z. CoreRan reading boot old before status last.journal z after out in
      subst P (sym e) (subst Q (sym f) r)

  stop_told : (told status : Status) (last : BusView) (after : List SourceState) (j : List Entry) (rs : Records) (out : Outside) → IsStop told status j rs out last
      → CoreRan reading boot old before status last.journal last.records after last.out → CoreRan reading boot old before status j rs after out
  stop_told told status last after j rs out s r =
      let P : Outside → Type 0 = λ z. CoreRan reading boot old before status last.journal last.records after z in
      told_with status last after j rs out s.journal_is s.records_are (subst P (sym s.out_is) r)

  -- the bus went round
  round_ran : (b : BusView) (after : List SourceState) (ends : List (Option WorkerEnd)) (status : Status) (j : List Entry) (rs : Records) (out : Outside) → 0 < length before → WentRound reading base b before after ends
      → (last : BusView) → MayClose b last → StopsOrEnds (told_by 0 ends) status j rs out last → AreRead reading j → CoreRan reading boot old before status j rs after out
  round_ran b after ends status j rs out some r last (inl c) (inl s) read =
      stop_told (told_by 0 ends) status last after j rs out s
      (stop_ran last after r.feeds s.fault status s.bus s.is s.status_is (stored_store old last s.bus.right.journal.entries (closed_stored boot b last (begun b after ends r) c.closed r.stored))
      (same_then old b.out last.out (round_out b after ends r) (grown_out b.out last.out c.closed.grows))
      (λ files names new. ran_closed b after ends r files names new last s.bus (subst (AreRead reading) s.journal_is read) some c.closed) (λ full. let o = c.owes full in inl (o.0, inl o.1)))
  round_ran b after ends status j rs out some r last (inl c) (inr e) read =
      told_with status last after j rs out e.journal_is e.records_are
      (let P : Status → Type 0 = λ s. CoreRan reading boot old before s last.journal last.records after out in
      let whole = seen_whole last (subst (Stands last) e.free e.bus.stands).1 in
      subst P (sym e.status_is) (record {
        stands = λ files names new.
            end_stands reading (BeginsWith boot) (scene files names last after out) old out
            (λ h. end_written last.journal last.out out e.ends.calls e.ends.errors e.ends.keep last.records whole h) (λ h. end_cut last.journal last.out out e.ends.calls e.ends.errors e.ends.keep last.records whole h)
            (r.feeds, ran_through b after ends r files names new last out e.bus (subst (AreRead reading) e.journal_is read) some c.closed c.free e.quiet) (told_by 0 ends) e.first e.has
            (λ written. told_stands b after ends r files names new last out c.free (ran_through b after ends r files names new last out e.bus (subst (AreRead reading) e.journal_is read) some c.closed c.free e.quiet) written);
        same = same_then old last.out out (same_then old b.out last.out (round_out b after ends r) (grown_out b.out last.out c.closed.grows)) (ended_same last.journal last.out out e.first e.ends);
        cause = end_cause last.journal out (told_by 0 ends) e.first e.has (told_cause b after ends r out c.free);
      }))
  round_ran b after ends status j rs out some r last (inr n) (inl s) read =
      let P : BusView → Type 0 = λ z. IsStop (told_by 0 ends) status j rs out z in
      let t = subst P n.same s in
      stop_told (told_by 0 ends) status b after j rs out t
      (stop_ran b after r.feeds t.fault status t.bus t.is t.status_is (stored_store old b t.bus.right.journal.entries r.stored) (round_out b after ends r) (λ files names new. ran b after ends r files names new t.bus (subst (AreRead reading) t.journal_is read)) r.due)
  round_ran b after ends status j rs out some r last (inr n) (inr e) read = absurd (n.fault (ap (λ (z : BusView). z.first) (sym n.same) ∙ e.free))

  -- it did not go round
  module _ (b : BusView) (after : List SourceState) (s : StoodStill base b before after) where
    one : b.journal ≡ boot ∷ []
    one = ap (λ (z : BusView). z.journal) s.same ∙ at_boot

    same_out : b.out ≡ base.out
    same_out = ap (λ (z : BusView). z.out) s.same

    still_store : (fault : BusFault) → b.first ≡ Some fault → Store old b
    still_store fault is = λ c h. by (s.stopped fault is)
      where
        there : (base.out.keep.kept ≡ old.keep.kept) ⊎ HoldsStore (boot ∷ []) base.out.keep → (b.out.keep.kept ≡ old.keep.kept) ⊎ HoldsStore b.journal b.out.keep
        there h =
            let P : Outside → Type 0 = λ z. (z.keep.kept ≡ old.keep.kept) ⊎ HoldsStore b.journal z.keep in
            let Q : Journal → Type 0 = λ z. (base.out.keep.kept ≡ old.keep.kept) ⊎ HoldsStore z base.out.keep in
            subst P (sym same_out) (subst Q (sym one) h)

        by : (base.first ≡ Some fault) ⊎ ((base.first ≡ None) × (fault ≡ BusFault.Memory)) → (b.out.keep.kept ≡ old.keep.kept) ⊎ HoldsStore b.journal b.out.keep
        by (inl h) = there (boot_store base.records boot fault old base.out (boot-put boot base.records (subst (λ (z : Journal). Right z base.records) at_boot base_bus.right)).0 (subst (λ z. Shows (texts_of base.records [] boot) old z base.out) h shown))
        by (inr h) =
            let held : HoldsStore base.journal base.out.keep = (subst (Stands base) h.0 base_bus.stands).1.keep in
            there (inr (subst (λ z. HoldsStore z base.out.keep) at_boot held))

    never_full : b.first ≡ Some BusFault.Full → ⊥
    never_full is = by (s.stopped BusFault.Full is)
      where
        by : (base.first ≡ Some BusFault.Full) ⊎ ((base.first ≡ None) × (BusFault.Full ≡ BusFault.Memory)) → ⊥
        by (inl h) = full-cause old base.out (shows-rise (texts_of base.records [] boot) old base.out BusFault.Full (subst (λ z. Shows (texts_of base.records [] boot) old z base.out) h shown))
        by (inr h) = let bad : ◌≡◌ {A = BusFault} BusFault.Full BusFault.Memory = h.1 in cc

    abbrev unread : List Feed
    unread = map (λ (x : SourceState). record { course = Course.Goes; unput = [] }) before

    still_ran : IsBus b → AreRead reading b.journal → (files : Option Files) (names : List Text) → AreNew files names before → Ran reading (BeginsWith boot) (scene files names b after b.out) unread
    still_ran bus read files names new =
        let right : Right (boot ∷ []) b.records = subst (λ z. Right z b.records) one bus.right in
        record {
          begins = ([], one);
          lawful = (let P : Journal → Type 0 = λ z. Lawful z b.records in subst P (sym one) (boot_lawful b.records boot right));
          read = read;
          room = bus.room;
          named = (let P : Journal → Type 0 = λ z. Each (IsOf (length names)) z in subst P (sym one) (boot_named b.records boot (length names) right));
          served = (let P : List SourceState → Type 0 = λ z. AreServed reading files b.journal 0 names z unread in
              subst P (sym s.same_sources) (all_served reading files b.journal b.first 0 names before before (map (λ (x : SourceState). None) before) unread new
              (still_worked reading b.journal b.first s.fault (λ k. let Q : Journal → Type 0 = λ z. ArePutFrom k z [] in subst Q (sym one) (boot_puts b.records boot k right)) 0 before)));
        }

    still_stop : (told status : Status) (j : List Entry) (rs : Records) (out : Outside) → IsStop told status j rs out b → AreRead reading j → CoreRan reading boot old before status j rs after out
    still_stop told status j rs out t read =
        stop_told told status b after j rs out t
        (stop_ran b after unread t.fault status t.bus t.is t.status_is (still_store t.fault t.is) (subst (λ z. SameOutside old z) (sym same_out) start_same) (still_ran t.bus (subst (AreRead reading) t.journal_is read))
        (λ full. absurd (never_full full)))

  -- what stands after a run of a booted core
  pub core_ran : (b : BusView) (after : List SourceState) (ends : List (Option WorkerEnd)) (status : Status) (j : List Entry) (rs : Records) (out : Outside) → 0 < length before → Teamed reading base b before after ends
      → Finishes (told_by 0 ends) status j rs out b → AreRead reading j → CoreRan reading boot old before status j rs after out
  core_ran b after ends status j rs out some (inl r) f read = round_ran b after ends status j rs out some r f.0 f.1 f.2 read
  core_ran b after ends status j rs out some (inr s) f read = by f.1 f.2
    where
      by : MayClose b f.0 → StopsOrEnds (told_by 0 ends) status j rs out f.0 → CoreRan reading boot old before status j rs after out
      by (inl c) t = absurd (s.fault c.free)
      by (inr n) (inl t) = still_stop b after s (told_by 0 ends) status j rs out (let P : BusView → Type 0 = λ z. IsStop (told_by 0 ends) status j rs out z in subst P n.same t) read
      by (inr n) (inr e) = absurd (n.fault (ap (λ (z : BusView). z.first) (sym n.same) ∙ e.free))
