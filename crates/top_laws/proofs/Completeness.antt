-- Each answer but Ok and Memory has a cause that hinders the command.
use Rattle.std.proofs.Common.{◌≡◌, ℕ, zero, suc, ◌<◌, ◌≤◌, ◌⊎◌, inl, inr, true, false, List, [], ◌∷◌, length, map, refl, sym, ap, subst, ◌∙◌, arith, length-append}
use Rattle.std.specs.Prelude.{Option, Some, None, Result, Ok, Err, slice_get, IsOk, IsErrAnd, IfSome, IsSomeAnd}
use Rattle.ha_io.specs.Counts.{Rose}
use Rattle.ha_journal.specs.declared.entry.Entry.{Entry}
use Rattle.ha_journal.specs.Journal.{Journal}
use Rattle.ha_config.specs.Words.{Text}
use Rattle.ha_whole.specs.Whole.{CannotRestart, HasRoom, IsFull}
use Rattle.store_text.specs.Store.{Moments, Switches, stored_in}
use Rattle.conf_auto.specs.Config.{config_in, config_of}
use Rattle.ha_status.specs.declared.status.Status.{Status}
use Rattle.ha_status.specs.Causes.{OneRose, IsUnread, ReadCause, OpenCause, WriteCause, KeepCause}
use Rattle.ha_status.specs.Files.{Files}
use Rattle.ha_words.specs.declared.plan.RunWords.{RunWords}
use Rattle.bus_turn.specs.States.{SinkState}
use Rattle.ha_worker.specs.Courses.{Course, SourceState, most_bytes}
use Rattle.ha_run.specs.Stands.{StandsAt}
use Rattle.ha_run.specs.Served.{Each, Feed, IsReadOf, AreServed, IsFirst}
use Rattle.ha_check.specs.Checked.{IsAnswerOf, IsCheckStatus}
use Rattle.ha_check.specs.Configured.{IsFaultAt, RefusedCause}
use Rattle.ha_top.specs.Views.{After, Before}
use Rattle.ha_top.specs.Written.{written}
use Rattle.ha_top.specs.Answered.{Answered, IsBooted, IsStore, IsStored, IsTaken, RunOpenCause, StoreCause, WriteFailed, WriteTookNone, scene}
use Rattle.ha_top.specs.Program.{Checked}
use Rattle.top_laws.specs.Unhindered.{IsNewWell, IsRead, IsWithin, IsUnhinderedCheck, IsUnhinderedRun}

-- where a Restart has room, nothing lacks it
room-left : {X Y : Type 0} (j : Journal) → HasRoom j true → (IsFull j × X) ⊎ (CannotRestart j × Y) → ⊥
room-left j room (inl (inl full, due)) = omega (arith, full, room.segment_room)
room-left j room (inl (inr full, due)) = omega (arith, full, room.room)
room-left j room (inr (inl full, due)) = omega (arith, full, (room.restart refl).0)
room-left j room (inr (inr full, due)) = omega (arith, full, (room.restart refl).1)

-- ---- texts

both-no : {X Y : Type 0} (P : Y → Type 0) (r : Result X Y) → IsOk r → IsErrAnd r P → ⊥
both-no P (Ok x) h k = k
both-no P (Err y) h k = cc

-- a file that is a configuration is refused nowhere
not-refused : (told : Option Files) (name : Text) (line code : ℕ) → IsSomeAnd told (λ f. IsTaken (f name)) → RefusedCause told name (Status.ConfigRefused line code) → ⊥
not-refused None name line code h r = h
not-refused (Some f) name line code h r = by (f name) h r.1
  where
    by : (file : Option Text) → IsTaken file → file ≡ Some r.0 → ⊥
    by None h e = h
    by (Some text) h e = both-no (IsFaultAt line code) (config_of r.0) (subst (λ (t : Text). IsOk (config_of t)) (let same : text ≡ r.0 = cc in same) h) r.2

-- what is none or a store's text is no refused store
not-store-refused : (told : Option (Option Text)) (code : ℕ) → IsSomeAnd told IsStore → StoreCause told (Status.StoreRefused code) → ⊥
not-store-refused None code h r = h
not-store-refused (Some kept) code h r = by kept h.0 h.1 h.2 r.1
  where
    by : (kept : Option Text) (stored : Option Switches) (last : Moments) → IsStored kept stored last → kept ≡ Some r.0 → ⊥
    by None stored last s e = absurd cc
    by (Some text) stored last s e = (let same : text ≡ r.0 = cc in let ok : stored_in r.0 ≡ Ok s.0 = (λ i. stored_in (sym same i)) ∙ s.1 in absurd (let z = sym ok ∙ r.2 in cc))

-- ---- sources

-- of sources none of whose reads failed, none was not read
pub none-unread : (sources : List SourceState) → Each IsRead sources → (k : ℕ) (name : Text) (names : List (Option Text)) → IsUnread name k (map (λ s. s.faults) sources) names → ⊥
none-unread sources h k name names u = by sources h k u.count_is
  where
    by : (sources : List SourceState) → Each IsRead sources → (k : ℕ) → slice_get (map (λ s. s.faults) sources) k ≡ Some u.count → ⊥
    by [] h zero e = absurd cc
    by [] h (suc k) e = absurd cc
    by (s ∷ rest) h zero e = (let same : s.faults ≡ u.count = cc in omega (arith, same, h.0, u.failed))
    by (s ∷ rest) h (suc k) e = by rest h.1 k e

-- a source that gave more than its bound has a file of more bytes
longer : (bytes file : Text) (left : Option Text) → IsReadOf Course.Exceeds bytes left file → length file ≤ most_bytes → ⊥
longer bytes file left r le =
    let long = ap length r.1.3 ∙ length-append bytes (r.1.0 ∷ r.1.1) in
    omega (arith, long, r.0, le)

none-exceeds : (f : Files) (journal : List Entry) (n : ℕ) (names : List Text) (sources : List SourceState) (feeds : List Feed) → AreServed config_in (Some f) journal n names sources feeds
    → Each (λ name. IsWithin (f name)) names → (k : ℕ) → IsFirst Course.Exceeds k feeds → ⊥
none-exceeds f journal n [] [] [] served h k first = first
none-exceeds f journal n [] [] (feed ∷ feeds) served h k first = served
none-exceeds f journal n [] (source ∷ sources) feeds served h k first = served
none-exceeds f journal n (name ∷ names) [] feeds served h k first = served
none-exceeds f journal n (name ∷ names) (source ∷ sources) [] served h k first = served
none-exceeds f journal n (name ∷ names) (source ∷ sources) (feed ∷ feeds) served h zero first = by (f name) h.0 served.0.read
  where
    by : (file : Option Text) → IsWithin file → IsSomeAnd file (IsReadOf feed.course served.0.bytes source.left) → ⊥
    by None h r = r
    by (Some text) h r = longer served.0.bytes text source.left (subst (λ (c : Course). IsReadOf c served.0.bytes source.left text) first r) h
none-exceeds f journal n (name ∷ names) (source ∷ sources) (feed ∷ feeds) served h (suc k) first = none-exceeds f journal (suc n) names sources feeds served.1 h.1 k first.1

-- ---- counts

pub one-well : (b b' a a' : ℕ) → (Rose b a → ⊥) → (Rose b' a' → ⊥) → OneRose b a b' a' → ⊥
one-well b b' a a' h k (inl r) = h r
one-well b b' a a' h k (inr r) = k r

no-trace-fault : (trace : Option SinkState) → IfSome trace IsNewWell → IsSomeAnd trace (λ s. 0 < s.faults) → ⊥
no-trace-fault None h r = r
no-trace-fault (Some s) h r = omega (arith, h.no_fault, r)

no-trace-zero : (trace : Option SinkState) → IfSome trace IsNewWell → IsSomeAnd trace (λ s. 0 < s.zeros) → ⊥
no-trace-zero None h r = r
no-trace-zero (Some s) h r = omega (arith, h.no_zero, r)

-- ---- both commands

abbrev pub Good : Status → Type 0
Good status = (status ≡ Status.Ok) ⊎ (status ≡ Status.Memory)

pub run-ends-well : (words : RunWords) (b : Before) (a : After) → Answered words b a → IsUnhinderedRun words b a → Good a.status
run-ends-well words b a x u =
    by a.status x.stands x.refused x.store_refused x.unopened x.unread x.unwritten x.unkept
  where
    no_write : (status : Status) → WriteFailed b a → Good status
    no_write status (inl r) = absurd (one-well b.out.faults b.err.faults a.out.faults a.err.faults u.like_check.out_well.no_fault u.err_well.no_fault r)
    no_write status (inr r) = absurd (no-trace-fault a.trace u.trace_well r)

    no_zero : (status : Status) → WriteTookNone b a → Good status
    no_zero status (inl r) = absurd (one-well b.out.zeros b.err.zeros a.out.zeros a.err.zeros u.like_check.out_well.no_zero u.err_well.no_zero r)
    no_zero status (inr r) = absurd (no-trace-zero a.trace u.trace_well r)

    exceeds : (told : Option Files) → IsSomeAnd told (λ f. IsTaken (f words.config)) → IfSome told (λ f. Each (λ name. IsWithin (f name)) words.sources) → (feeds : List Feed)
        → AreServed config_in told a.journal 0 words.sources a.sources feeds → (k : ℕ) → IsFirst Course.Exceeds k feeds → ⊥
    exceeds None t h feeds served k first = t
    exceeds (Some f) t h feeds served k first = none-exceeds f a.journal 0 words.sources a.sources feeds served h k first

    by : (s : Status) → StandsAt config_in (IsBooted words b) (scene words b a) (written b a) s → RefusedCause b.place.files words.config s → StoreCause b.keep.kept s
        → RunOpenCause words b.place.faults a.place.faults a.place.last s → ReadCause words.config words.sources (map (λ y. y.faults) a.sources) (map (λ y. y.name) a.sources) s
        → WriteCause (WriteFailed b a) (WriteTookNone b a) s → KeepCause b.keep.faults a.keep.faults s → Good s
    by Status.Ok stands refused store unopened unread unwritten unkept = inl refl
    by Status.Usage stands refused store unopened unread unwritten unkept = absurd stands
    by (Status.ConfigRefused line code) stands refused store unopened unread unwritten unkept = absurd (not-refused b.place.files words.config line code u.like_check.taken refused)
    by (Status.OpenFault name) stands refused store (inl r) unread unwritten unkept = absurd (u.like_check.opened r.1.rose)
    by (Status.OpenFault name) stands refused store (inr r) unread unwritten unkept = absurd (u.like_check.opened r.1.rose)
    by (Status.ReadFault None) stands refused store unopened unread unwritten unkept =
        absurd (none-unread a.sources u.like_check.read 0 words.config (map (λ y. y.name) a.sources) unread.1)
    by (Status.ReadFault (Some k)) stands refused store unopened unread unwritten unkept =
        absurd (none-unread a.sources u.like_check.read k unread.0 (map (λ y. y.name) a.sources) unread.2)
    by (Status.WriteFault false) stands refused store unopened unread unwritten unkept = no_write (Status.WriteFault false) unwritten
    by (Status.WriteFault true) stands refused store unopened unread unwritten unkept = no_zero (Status.WriteFault true) unwritten
    by Status.KeepFault stands refused store unopened unread unwritten unkept = absurd (u.kept unkept)
    by Status.JournalFull stands refused store unopened unread unwritten unkept = absurd (room-left a.journal u.room stands.1.full)
    by (Status.SourceTooLong k) stands refused store unopened unread unwritten unkept =
        absurd (exceeds b.place.files u.like_check.taken u.within stands.1.0 stands.1.1.ran.served k stands.1.2)
    by (Status.StoreRefused code) stands refused store unopened unread unwritten unkept = absurd (not-store-refused b.keep.kept code u.stored store)
    by Status.Memory stands refused store unopened unread unwritten unkept = inr refl
    by (Status.TraceRefused line) stands refused store unopened unread unwritten unkept = absurd stands

pub check-ends-well : (name : Text) (b : Before) (a : After) → Checked name b a → IsUnhinderedCheck name b a → Good a.status
check-ends-well name b a x u = by a.status x.answer x.of_file x.unopened x.unread x.unwritten
  where
    refused : (told : Option Files) → IsSomeAnd told (λ f. IsTaken (f name)) → (line code : ℕ) → IfSome told (λ f. IsAnswerOf (f name) (Status.ConfigRefused line code)) → ⊥
    refused None t line code r = t
    refused (Some f) t line code r = file (f name) t r
      where
        file : (o : Option Text) → IsTaken o → IsAnswerOf o (Status.ConfigRefused line code) → ⊥
        file None t r = t
        file (Some text) t r = both-no (IsFaultAt line code) (config_of text) t r

    by : (s : Status) → IsCheckStatus name s → IfSome b.place.files (λ f. IsAnswerOf (f name) s) → OpenCause (name ∷ []) b.place.faults a.place.faults a.place.last s
        → ReadCause name [] (map (λ y. y.faults) a.sources) (map (λ y. y.name) a.sources) s → WriteCause (Rose b.out.faults a.out.faults) (Rose b.out.zeros a.out.zeros) s → Good s
    by Status.Ok answer of_file unopened unread unwritten = inl refl
    by Status.Usage answer of_file unopened unread unwritten = absurd answer
    by (Status.ConfigRefused line code) answer of_file unopened unread unwritten = absurd (refused b.place.files u.taken line code of_file)
    by (Status.OpenFault other) answer of_file unopened unread unwritten = absurd (u.opened unopened.1.rose)
    by (Status.ReadFault None) answer of_file unopened unread unwritten = absurd (none-unread a.sources u.read 0 name (map (λ y. y.name) a.sources) unread.1)
    by (Status.ReadFault (Some k)) answer of_file unopened unread unwritten = absurd answer
    by (Status.WriteFault false) answer of_file unopened unread unwritten = absurd (u.out_well.no_fault unwritten)
    by (Status.WriteFault true) answer of_file unopened unread unwritten = absurd (u.out_well.no_zero unwritten)
    by Status.KeepFault answer of_file unopened unread unwritten = absurd answer
    by Status.JournalFull answer of_file unopened unread unwritten = absurd answer
    by (Status.SourceTooLong k) answer of_file unopened unread unwritten = absurd answer
    by (Status.StoreRefused code) answer of_file unopened unread unwritten = absurd answer
    by Status.Memory answer of_file unopened unread unwritten = inr refl
    by (Status.TraceRefused line) answer of_file unopened unread unwritten = absurd answer
