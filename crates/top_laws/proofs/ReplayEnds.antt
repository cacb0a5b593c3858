-- So it is of a replay and of a rehearsal.
use Rattle.std.proofs.Common.{◌≡◌, ap, subst, refl, ℕ, inl, inr, true, false, Bool, List, [], ◌∷◌, length, map, arith, length-append}
use Rattle.std.specs.Prelude.{Option, Some, None, IsSomeAnd}
use Rattle.ha_io.specs.Counts.{Rose}
use Rattle.ha_config.specs.Words.{Text}
use Rattle.ha_journal.specs.Journal.{Journal}
use Rattle.ha_model.specs.Records.{Records}
use Rattle.ha_status.specs.declared.status.Status.{Status}
use Rattle.ha_status.specs.Causes.{OneRose, OpenCause, ReadCause, WriteCause}
use Rattle.ha_status.specs.Files.{Files}
use Rattle.replay_file.specs.declared.front.FrontEnd.{FrontEnd}
use Rattle.replay_file.specs.Fronts.{IsFrontOf, IsReadFrom, IsReadOf}
use Rattle.replay_file.specs.Judged.{IsStatusOf, OfFile}
use Rattle.replay_file.specs.Replays.{IsReplay, IsUnread}
use Rattle.replay_file.proofs.ReplayLemmas.{front_of}
use Rattle.trace_laws.specs.Tells.{IsNoTrace}
use Rattle.ha_rehearse.specs.Rehearsed.{IsRehearseStatus}
use Rattle.ha_top.specs.Views.{After, Before}
use Rattle.ha_top.specs.Program.{Rehearsed, Replayed}
use Rattle.top_laws.specs.Unhindered.{IsUnhinderedRehearsal, IsUnhinderedReplay, IsWholeTrace}
use Rattle.top_laws.proofs.Completeness.{Good, none-unread, one-well}

-- ---- the file

-- what was read is of a file that is a whole trace
record OfTrace (text : Text) (end : FrontEnd) : Type 0 where
  bytes : Text
  front : IsFrontOf text end bytes
  whole : IsWholeTrace bytes

of_trace : (files : Option Files) (name text : Text) (end : FrontEnd) (lefts : List (Option Text)) → IsSomeAnd files (λ f. IsSomeAnd (f name) IsWholeTrace)
    → IsReadOf files name text end lefts → OfTrace text end
of_trace None name text end lefts traced read = absurd traced
of_trace (Some f) name text end lefts traced read = by (f name) traced read.2
  where
    by : (file : Option Text) → IsSomeAnd file IsWholeTrace → IsSomeAnd file (IsReadFrom text end read.0) → OfTrace text end
    by None traced read' = absurd traced
    by (Some bytes) traced read' = record { bytes = bytes; front = front_of bytes text end read.0 read'; whole = traced }

not_none : (text : Text) (end : FrontEnd) → OfTrace text end → OfFile text end IsNoTrace → ⊥
not_none text end o none = none o.bytes o.front o.whole.journal o.whole.records o.whole.trace

-- no longer file was read
not_longer : (text : Text) (end : FrontEnd) → OfTrace text end → end ≡ FrontEnd.TooLong → ⊥
not_longer text end o e =
    let front : IsFrontOf text FrontEnd.TooLong o.bytes = subst (λ (z : FrontEnd). IsFrontOf text z o.bytes) e o.front in
    let long = ap length front.1.2 in
    let within = o.whole.within in
    omega (arith, long, within, front.0, front.1.1, length-append text front.1.0)

-- ---- the commands

module _ (name : Text) (b : Before) (a : After) (u : IsUnhinderedReplay name b a) where
  abbrev Opens : Status → Type 0
  Opens s = OpenCause (name ∷ []) b.place.faults a.place.faults a.place.last s

  abbrev Reads : Status → Type 0
  Reads s = ReadCause name (name ∷ []) (map (λ y. y.faults) a.sources) (map (λ y. y.name) a.sources) s

  abbrev Writes : Status → Type 0
  Writes s = WriteCause (OneRose b.out.faults a.out.faults b.err.faults a.err.faults) (OneRose b.out.zeros a.out.zeros b.err.zeros a.err.zeros) s

  unread : (s : Status) → IsUnread s → Opens s → Good s
  unread (Status.OpenFault other) is unopened = absurd (u.well.opened unopened.1.rose)
  unread Status.Memory is unopened = inr refl
  unread Status.Ok is unopened = absurd is
  unread Status.Usage is unopened = absurd is
  unread (Status.ConfigRefused line code) is unopened = absurd is
  unread (Status.ReadFault source) is unopened = absurd is
  unread (Status.WriteFault zero) is unopened = absurd is
  unread Status.KeepFault is unopened = absurd is
  unread Status.JournalFull is unopened = absurd is
  unread (Status.SourceTooLong source) is unopened = absurd is
  unread (Status.StoreRefused code) is unopened = absurd is
  unread (Status.TraceRefused line) is unopened = absurd is

  judged : (text : Text) (end : FrontEnd) (j : Journal) (rs : Records) (ended : Bool) (left : Text) → OfTrace text end → (s : Status) → IsStatusOf text end j rs ended left s → Reads s → Writes s → Good s
  judged text end j rs ended left o Status.Ok is read written = inl refl
  judged text end j rs ended left o Status.Memory is read written = inr refl
  judged text end j rs ended left o (Status.TraceRefused line) is read written = absurd (not_none text end o is.no_trace)
  judged text end j rs ended left o Status.JournalFull is read written = absurd (not_none text end o is.no_trace)
  judged text end j rs ended left o (Status.SourceTooLong source) is read written = absurd (not_longer text end o is.1)
  judged text end j rs ended left o (Status.ReadFault None) is read written = absurd is
  judged text end j rs ended left o (Status.ReadFault (Some k)) is read written = absurd (none-unread a.sources u.well.read k read.0 (map (λ y. y.name) a.sources) read.2)
  judged text end j rs ended left o (Status.WriteFault false) is read written =
      absurd (one-well b.out.faults b.err.faults a.out.faults a.err.faults u.well.out_well.no_fault u.well.err_well.no_fault written)
  judged text end j rs ended left o (Status.WriteFault true) is read written =
      absurd (one-well b.out.zeros b.err.zeros a.out.zeros a.err.zeros u.well.out_well.no_zero u.well.err_well.no_zero written)
  judged text end j rs ended left o Status.Usage is read written = absurd is
  judged text end j rs ended left o (Status.ConfigRefused line code) is read written = absurd is
  judged text end j rs ended left o (Status.OpenFault other) is read written = absurd is
  judged text end j rs ended left o Status.KeepFault is read written = absurd is
  judged text end j rs ended left o (Status.StoreRefused code) is read written = absurd is

  by_status : (s : Status) (C E : Text → Type 0) → IsReplay b.place.files name (map (λ y. y.left) a.sources) s C E → Opens s → Reads s → Writes s → Good s
  by_status s C E (inl none) unopened read written = unread s none.0 unopened
  by_status s C E (inr h) unopened read written =
      judged h.text h.end h.judged.journal h.judged.records h.judged.ended h.judged.left (of_trace b.place.files name h.text h.end (map (λ y. y.left) a.sources) u.traced h.read) s h.judged.status_is read written

pub replay-ends-well : (name : Text) (b : Before) (a : After) → Replayed name b a → IsUnhinderedReplay name b a → Good a.status
replay-ends-well name b a x u = by_status name b a u a.status _ _ x.replay x.unopened x.unread x.unwritten

pub rehearse-ends-well : (lines : ℕ) (b : Before) (a : After) → Rehearsed lines b a → IsUnhinderedRehearsal lines b a → Good a.status
rehearse-ends-well lines b a x u = by a.status x.answer x.unwritten
  where
    by : (s : Status) → IsRehearseStatus lines s → WriteCause (Rose b.out.faults a.out.faults) (Rose b.out.zeros a.out.zeros) s → Good s
    by Status.Ok answer unwritten = inl refl
    by Status.Memory answer unwritten = inr refl
    by Status.JournalFull answer unwritten = absurd (u.room answer)
    by (Status.WriteFault false) answer unwritten = absurd (u.out_well.no_fault unwritten)
    by (Status.WriteFault true) answer unwritten = absurd (u.out_well.no_zero unwritten)
    by Status.Usage answer unwritten = absurd answer
    by (Status.ConfigRefused line code) answer unwritten = absurd answer
    by (Status.OpenFault name) answer unwritten = absurd answer
    by (Status.ReadFault source) answer unwritten = absurd answer
    by Status.KeepFault answer unwritten = absurd answer
    by (Status.SourceTooLong source) answer unwritten = absurd answer
    by (Status.StoreRefused code) answer unwritten = absurd answer
    by (Status.TraceRefused line) answer unwritten = absurd answer
