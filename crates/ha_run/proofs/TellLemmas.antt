-- What stands where the status line is written, or memory ran out last.
use Rattle.std.proofs.Common.{inl, inr, sym, subst, List, Option, Some, None}
use Rattle.ha_config.specs.declared.config.Config.{Config}
use Rattle.ha_config.specs.Words.{Text}
use Rattle.ha_journal.specs.declared.entry.Entry.{Entry}
use Rattle.ha_status.specs.declared.status.Status.{Status}
use Rattle.ha_run.specs.Served.{AreOpened, Feed}
use Rattle.ha_run.specs.Stands.{IsCutShort, OpenedNone, Ran, RanFull, RanNothing, RanSome, RanThrough, Scene, StandsAt, Writings}

-- where no source was opened, those that were are the first ones
none_opened : (s : Scene) → OpenedNone s → RanNothing s
none_opened s h = record { no_entry = h.no_entry; no_record = h.no_record; opened = subst (AreOpened s.names) (sym h.no_source) tt }

module _ (reading : Text → Option Config) (B B' : List Entry → Type 0) (s : Scene) (begins : B s.journal → B' s.journal) (w w' : Writings) (ended : w.Ended → w'.Ended) (cut : w.EndCut → w'.EndCut) (whole : w.Whole → w'.Whole)
    (part : w.Part → w'.Part) (nothing : w.Nothing → w'.Nothing) where
  ran_in : (feeds : List Feed) → Ran reading B s feeds → Ran reading B' s feeds
  ran_in feeds r = record { begins = begins r.begins; lawful = r.lawful; read = r.read; room = r.room; named = r.named; served = r.served }

  through_in : (feeds : List Feed) → RanThrough reading B s feeds → RanThrough reading B' s feeds
  through_in feeds r = record { ran = ran_in feeds r.ran; through = r.through; quiet = r.quiet }

  some_in : RanSome reading B s → RanSome reading B' s
  some_in r = record { feeds = r.feeds; ran = ran_in r.feeds r.ran }

  full_in : RanFull reading B s → RanFull reading B' s
  full_in r = record { feeds = r.feeds; ran = ran_in r.feeds r.ran; full = r.full }

  short_in : IsCutShort reading B s w → IsCutShort reading B' s w'
  short_in (inl h) = inl (part h.0, some_in h.1)
  short_in (inr h) = inr (cut h.0, (h.1.0, through_in h.1.0 h.1.1))

  -- in other words on what was written
  pub stands_in : (x : Status) → StandsAt reading B s w x → StandsAt reading B' s w' x
  stands_in Status.Ok h = (ended h.0, (h.1.0, through_in h.1.0 h.1.1, h.1.2))
  stands_in Status.Usage h = h
  stands_in (Status.ConfigRefused line code) h = (nothing h.0, h.1)
  stands_in (Status.OpenFault name) h = (nothing h.0, h.1)
  stands_in (Status.ReadFault None) h = (nothing h.0, h.1)
  stands_in (Status.ReadFault (Some k)) h = (ended h.0, (h.1.0, through_in h.1.0 h.1.1, h.1.2))
  stands_in (Status.WriteFault zero) h = short_in h
  stands_in Status.KeepFault (inl h) = inl (nothing h.0, h.1)
  stands_in Status.KeepFault (inr h) = inr (part h.0, some_in h.1)
  stands_in Status.JournalFull h = (whole h.0, full_in h.1)
  stands_in (Status.SourceTooLong k) h = (ended h.0, (h.1.0, through_in h.1.0 h.1.1, h.1.2))
  stands_in (Status.StoreRefused code) h = (nothing h.0, h.1)
  stands_in Status.Memory (inl h) = inl (nothing h.0, h.1)
  stands_in Status.Memory (inr h) = inr (short_in h)
  stands_in (Status.TraceRefused line) h = h

-- want of memory came last: the same stands
module _ (reading : Text → Option Config) (B : List Entry → Type 0) (s : Scene) (w w' : Writings) (cut : w.EndCut → w'.EndCut) (part : w.Part → w'.Part) (nothing : w.Nothing → w'.Nothing) (ended_cut : w.Ended → w'.EndCut)
    (whole_part : w.Whole → w'.Part) where
  still_short : IsCutShort reading B s w → IsCutShort reading B s w'
  still_short (inl h) = inl (part h.0, h.1)
  still_short (inr h) = inr (cut h.0, h.1)

  pub stands_memory : (x : Status) → StandsAt reading B s w x → StandsAt reading B s w' Status.Memory
  stands_memory Status.Ok h = inr (inr (ended_cut h.0, (h.1.0, h.1.1)))
  stands_memory Status.Usage h = absurd h
  stands_memory (Status.ConfigRefused line code) h = inl (nothing h.0, inl (none_opened s h.1))
  stands_memory (Status.OpenFault name) h = inl (nothing h.0, inl h.1)
  stands_memory (Status.ReadFault None) h = inl (nothing h.0, inr h.1)
  stands_memory (Status.ReadFault (Some k)) h = inr (inr (ended_cut h.0, (h.1.0, h.1.1)))
  stands_memory (Status.WriteFault zero) h = inr (still_short h)
  stands_memory Status.KeepFault (inl h) = inl (nothing h.0, inl (none_opened s h.1))
  stands_memory Status.KeepFault (inr h) = inr (inl (part h.0, h.1))
  stands_memory Status.JournalFull h = inr (inl (whole_part h.0, record { feeds = h.1.feeds; ran = h.1.ran }))
  stands_memory (Status.SourceTooLong k) h = inr (inr (ended_cut h.0, (h.1.0, h.1.1)))
  stands_memory (Status.StoreRefused code) h = inl (nothing h.0, inl (none_opened s h.1))
  stands_memory Status.Memory (inl h) = inl (nothing h.0, h.1)
  stands_memory Status.Memory (inr h) = inr (still_short h)
  stands_memory (Status.TraceRefused line) h = absurd h
