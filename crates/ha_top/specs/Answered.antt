-- What a run answers for. Whoever wants to trust the program reads this page, what stands at each status (`ha_run`'s `Stands` and
-- `Served`), what was written (`Written`), and the meaning that they cite.
use Rattle.std.specs.Prelude.{ℕ, ◌≡◌, ◌<◌, ◌⊎◌, List, [], ◌∷◌, ◌++◌, map, option_to_list, Option}
use Rattle.std.specs.Prelude.{Some, None, Ok, Err, IfSome, IsOk, IsSomeAnd, Contains}
use Rattle.ha_io.specs.declared.place.Opening.{Opening}
use Rattle.ha_io.specs.Told.{Call, IsAskedSome, and_asked}
use Rattle.ha_config.specs.declared.config.Config.{Config}
use Rattle.ha_journal.specs.declared.entry.Entry.{Entry}
use Rattle.ha_journal.specs.declared.entry.Entry.TheVariants.{Boot}
use Rattle.ha_journal.specs.Entries.{first_carry}
use Rattle.ha_config.specs.Names.{of_automations}
use Rattle.ha_config.specs.Sound.{AreSoundMoments, IsSoundStore}
use Rattle.ha_config.specs.Words.{Text}
use Rattle.store_text.specs.declared.stored.Stored.{Stored}
use Rattle.store_text.specs.Store.{Moments, Switches, stored_in}
use Rattle.ha_status.specs.declared.status.Status.{Status}
use Rattle.ha_status.specs.Causes.{IsUnopened, KeepCause, OneRose, ReadCause, WriteCause}
use Rattle.ha_status.specs.Files.{Files, HoldsText, IsTextFault}
use Rattle.ha_words.specs.declared.plan.RunWords.{RunWords}
use Rattle.ha_words.specs.PlanOf.{IsRunnable}
use Rattle.bus_turn.specs.States.{SinkState}
use Rattle.ha_worker.specs.Courses.{SourceState}
use Rattle.ha_run.specs.Core.{IsHandedOn}
use Rattle.ha_run.specs.Opened.{AreNew}
use Rattle.ha_run.specs.Stands.{Scene, StandsAt}
use Rattle.conf_auto.specs.Config.{config_in, config_of}
use Rattle.ha_check.specs.Configured.{RefusedCause}
use Rattle.ha_top.specs.Views.{After, Before}
use Rattle.ha_top.specs.Written.{AreTheSame, written}

-- ---- the boot

-- the switches, and when automations last triggered, of what the keeper holds: none where it holds nothing, else those of its text
abbrev pub IsStored : Option Text → Option Switches → Moments → Type 0
IsStored None stored last = (stored ≡ None) × (last ≡ [])
IsStored (Some text) stored last = (kept : Stored) × (stored_in text ≡ Ok kept) × (stored ≡ Some kept.switches) × (last ≡ kept.last)

-- The journal begins with the Boot of the bytes that the place holds under the configuration's name, the configuration of these bytes, the
-- switches that the keeper held, the start and the zone. It takes over when automations last triggered, as the keeper held it, of names that
-- automations have. The names are in UTF-8 and in byte order, each once, and the words are as every plan of `run` has them: the start is a
-- moment, and the zone is one, in UTF-8.
pub record IsBooted (words : RunWords) (b : Before) (journal : List Entry) : Type 0 where
  pub text : Text
  pub config : Config
  pub stored : Option Switches
  pub last : Moments
  pub later : List Entry
  pub text_is : HoldsText b.place.files words.config text
  pub config_is : config_of text ≡ Ok config
  pub stored_is : IfSome b.keep.kept (λ kept. IsStored kept stored last)
  pub stored_is_sound : IsSoundStore stored
  pub last_is_sound : AreSoundMoments last
  pub runnable : IsRunnable words
  pub boots : journal ≡ Boot text config stored words.start words.zone (first_carry (of_automations config.automations last)) ∷ later

abbrev pub scene : RunWords → Before → After → Scene
scene words b a = record { files = b.place.files; names = words.sources; journal = a.journal; records = a.records; sources = a.sources }

-- ---- what the bytes alone decide, in the order of the answers

-- The answers of the store. They come after those of the configuration and before all others.
abbrev pub IsStoreFault : Status → Type 0
IsStoreFault Status.KeepFault = Unit {0}
IsStoreFault (Status.StoreRefused code) = Unit {0}
IsStoreFault Status.Memory = Unit {0}
IsStoreFault _ = ⊥

-- a store is refused with the code of a text, which is what the keeper holds, where it tells
abbrev pub StoreCause : Option (Option Text) → Status → Type 0
StoreCause told (Status.StoreRefused code) = (text : Text) × IfSome told (λ kept. kept ≡ Some text) × (stored_in text ≡ Err code)
StoreCause told status = Unit {0}

-- the file has a configuration
abbrev pub IsTaken : Option Text → Type 0
IsTaken file = IsSomeAnd file (λ text. IsOk (config_of text))

-- the keeper holds nothing, or a store's text
abbrev pub IsStore : Option Text → Type 0
IsStore kept = (stored : Option Switches) × (last : Moments) × IsStored kept stored last

-- ---- what a place is asked for

-- the files that a run opens, in order, and what for: its configuration and its sources are read, its trace is written
abbrev pub opens : RunWords → List Call
opens words =
    (words.config, Opening.Reading) ∷ map (λ name. (name, Opening.Reading)) words.sources
    ++ map (λ name. (name, Opening.Writing)) (option_to_list words.trace)

-- the place was asked for these files and no others, in order; for all of them where anything was booted, else for the first ones
abbrev pub IsAskedFor : List Call → List Entry → Option (List Call) → Option (List Call) → Type 0
IsAskedFor calls [] before after = IsAskedSome before calls after
IsAskedFor calls (boot ∷ later) before after = after ≡ and_asked before calls

-- ---- what was opened where nothing was booted

-- the place was asked for the configuration alone
abbrev pub AsksConfig : RunWords → Option (List Call) → Option (List Call) → Type 0
AsksConfig words before after = after ≡ and_asked before ((words.config, Opening.Reading) ∷ [])

-- it was asked for the configuration and for these sources, which were opened, and then for this file
abbrev pub AsksUpTo : RunWords → List Text → Call → Option (List Call) → Option (List Call) → Type 0
AsksUpTo words opened failed before after =
    after ≡ and_asked before ((words.config, Opening.Reading) ∷ map (λ name. (name, Opening.Reading)) opened ++ failed ∷ [])

-- a source was not opened: those of the names before it were, they were not read, and nothing further was opened
pub record StopsAtSource (words : RunWords) (files : Option Files) (sources : List SourceState) (name : Text)
    (before after : Option (List Call)) : Type 0 where
  pub opened : List Text
  pub later : List Text
  pub names_are : words.sources ≡ opened ++ name ∷ later
  pub sources_are : AreNew files opened sources
  pub asked : AsksUpTo words opened (name, Opening.Reading) before after

-- the trace was not opened: all sources were, and were not read
pub record StopsAtTrace (words : RunWords) (files : Option Files) (sources : List SourceState) (name : Text)
    (before after : Option (List Call)) : Type 0 where
  pub name_is : words.trace ≡ Some name
  pub sources_are : AreNew files words.sources sources
  pub asked : AsksUpTo words words.sources (name, Opening.Writing) before after

-- What was opened where a run did not come to its boot, and which sources are handed back. A configuration or a store that is not taken opens
-- nothing else, and an opening that failed is the last one.
abbrev pub StopsAt : RunWords → Option Files → List Entry → List SourceState → Option (List Call) → Option (List Call) → Status → Type 0
StopsAt words files journal sources before after (Status.ConfigRefused line code) = AsksConfig words before after
StopsAt words files journal sources before after (Status.ReadFault None) = AsksConfig words before after
StopsAt words files journal sources before after (Status.StoreRefused code) = AsksConfig words before after
StopsAt words files journal sources before after Status.KeepFault = journal ≡ [] → AsksConfig words before after
StopsAt words files journal sources before after (Status.OpenFault name) =
    ((name ≡ words.config) × (sources ≡ []) × AsksConfig words before after)
    ⊎ (StopsAtSource words files sources name before after ⊎ StopsAtTrace words files sources name before after)
StopsAt words files journal sources before after status = Unit {0}

-- ---- the trace

-- a trace is there exactly where the words name one, and has that name, where it is told
abbrev pub IsNamedTrace : Option Text → Option SinkState → Type 0
IsNamedTrace None None = Unit {0}
IsNamedTrace (Some name) (Some s) = IfSome s.name (λ told. told ≡ name)
IsNamedTrace _ _ = ⊥

-- so where anything was booted, else there is none
abbrev pub IsTraceOf : Option Text → List Entry → Option SinkState → Type 0
IsTraceOf name [] trace = trace ≡ None
IsTraceOf name (boot ∷ later) trace = IsNamedTrace name trace

-- ---- what the outside decides

-- The configuration or a source of the words was not opened, which are read, or their trace, which is written.
abbrev pub RunOpenCause : RunWords → ℕ → ℕ → Option (Option (Text × Opening)) → Status → Type 0
RunOpenCause words faults faults' last (Status.OpenFault name) =
    (Contains (words.config ∷ words.sources) name × IsUnopened name Opening.Reading faults faults' last)
    ⊎ ((words.trace ≡ Some name) × IsUnopened name Opening.Writing faults faults' last)
RunOpenCause words faults faults' last _ = Unit {0}

-- a write to one of the sinks failed, and one took no byte; the trace's counts were 0 when it was opened
abbrev pub WriteFailed : Before → After → Type 0
WriteFailed b a = OneRose b.out.faults a.out.faults b.err.faults a.err.faults ⊎ IsSomeAnd a.trace (λ s. 0 < s.faults)

abbrev pub WriteTookNone : Before → After → Type 0
WriteTookNone b a = OneRose b.out.zeros a.out.zeros b.err.zeros a.err.zeros ⊎ IsSomeAnd a.trace (λ s. 0 < s.zeros)

-- ---- all of it

pub record Answered (words : RunWords) (b : Before) (a : After) : Type 0 where
  -- the journal, in which each Reload has the configuration that its text is read as, the lines of each source, the calls, the errors, the
  -- trace and the store, by the status
  pub stands : StandsAt config_in (IsBooted words b) (scene words b a) (written b a) a.status
  pub traced : IsTraceOf words.trace a.journal a.trace
  pub asked : IsAskedFor (opens words) a.journal b.place.asked a.place.asked
  pub stops : StopsAt words b.place.files a.journal a.sources b.place.asked a.place.asked a.status
  pub handed : IsHandedOn a.kept_back a.status
  pub same : AreTheSame b a
  -- A configuration is refused with the line and code of its text, and where none is taken, one of its answers comes first. A store
  -- likewise.
  pub refused : RefusedCause b.place.files words.config a.status
  pub config_first : IfSome b.place.files (λ f. (IsTaken (f words.config) → ⊥) → IsTextFault words.config a.status)
  pub store_refused : StoreCause b.keep.kept a.status
  pub store_next : IfSome b.keep.kept (λ kept. (IsStore kept → ⊥) → IsTextFault words.config a.status ⊎ IsStoreFault a.status)
  -- each fault of the outside has its cause in a count that rose
  pub unopened : RunOpenCause words b.place.faults a.place.faults a.place.last a.status
  pub unread : ReadCause words.config words.sources (map (λ s. s.faults) a.sources) (map (λ s. s.name) a.sources) a.status
  pub unwritten : WriteCause (WriteFailed b a) (WriteTookNone b a) a.status
  pub unkept : KeepCause b.keep.faults a.keep.faults a.status
