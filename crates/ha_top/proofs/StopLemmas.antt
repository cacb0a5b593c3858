-- What was opened where a run did not come to its boot.
use Rattle.std.proofs.Common.{◌≡◌, inl, inr, List, [], ◌∷◌, ◌++◌, map, Option, Some, None, ap, sym, subst, true}
use Rattle.ha_io.specs.declared.place.Opening.{Opening}
use Rattle.ha_io.specs.Told.{Call, and_asked}
use Rattle.ha_io.proofs.AskedLemmas.{asked_then}
use Rattle.ha_journal.specs.declared.entry.Entry.{Entry}
use Rattle.ha_config.specs.Words.{Text}
use Rattle.ha_status.specs.declared.status.Status.{Status}
use Rattle.ha_status.specs.Files.{AskedAt, Files, IsTextFault}
use Rattle.ha_words.specs.declared.plan.RunWords.{RunWords}
use Rattle.ha_worker.specs.Courses.{SourceState}
use Rattle.ha_run.specs.Opened.{AreNew}
use Rattle.ha_top.specs.Answered.{AsksConfig, IsStoreFault, StopsAt}
use Rattle.ha_top.specs.Opening.{IsOpenFault, StoppedAmong, StoppedAtTrace}
use Rattle.ha_top.specs.Unready.{GivesBack, SourcesAt}
use Rattle.ha_top.proofs.EarlyLemmas.{open_cases}

module _ (words : RunWords) (files : Option Files) (journal : List Entry) (before after : Option (List Call)) where
  abbrev Stops : List SourceState → Status → Type 0
  Stops sources status = StopsAt words files journal sources before after status

  -- the configuration was not read, or not taken
  module _ {S : Type 0} (state : S → SourceState) (given : Option S) (sources : List S) where
    config_cases : (s : Status) → IsTextFault words.config s → AskedAt (words.config, Opening.Reading) before after s → SourcesAt s given sources → Stops (map state sources) s
    config_cases (Status.ConfigRefused l c) fault asked back = asked
    config_cases (Status.OpenFault name) fault asked back = inl (fault, ap (map state) back, asked)
    config_cases (Status.ReadFault None) fault asked back = asked
    config_cases (Status.ReadFault (Some k)) fault asked back = absurd fault
    config_cases Status.Memory fault asked back = tt
    config_cases Status.Ok fault asked back = absurd fault
    config_cases Status.Usage fault asked back = absurd fault
    config_cases (Status.WriteFault z) fault asked back = absurd fault
    config_cases Status.KeepFault fault asked back = absurd fault
    config_cases Status.JournalFull fault asked back = absurd fault
    config_cases (Status.SourceTooLong k) fault asked back = absurd fault
    config_cases (Status.StoreRefused c) fault asked back = absurd fault
    config_cases (Status.TraceRefused l) fault asked back = absurd fault

    pub config_stops : (s told : Status) → IsTextFault words.config s → AskedAt (words.config, Opening.Reading) before after s → GivesBack s given told sources → Stops (map state sources) told
    config_stops s told fault asked (inl h) = subst (Stops (map state sources)) (sym h.0) (config_cases s fault asked h.1)
    config_stops s told fault asked (inr h) = subst (Stops (map state sources)) (sym h.0) tt

  -- the store was not taken
  pub store_stops : (sources : List SourceState) (s : Status) → IsStoreFault s → AsksConfig words before after → Stops sources s
  store_stops sources Status.KeepFault fault asked = λ none. asked
  store_stops sources (Status.StoreRefused c) fault asked = asked
  store_stops sources Status.Memory fault asked = tt
  store_stops sources Status.Ok fault asked = absurd fault
  store_stops sources Status.Usage fault asked = absurd fault
  store_stops sources (Status.ConfigRefused l c) fault asked = absurd fault
  store_stops sources (Status.OpenFault name) fault asked = absurd fault
  store_stops sources (Status.ReadFault k) fault asked = absurd fault
  store_stops sources (Status.WriteFault z) fault asked = absurd fault
  store_stops sources Status.JournalFull fault asked = absurd fault
  store_stops sources (Status.SourceTooLong k) fault asked = absurd fault
  store_stops sources (Status.TraceRefused l) fault asked = absurd fault

  -- a source was not opened
  pub source_stops : (between : Option (List Call)) (sources : List SourceState) (s : Status) → AsksConfig words before between → IsOpenFault s
      → StoppedAmong files [] words.sources sources between after s → Stops sources s
  source_stops between sources s first fault =
      open_cases (λ z. StoppedAmong files [] words.sources sources between after z → Stops sources z) s fault
      (λ name u. inr (inl (record {
        opened = u.0;
        later = u.1;
        names_are = u.2;
        sources_are = u.3;
        asked = asked_then true before between after ((words.config, Opening.Reading) ∷ []) (map (λ (n : Text). (n, Opening.Reading)) u.0 ++ (name, Opening.Reading) ∷ []) first u.4;
      })))
      (λ u. tt)

  -- the trace was not opened
  pub trace_stops : (between : Option (List Call)) (sources : List SourceState) (s : Status)
      → between ≡ and_asked before ((words.config, Opening.Reading) ∷ map (λ (n : Text). (n, Opening.Reading)) words.sources) → AreNew files words.sources sources → IsOpenFault s
      → StoppedAtTrace words.trace between after s → Stops sources s
  trace_stops between sources s first new fault =
      open_cases (λ z. StoppedAtTrace words.trace between after z → Stops sources z) s fault
      (λ name u. inr (inr (record {
        name_is = u.0;
        sources_are = new;
        asked = asked_then true before between after ((words.config, Opening.Reading) ∷ map (λ (n : Text). (n, Opening.Reading)) words.sources) ((name, Opening.Writing) ∷ []) first u.1;
      })))
      (λ u. tt)
