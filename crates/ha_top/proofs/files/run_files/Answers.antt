use Rattle.std.proofs.Common.{◌∙◌, ◌∷◌, List, [], ap, length, map, subst, sym, arith, true, false}
use Rattle.std.specs.Prelude.{is_none}
use Rattle.std.specs.Option.{option_map}
use Rattle.ha_io.specs.declared.place.Opening.{Opening}
use Rattle.ha_io.specs.Told.{AreAsked, IsAskedSome}
use Rattle.ha_io.proofs.AskedLemmas.{asked_front, asked_some, asked_then}
use Rattle.ha_config.specs.Words.{Text}
use Rattle.ha_status.specs.Causes.{KeepCause, OpenCause}
use Rattle.ha_status.specs.Files.{AskedAt, HoldsText, IsTextFault}
use Rattle.bus_turn.specs.States.{keeper_of, sink_of}
use Rattle.ha_worker.specs.Courses.{source_of}
use Rattle.ha_run.specs.Opened.{AreNew}
use Rattle.ha_run.specs.Served.{AreOpened}
use Rattle.ha_top.specs.Answered.{IsStoreFault, RunOpenCause, StopsAt, StoreCause}
use Rattle.ha_top.specs.Opening.{IsOpenFault, StoppedAmong}
use Rattle.ha_top.proofs.AskedLemmas.{asked_all, asked_early}
use Rattle.ha_top.proofs.EarlyLemmas.{early_from, lived_open, lived_store, not_more, source_cause, trace_cause}
use Rattle.ha_top.proofs.OpenLemmas.{new_count, opens_all, opens_front}
use Rattle.ha_top.proofs.RunLemmas.{ran_lived, ran_stops}
use Rattle.ha_top.proofs.StopLemmas.{config_stops, source_stops, store_stops, trace_stops}
use Rattle.ha_top.proofs.files.run_files.Goals as goal

pub returns-in-Err-load_store-clause-lived : goal.returns-in-Err-load_store-clause-lived
returns-in-Err-load_store-clause-lived g c =
    let state = source_of g.P.Source.Source.faults g.P.Source.Source.left g.P.Source.Source.name in
    let sink = sink_of g.P.Sink.Sink.written g.P.Sink.Sink.faults g.P.Sink.Sink.zeros g.P.Sink.Sink.name in
    let e = c.unbooted-in-Err-load_store.ensures in
    lived_store c.args.words.now _ _
    (early_from _ _ (ap sink e.out) (ap sink e.err) (ap (option_map sink) e.trace) (ap g.Q.Keeper.kept e.keep ∙ c.load_store.ensures.keeps)
    (not_more g.Q.Keeper.faults (g.Q.Keeper.faults c.args.keep) _ c.unbooted-in-Err-load_store.result.keep e.keep c.load_store.ensures.never_falls) e.journal e.records)
    c.in-Ok.made.text c.in-Ok.made.config
    (subst (λ (z : Text). HoldsText (g.P.Place.holds c.args.place.now) z c.in-Ok.made.text) c.as_str.ensures.value c.in-Ok.ensures.config.holds) c.in-Ok.ensures.config.reads
    (subst IsStoreFault (sym e.status) c.in-Err-load_store.ensures.fault)
    (subst (StoreCause (g.Q.Keeper.kept c.args.keep)) (sym e.status) c.in-Err-load_store.ensures.refused)
    (subst (λ z. KeepCause (g.Q.Keeper.faults c.args.keep) (g.Q.Keeper.faults z) c.unbooted-in-Err-load_store.result.status) (sym e.keep)
    (subst (KeepCause (g.Q.Keeper.faults c.args.keep) (g.Q.Keeper.faults c.load_store.new.keep)) (sym e.status) c.in-Err-load_store.ensures.cause))
    (ap (map state) (e.sources ∙ c.make.ensures))

pub returns-in-Some-clause-lived : goal.returns-in-Some-clause-lived
returns-in-Some-clause-lived g c =
    let state = source_of g.P.Source.Source.faults g.P.Source.Source.left g.P.Source.Source.name in
    let sink = sink_of g.P.Sink.Sink.written g.P.Sink.Sink.faults g.P.Sink.Sink.zeros g.P.Sink.Sink.name in
    let e = c.unbooted-in-Some.ensures in
    let fault = rw c.in-Some.is at c.open_sources-sources.ensures.fault in
    let cause = rw c.in-Some.is at c.open_sources-sources.ensures.cause in
    let opens = c.open_sources-sources.ensures.opens [] (subst (λ z. AreNew (g.P.Place.holds c.read_config_at.new.place) [] (map state z)) (sym c.new.ensures.items) tt) in
    lived_open c.args.words.now _ _
    (early_from _ _ (ap sink e.out) (ap sink e.err) (ap (option_map sink) e.trace) (ap g.Q.Keeper.kept e.keep ∙ c.load_store.ensures.keeps)
    (not_more g.Q.Keeper.faults (g.Q.Keeper.faults c.args.keep) _ c.unbooted-in-Some.result.keep e.keep c.load_store.ensures.never_falls) e.journal e.records)
    c.in-Ok.made.text c.in-Ok.made.config c.in-Ok-load_store.taken.switches c.in-Ok-load_store.taken.last
    (subst (λ (z : Text). HoldsText (g.P.Place.holds c.args.place.now) z c.in-Ok.made.text) c.as_str.ensures.value c.in-Ok.ensures.config.holds) c.in-Ok.ensures.config.reads c.in-Ok-load_store.ensures.ok
    (subst IsOpenFault (sym e.status) fault)
    (subst (λ z. RunOpenCause c.args.words.now (g.P.Place.faults c.args.place.now) (g.P.Place.faults c.open_sources-sources.new.place) (g.P.Place.last c.open_sources-sources.new.place) z) (sym e.status)
    (source_cause c.args.words.now (g.P.Place.faults c.args.place.now) (g.P.Place.faults c.read_config_at.new.place) _ _ c.in-Some.status fault c.read_config_at.ensures.never_falls
    (subst (λ z. OpenCause z (g.P.Place.faults c.read_config_at.new.place) (g.P.Place.faults c.open_sources-sources.new.place) (g.P.Place.last c.open_sources-sources.new.place) c.in-Some.status) c.as_slice.ensures cause)))
    (subst (λ z. AreOpened c.args.words.now.sources (map state z)) (sym e.sources)
    (subst (λ z. AreOpened z (map state c.open_sources-sources.result.sources)) c.as_slice.ensures (opens_front _ _ _ _ opens)))

pub returns-in-Err-open_trace-clause-lived : goal.returns-in-Err-open_trace-clause-lived
returns-in-Err-open_trace-clause-lived g c =
    let state = source_of g.P.Source.Source.faults g.P.Source.Source.left g.P.Source.Source.name in
    let sink = sink_of g.P.Sink.Sink.written g.P.Sink.Sink.faults g.P.Sink.Sink.zeros g.P.Sink.Sink.name in
    let e = c.unbooted-in-Err-open_trace.ensures in
    let opens = c.open_sources-sources.ensures.opens [] (subst (λ z. AreNew (g.P.Place.holds c.read_config_at.new.place) [] (map state z)) (sym c.new.ensures.items) tt) in
    lived_open c.args.words.now _ _
    (early_from _ _ (ap sink e.out) (ap sink e.err) (ap (option_map sink) e.trace) (ap g.Q.Keeper.kept e.keep ∙ c.load_store.ensures.keeps)
    (not_more g.Q.Keeper.faults (g.Q.Keeper.faults c.args.keep) _ c.unbooted-in-Err-open_trace.result.keep e.keep c.load_store.ensures.never_falls) e.journal e.records)
    c.in-Ok.made.text c.in-Ok.made.config c.in-Ok-load_store.taken.switches c.in-Ok-load_store.taken.last
    (subst (λ (z : Text). HoldsText (g.P.Place.holds c.args.place.now) z c.in-Ok.made.text) c.as_str.ensures.value c.in-Ok.ensures.config.holds) c.in-Ok.ensures.config.reads c.in-Ok-load_store.ensures.ok
    (subst IsOpenFault (sym e.status) c.in-Err-open_trace.ensures.fault)
    (subst (λ z. RunOpenCause c.args.words.now (g.P.Place.faults c.args.place.now) (g.P.Place.faults c.open_trace.new.place) (g.P.Place.last c.open_trace.new.place) z) (sym e.status)
    (trace_cause c.args.words.now (g.P.Place.faults c.args.place.now) (g.P.Place.faults c.open_sources-sources.new.place) _ _ c.in-Err-open_trace.status c.in-Err-open_trace.ensures.fault
    (omega (arith, c.read_config_at.ensures.never_falls, c.open_sources-sources.ensures.never_falls)) c.in-Err-open_trace.ensures.cause))
    (subst (λ z. AreOpened c.args.words.now.sources (map state z)) (sym e.sources)
    (subst (λ z. AreOpened z (map state c.open_sources-sources.result.sources)) c.as_slice.ensures (opens_front _ _ _ _ opens)))

pub run_booted-requires-clause-some : goal.run_booted-requires-clause-some
run_booted-requires-clause-some g c κs within =
    let state = source_of g.P.Source.Source.faults g.P.Source.Source.left g.P.Source.Source.name in
    let opens = c.open_sources-sources.ensures.opens [] (subst (λ z. AreNew (g.P.Place.holds c.read_config_at.new.place) [] (map state z)) (sym c.new.ensures.items) tt) in
    let many = new_count state _ _ c.open_sources-sources.result.sources (opens_all _ _ _ c.open_sources-sources.result.fault c.in_default.is opens) ∙ ap length c.as_slice.ensures in
    omega (arith, many, c.requires.some)

pub run_booted-requires-clause-few : goal.run_booted-requires-clause-few
run_booted-requires-clause-few g c κs within =
    let state = source_of g.P.Source.Source.faults g.P.Source.Source.left g.P.Source.Source.name in
    let opens = c.open_sources-sources.ensures.opens [] (subst (λ z. AreNew (g.P.Place.holds c.read_config_at.new.place) [] (map state z)) (sym c.new.ensures.items) tt) in
    let many = new_count state _ _ c.open_sources-sources.result.sources (opens_all _ _ _ c.open_sources-sources.result.fault c.in_default.is opens) ∙ ap length c.as_slice.ensures in
    omega (arith, many, c.requires.few)

pub returns-clause-lived : goal.returns-clause-lived
returns-clause-lived g c =
    let state = source_of g.P.Source.Source.faults g.P.Source.Source.left g.P.Source.Source.name in
    let sink = sink_of g.P.Sink.Sink.written g.P.Sink.Sink.faults g.P.Sink.Sink.zeros g.P.Sink.Sink.name in
    let opens = c.open_sources-sources.ensures.opens [] (subst (λ z. AreNew (g.P.Place.holds c.read_config_at.new.place) [] (map state z)) (sym c.new.ensures.items) tt) in
    let all = opens_all _ _ _ c.open_sources-sources.result.fault c.in_default.is opens in
    ran_lived c.args.words.now _ _ (keeper_of g.Q.Keeper.kept g.Q.Keeper.faults c.load_store.new.keep) c.in-Ok.made.text c.in-Ok.made.config c.in-Ok-load_store.taken.switches c.in-Ok-load_store.taken.last
    (map state c.open_sources-sources.result.sources) (option_map sink c.in-Ok-open_trace.trace)
    (record { out_faults = c.requires.out_new.0; out_zeros = c.requires.out_new.1; err_faults = c.requires.err_new.0; err_zeros = c.requires.err_new.1; keep_faults = c.requires.keep_new })
    (subst (λ (z : Text). HoldsText (g.P.Place.holds c.args.place.now) z c.in-Ok.made.text) c.as_str.ensures.value c.in-Ok.ensures.config.holds) c.in-Ok.ensures.config.reads c.in-Ok-load_store.ensures.ok c.in-Ok-load_store.ensures.sound c.in-Ok-load_store.ensures.last
    (record {
      few = record { some_source = c.requires.some; few_sources = c.requires.few };
      in_time = c.requires.in_time;
      zoned = c.requires.zoned;
      zone_is_text = c.requires.zone_is_text;
    })
    (subst (λ z. AreNew z c.args.words.now.sources (map state c.open_sources-sources.result.sources)) c.read_config_at.ensures.same_files
    (subst (λ z. AreNew (g.P.Place.holds c.read_config_at.new.place) z (map state c.open_sources-sources.result.sources)) c.as_slice.ensures all))
    c.in-Ok-open_trace.ensures.named c.load_store.ensures.keeps c.load_store.ensures.never_falls c.run_booted.ensures.ran

pub returns-in-Err-clause-asked : goal.returns-in-Err-clause-asked
returns-in-Err-clause-asked g c =
    let told = g.P.Place.asked in
    asked_early _ c.unbooted.result.journal (told c.args.place.now) (told c.read_config_at.new.place) c.unbooted.ensures.journal
    (asked_front (told c.args.place.now) (told c.read_config_at.new.place) ((c.args.words.now.config, Opening.Reading) ∷ []) _
    (subst (λ (z : Text). IsAskedSome (told c.args.place.now) ((z, Opening.Reading) ∷ []) (told c.read_config_at.new.place)) c.as_str.ensures.value c.in-Err.ensures.asked))

pub returns-in-Some-clause-asked : goal.returns-in-Some-clause-asked
returns-in-Some-clause-asked g c =
    let told = g.P.Place.asked in
    let first = subst (λ (z : Text). AreAsked true (told c.args.place.now) ((z, Opening.Reading) ∷ []) (told c.read_config_at.new.place)) c.as_str.ensures.value c.in-Ok.ensures.asked in
    let sources = map (λ (name : Text). (name, Opening.Reading)) c.args.words.now.sources in
    asked_early _ c.unbooted-in-Some.result.journal (told c.args.place.now) (told c.open_sources-sources.new.place) c.unbooted-in-Some.ensures.journal
    (asked_front (told c.args.place.now) (told c.open_sources-sources.new.place) ((c.args.words.now.config, Opening.Reading) ∷ sources) _
    (asked_then false (told c.args.place.now) (told c.read_config_at.new.place) (told c.open_sources-sources.new.place) ((c.args.words.now.config, Opening.Reading) ∷ []) sources first
    (asked_some (is_none c.open_sources-sources.result.fault) (told c.read_config_at.new.place) (told c.open_sources-sources.new.place) sources
    (subst (λ (z : List Text). AreAsked (is_none c.open_sources-sources.result.fault) (told c.read_config_at.new.place) (map (λ (name : Text). (name, Opening.Reading)) z)
    (told c.open_sources-sources.new.place)) c.as_slice.ensures c.open_sources-sources.ensures.asked))))

pub returns-in-Err-open_trace-clause-asked : goal.returns-in-Err-open_trace-clause-asked
returns-in-Err-open_trace-clause-asked g c =
    let told = g.P.Place.asked in
    let first = subst (λ (z : Text). AreAsked true (told c.args.place.now) ((z, Opening.Reading) ∷ []) (told c.read_config_at.new.place)) c.as_str.ensures.value c.in-Ok.ensures.asked in
    let sources = map (λ (name : Text). (name, Opening.Reading)) c.args.words.now.sources in
    let second = asked_then true (told c.args.place.now) (told c.read_config_at.new.place) (told c.open_sources-sources.new.place) ((c.args.words.now.config, Opening.Reading) ∷ []) sources first
    (subst (λ (z : List Text). AreAsked true (told c.read_config_at.new.place) (map (λ (name : Text). (name, Opening.Reading)) z) (told c.open_sources-sources.new.place)) c.as_slice.ensures
    (rw c.in_default.is at c.open_sources-sources.ensures.asked)) in
    asked_early _ c.unbooted-in-Err-open_trace.result.journal (told c.args.place.now) (told c.open_trace.new.place) c.unbooted-in-Err-open_trace.ensures.journal
    (asked_then false (told c.args.place.now) (told c.open_sources-sources.new.place) (told c.open_trace.new.place) ((c.args.words.now.config, Opening.Reading) ∷ sources) _ second
    c.in-Err-open_trace.ensures.asked)

pub returns-clause-asked : goal.returns-clause-asked
returns-clause-asked g c =
    let told = g.P.Place.asked in
    let first = subst (λ (z : Text). AreAsked true (told c.args.place.now) ((z, Opening.Reading) ∷ []) (told c.read_config_at.new.place)) c.as_str.ensures.value c.in-Ok.ensures.asked in
    let sources = map (λ (name : Text). (name, Opening.Reading)) c.args.words.now.sources in
    let second = asked_then true (told c.args.place.now) (told c.read_config_at.new.place) (told c.open_sources-sources.new.place) ((c.args.words.now.config, Opening.Reading) ∷ []) sources first
    (subst (λ (z : List Text). AreAsked true (told c.read_config_at.new.place) (map (λ (name : Text). (name, Opening.Reading)) z) (told c.open_sources-sources.new.place)) c.as_slice.ensures
    (rw c.in_default.is at c.open_sources-sources.ensures.asked)) in
    asked_all _ c.run_booted.result.journal (told c.args.place.now) (told c.open_trace.new.place)
    (asked_then true (told c.args.place.now) (told c.open_sources-sources.new.place) (told c.open_trace.new.place) ((c.args.words.now.config, Opening.Reading) ∷ sources) _ second
    c.in-Ok-open_trace.ensures.asked)

pub returns-in-Err-clause-stops : goal.returns-in-Err-clause-stops
returns-in-Err-clause-stops g c =
    let state = source_of g.P.Source.Source.faults g.P.Source.Source.left g.P.Source.Source.name in
    let told = g.P.Place.asked in
    let words = c.args.words.now in
    let end = c.in-Err.end in
    let stops = config_stops words (g.P.Place.holds c.args.place.now) c.unbooted.result.journal (told c.args.place.now) (told c.read_config_at.new.place) state end.source c.given_back-status.result.1
    end.status c.given_back-status.result.0
    (subst (λ (z : Text). IsTextFault z end.status) c.as_str.ensures.value c.in-Err.ensures.fault)
    (subst (λ (z : Text). AskedAt (z, Opening.Reading) (told c.args.place.now) (told c.read_config_at.new.place) end.status) c.as_str.ensures.value c.in-Err.ensures.asked_once)
    c.given_back-status.ensures in
    subst (λ z. StopsAt words (g.P.Place.holds c.args.place.now) c.unbooted.result.journal (map state c.unbooted.result.sources) (told c.args.place.now) (told c.read_config_at.new.place) z) (sym c.unbooted.ensures.status)
    (subst (λ z. StopsAt words (g.P.Place.holds c.args.place.now) c.unbooted.result.journal (map state z) (told c.args.place.now) (told c.read_config_at.new.place) c.given_back-status.result.0)
    (sym c.unbooted.ensures.sources) stops)

pub returns-in-Err-load_store-clause-stops : goal.returns-in-Err-load_store-clause-stops
returns-in-Err-load_store-clause-stops g c =
    let state = source_of g.P.Source.Source.faults g.P.Source.Source.left g.P.Source.Source.name in
    let told = g.P.Place.asked in
    let words = c.args.words.now in
    let first = subst (λ (z : Text). AreAsked true (told c.args.place.now) ((z, Opening.Reading) ∷ []) (told c.read_config_at.new.place)) c.as_str.ensures.value c.in-Ok.ensures.asked in
    let e = c.unbooted-in-Err-load_store.ensures in
    subst (λ z. StopsAt words (g.P.Place.holds c.args.place.now) c.unbooted-in-Err-load_store.result.journal (map state c.unbooted-in-Err-load_store.result.sources) (told c.args.place.now) (told c.read_config_at.new.place) z) (sym e.status)
    (store_stops words (g.P.Place.holds c.args.place.now) c.unbooted-in-Err-load_store.result.journal (told c.args.place.now) (told c.read_config_at.new.place) (map state c.unbooted-in-Err-load_store.result.sources) c.in-Err-load_store.status
    c.in-Err-load_store.ensures.fault first)

pub returns-in-Some-clause-stops : goal.returns-in-Some-clause-stops
returns-in-Some-clause-stops g c =
    let state = source_of g.P.Source.Source.faults g.P.Source.Source.left g.P.Source.Source.name in
    let told = g.P.Place.asked in
    let words = c.args.words.now in
    let files = g.P.Place.holds c.args.place.now in
    let e = c.unbooted-in-Some.ensures in
    let first = subst (λ (z : Text). AreAsked true (told c.args.place.now) ((z, Opening.Reading) ∷ []) (told c.read_config_at.new.place)) c.as_str.ensures.value c.in-Ok.ensures.asked in
    let fault = rw c.in-Some.is at c.open_sources-sources.ensures.fault in
    let stopped = rw c.in-Some.is at c.open_sources-sources.ensures.stopped [] (subst (λ z. AreNew (g.P.Place.holds c.read_config_at.new.place) [] (map state z)) (sym c.new.ensures.items) tt) in
    let among = subst (λ f. StoppedAmong f [] words.sources (map state c.open_sources-sources.result.sources) (told c.read_config_at.new.place) (told c.open_sources-sources.new.place) c.in-Some.status)
    c.read_config_at.ensures.same_files
    (subst (λ (z : List Text). StoppedAmong (g.P.Place.holds c.read_config_at.new.place) [] z (map state c.open_sources-sources.result.sources) (told c.read_config_at.new.place)
    (told c.open_sources-sources.new.place) c.in-Some.status) c.as_slice.ensures stopped) in
    subst (λ z. StopsAt words files c.unbooted-in-Some.result.journal (map state c.unbooted-in-Some.result.sources) (told c.args.place.now) (told c.open_sources-sources.new.place) z) (sym e.status)
    (subst (λ z. StopsAt words files c.unbooted-in-Some.result.journal (map state z) (told c.args.place.now) (told c.open_sources-sources.new.place) c.in-Some.status) (sym e.sources)
    (source_stops words files c.unbooted-in-Some.result.journal (told c.args.place.now) (told c.open_sources-sources.new.place) (told c.read_config_at.new.place)
    (map state c.open_sources-sources.result.sources) c.in-Some.status first fault among))

pub returns-in-Err-open_trace-clause-stops : goal.returns-in-Err-open_trace-clause-stops
returns-in-Err-open_trace-clause-stops g c =
    let state = source_of g.P.Source.Source.faults g.P.Source.Source.left g.P.Source.Source.name in
    let told = g.P.Place.asked in
    let words = c.args.words.now in
    let files = g.P.Place.holds c.args.place.now in
    let e = c.unbooted-in-Err-open_trace.ensures in
    let first = subst (λ (z : Text). AreAsked true (told c.args.place.now) ((z, Opening.Reading) ∷ []) (told c.read_config_at.new.place)) c.as_str.ensures.value c.in-Ok.ensures.asked in
    let sources = map (λ (name : Text). (name, Opening.Reading)) words.sources in
    let second = asked_then true (told c.args.place.now) (told c.read_config_at.new.place) (told c.open_sources-sources.new.place) ((words.config, Opening.Reading) ∷ []) sources first
    (subst (λ (z : List Text). AreAsked true (told c.read_config_at.new.place) (map (λ (name : Text). (name, Opening.Reading)) z) (told c.open_sources-sources.new.place)) c.as_slice.ensures
    (rw c.in_default.is at c.open_sources-sources.ensures.asked)) in
    let opens = c.open_sources-sources.ensures.opens [] (subst (λ z. AreNew (g.P.Place.holds c.read_config_at.new.place) [] (map state z)) (sym c.new.ensures.items) tt) in
    let all = opens_all _ _ _ c.open_sources-sources.result.fault c.in_default.is opens in
    let new = subst (λ z. AreNew z words.sources (map state c.open_sources-sources.result.sources)) c.read_config_at.ensures.same_files
    (subst (λ z. AreNew (g.P.Place.holds c.read_config_at.new.place) z (map state c.open_sources-sources.result.sources)) c.as_slice.ensures all) in
    subst (λ z. StopsAt words files c.unbooted-in-Err-open_trace.result.journal (map state c.unbooted-in-Err-open_trace.result.sources) (told c.args.place.now) (told c.open_trace.new.place) z) (sym e.status)
    (subst (λ z. StopsAt words files c.unbooted-in-Err-open_trace.result.journal (map state z) (told c.args.place.now) (told c.open_trace.new.place) c.in-Err-open_trace.status) (sym e.sources)
    (trace_stops words files c.unbooted-in-Err-open_trace.result.journal (told c.args.place.now) (told c.open_trace.new.place) (told c.open_sources-sources.new.place)
    (map state c.open_sources-sources.result.sources) c.in-Err-open_trace.status second new c.in-Err-open_trace.ensures.fault c.in-Err-open_trace.ensures.stopped))

pub returns-clause-stops : goal.returns-clause-stops
returns-clause-stops g c =
    let state = source_of g.P.Source.Source.faults g.P.Source.Source.left g.P.Source.Source.name in
    let opens = c.open_sources-sources.ensures.opens [] (subst (λ z. AreNew (g.P.Place.holds c.read_config_at.new.place) [] (map state z)) (sym c.new.ensures.items) tt) in
    let all = opens_all _ _ _ c.open_sources-sources.result.fault c.in_default.is opens in
    let new = subst (λ z. AreNew z c.args.words.now.sources (map state c.open_sources-sources.result.sources)) c.read_config_at.ensures.same_files
    (subst (λ z. AreNew (g.P.Place.holds c.read_config_at.new.place) z (map state c.open_sources-sources.result.sources)) c.as_slice.ensures all) in
    ran_stops c.args.words.now (g.P.Place.holds c.args.place.now) c.args.words.now.sources _ _ (map state c.open_sources-sources.result.sources) _ _ _ _ _ _ _ new c.run_booted.ensures.ran
