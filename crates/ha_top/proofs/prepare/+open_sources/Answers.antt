use Rattle.std.proofs.Common.{◌∙◌, ◌∷◌, List, [], ◌++◌, map, subst, sym}
use Rattle.std.specs.Prelude.{IfSome, is_none, is_ok}
use Rattle.ha_io.specs.declared.place.Opening.{Opening}
use Rattle.ha_io.specs.Told.{AreAsked, IsAskedSome}
use Rattle.ha_io.proofs.AskedLemmas.{asked_front, asked_then}
use Rattle.ha_config.specs.Words.{Text}
use Rattle.ha_status.specs.Causes.{OpenCause}
use Rattle.ha_worker.specs.Courses.{source_of}
use Rattle.ha_run.specs.Served.{AreOpened}
use Rattle.ha_run.specs.Opened.{AreNew}
use Rattle.ha_top.specs.Opening.{OpensAs, StoppedAmong}
use Rattle.ha_top.proofs.OpenLemmas.{cause_later, first_and_later, opened_front, opens_more, pushed, pushed_front, stopped_first, stopped_later}
use Rattle.ha_top.proofs.prepare.+open_sources.Goals as goal

pub returns-in-Err-clause-opens : goal.returns-in-Err-clause-opens
returns-in-Err-clause-opens g t c = λ before h.
    let state = source_of g.P.Source.Source.faults g.P.Source.Source.left g.P.Source.Source.name in
    subst (λ z. AreOpened (before ++ c.args.names.now) (map state z)) (sym c.from_vec-in-Err.ensures) (opened_front (g.P.Place.holds c.args.place.now) before c.args.names.now (map state c.args.sources.items) h)

pub returns-then-is_err-clause-opens : goal.returns-then-is_err-clause-opens
returns-then-is_err-clause-opens g t c = λ before h.
    let state = source_of g.P.Source.Source.faults g.P.Source.Source.left g.P.Source.Source.name in
    let names = first_and_later c.args.names.now c.name-item.result c.in-len1-up.len_at_least c.name-item.is in
    subst (λ z. AreOpened (before ++ z) (map state c.from_vec-then-is_err.result)) names
    (pushed_front state (g.P.Place.holds c.args.place.now) before _ c.name-item.result c.args.sources.items c.from_vec-then-is_err.result c.in-Ok.source (is_ok c.push.result)
    (c.from_vec-then-is_err.ensures ∙ c.push.ensures.items) h c.in-Ok.ensures.ok)

pub returns-clause-opens : goal.returns-clause-opens
returns-clause-opens g t c = λ before h.
    let state = source_of g.P.Source.Source.faults g.P.Source.Source.left g.P.Source.Source.name in
    let names = first_and_later c.args.names.now c.name-item.result c.in-len1-up.len_at_least c.name-item.is in
    subst (λ z. OpensAs (g.P.Place.holds c.args.place.now) (before ++ z) (map state c.open_sources.result.sources) c.open_sources.result.fault) names
    (opens_more (g.P.Place.holds c.args.place.now) (g.P.Place.holds c.open_source.new.place) before _ c.name-item.result (map state c.args.sources.items) (map state c.push.new.self.items)
    (map state c.open_sources.result.sources) (state c.in-Ok.source) c.open_sources.result.fault c.open_source.ensures.same_files
    (pushed state c.args.sources.items c.push.new.self.items c.in-Ok.source (is_ok c.push.result) c.push.ensures.items c.if-is_err.ensures.negation) h c.in-Ok.ensures.ok c.open_sources.ensures.opens)

pub returns-clause-cause : goal.returns-clause-cause
returns-clause-cause g t c =
    let names = first_and_later c.args.names.now c.name-item.result c.in-len1-up.len_at_least c.name-item.is in
    subst (λ z. IfSome c.open_sources.result.fault (OpenCause z (g.P.Place.faults c.args.place.now) (g.P.Place.faults c.open_sources.new.place) (g.P.Place.last c.open_sources.new.place))) names
    (cause_later c.name-item.result _ (g.P.Place.faults c.args.place.now) (g.P.Place.faults c.open_source.new.place) _ _ c.open_sources.result.fault c.open_source.ensures.never_falls
    c.open_sources.ensures.fault c.open_sources.ensures.cause)

pub returns-in-Err-clause-asked : goal.returns-in-Err-clause-asked
returns-in-Err-clause-asked g t c =
    let told = g.P.Place.asked in
    let names = first_and_later c.args.names.now c.name-item.result c.in-len1-up.len_at_least c.name-item.is in
    subst (λ (z : List Text). IsAskedSome (told c.args.place.now) (map (λ (name : Text). (name, Opening.Reading)) z) (told c.open_source.new.place)) names
    (asked_front (told c.args.place.now) (told c.open_source.new.place) ((c.name-item.result, Opening.Reading) ∷ []) _ c.in-Err.ensures.asked)

pub returns-clause-asked : goal.returns-clause-asked
returns-clause-asked g t c =
    let told = g.P.Place.asked in
    let names = first_and_later c.args.names.now c.name-item.result c.in-len1-up.len_at_least c.name-item.is in
    subst (λ (z : List Text). AreAsked (is_none c.open_sources.result.fault) (told c.args.place.now) (map (λ (name : Text). (name, Opening.Reading)) z) (told c.open_sources.new.place)) names
    (asked_then (is_none c.open_sources.result.fault) (told c.args.place.now) (told c.open_source.new.place) (told c.open_sources.new.place) ((c.name-item.result, Opening.Reading) ∷ []) _
    c.in-Ok.ensures.asked c.open_sources.ensures.asked)

pub returns-in-Err-clause-stopped : goal.returns-in-Err-clause-stopped
returns-in-Err-clause-stopped g t c = λ before h.
    let state = source_of g.P.Source.Source.faults g.P.Source.Source.left g.P.Source.Source.name in
    let told = g.P.Place.asked in
    let files = g.P.Place.holds c.args.place.now in
    let names = first_and_later c.args.names.now c.name-item.result c.in-len1-up.len_at_least c.name-item.is in
    subst (λ (z : List Text). StoppedAmong files before z (map state c.from_vec-in-Err.result) (told c.args.place.now) (told c.open_source.new.place) c.in-Err.status) names
    (stopped_first files before _ c.name-item.result (map state c.from_vec-in-Err.result) (told c.args.place.now) (told c.open_source.new.place) c.in-Err.status c.in-Err.ensures.fault
    (subst (λ z. AreNew files before (map state z)) (sym c.from_vec-in-Err.ensures) h) c.in-Err.ensures.stopped)

pub returns-clause-stopped : goal.returns-clause-stopped
returns-clause-stopped g t c = λ before h.
    let state = source_of g.P.Source.Source.faults g.P.Source.Source.left g.P.Source.Source.name in
    let told = g.P.Place.asked in
    let files = g.P.Place.holds c.args.place.now in
    let names = first_and_later c.args.names.now c.name-item.result c.in-len1-up.len_at_least c.name-item.is in
    subst (λ (z : List Text). IfSome c.open_sources.result.fault (StoppedAmong files before z (map state c.open_sources.result.sources) (told c.args.place.now) (told c.open_sources.new.place))) names
    (stopped_later files (g.P.Place.holds c.open_source.new.place) before _ c.name-item.result (map state c.args.sources.items) (map state c.push.new.self.items) (map state c.open_sources.result.sources)
    (state c.in-Ok.source) (told c.args.place.now) (told c.open_source.new.place) (told c.open_sources.new.place) c.open_sources.result.fault c.open_source.ensures.same_files
    (pushed state c.args.sources.items c.push.new.self.items c.in-Ok.source (is_ok c.push.result) c.push.ensures.items c.if-is_err.ensures.negation) h c.in-Ok.ensures.ok c.in-Ok.ensures.asked
    c.open_sources.ensures.fault c.open_sources.ensures.stopped)
