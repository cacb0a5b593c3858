use Rattle.std.proofs.Common.{◌≡◌, ◌∙◌, List, ap, arith, length, map, refl, rules, subst, sym}
use Rattle.std.proofs.lemmas.List.{length-map, take_at}
use Rattle.std.specs.Prelude.{All}
use Rattle.crossbeam_channel.specs.Claims.{view}
use Rattle.bus_pass.specs.Origins.{origin_of}
use Rattle.bus_pass.specs.Turns.{IsPassOf}
use Rattle.ha_run.specs.Opened.{source_of}
use Rattle.ha_run.specs.Team.{seat_of, told_by}
use Rattle.ha_run.proofs.CrewLemmas.{led}
use Rattle.ha_run.proofs.RoundLemmas.{all_able, all_in, all_later, count_in, done_in, idle_in, ready_in, went}
use Rattle.ha_run.proofs.core_run.send_round.Goals as goal

pub work_all-requires-clause-able : goal.work_all-requires-clause-able
work_all-requires-clause-able g c κs within =
    let src = source_of g.S.Source.faults g.S.Source.left g.S.Source.name in
    let e : c.as_mut_slice.result.now ≡ c.hire-workers.result = search rules in
    all_able g.C.Prepare.Prepare.reads (seat_of src) (map src c.args.sources) c.hire-workers.result c.as_mut_slice.result.now e c.hire-workers.ensures.ready (omega (arith, c.requires.few, length-map c.args.sources src))

pub told_by-told-requires-after_bounds : goal.told_by-told-requires-after_bounds
told_by-told-requires-after_bounds g c κs within =
    let src = source_of g.S.Source.faults g.S.Source.left g.S.Source.name in
    let e : c.as_mut_slice.result.now ≡ c.hire-workers.result = search rules in
    let f : c.as_slice.result.now ≡ c.work_all.new.workers = c.as_slice.ensures.value ∙ take_at c.work_all.new.workers _ c.into_vec-workers.result.len (c.work_all.ensures.len ∙ c.as_mut_slice.ensures.len) in
    let done = c.work_all.ensures.done (map src c.args.sources) (ready_in g.C.Prepare.Prepare.reads (seat_of src) (map src c.args.sources) c.hire-workers.result c.as_mut_slice.result.now e c.hire-workers.ensures.ready) in
    omega (arith, c.requires.few, length-map c.args.sources src, ap length f, count_in g.C.Prepare.Prepare.reads (seat_of src) (map src c.args.sources) c.work_all.new.workers done)

pub gather-sources-requires-clause-idle : goal.gather-sources-requires-clause-idle
gather-sources-requires-clause-idle g c κs within = (c.hire-workers.ensures.lead (origin_of c.requires.lead.0) c.requires.lead.1).idle

pub gather-sources-requires-clause-passes : goal.gather-sources-requires-clause-passes
gather-sources-requires-clause-passes g c κs within =
    let f : c.from_vec.result ≡ c.work_all.new.workers = c.from_vec.ensures ∙ take_at c.work_all.new.workers _ c.into_vec-workers.result.len (c.work_all.ensures.len ∙ c.as_mut_slice.ensures.len) in
    subst (λ z. All (λ w. IsPassOf c.args.turn w.pass) z) (sym f) c.work_all.ensures.passes

pub gather-sources-requires-clause-later : goal.gather-sources-requires-clause-later
gather-sources-requires-clause-later g c κs within =
    let src = source_of g.S.Source.faults g.S.Source.left g.S.Source.name in
    let e : c.as_mut_slice.result.now ≡ c.hire-workers.result = search rules in
    let f : c.from_vec.result ≡ c.work_all.new.workers = c.from_vec.ensures ∙ take_at c.work_all.new.workers _ c.into_vec-workers.result.len (c.work_all.ensures.len ∙ c.as_mut_slice.ensures.len) in
    let done = c.work_all.ensures.done (map src c.args.sources) (ready_in g.C.Prepare.Prepare.reads (seat_of src) (map src c.args.sources) c.hire-workers.result c.as_mut_slice.result.now e c.hire-workers.ensures.ready) in
    all_later g.C.Prepare.Prepare.reads (seat_of src) (map src c.args.sources) c.from_vec.result (done_in g.C.Prepare.Prepare.reads (seat_of src) (map src c.args.sources) c.work_all.new.workers c.from_vec.result f done)

pub gather-sources-requires-clause-room : goal.gather-sources-requires-clause-room
gather-sources-requires-clause-room g c κs within =
    let src = source_of g.S.Source.faults g.S.Source.left g.S.Source.name in
    let e : c.as_mut_slice.result.now ≡ c.hire-workers.result = search rules in
    let f : c.from_vec.result ≡ c.work_all.new.workers = c.from_vec.ensures ∙ take_at c.work_all.new.workers _ c.into_vec-workers.result.len (c.work_all.ensures.len ∙ c.as_mut_slice.ensures.len) in
    let done = c.work_all.ensures.done (map src c.args.sources) (ready_in g.C.Prepare.Prepare.reads (seat_of src) (map src c.args.sources) c.hire-workers.result c.as_mut_slice.result.now e c.hire-workers.ensures.ready) in
    omega (arith, c.requires.back, length-map c.args.sources src, ap length f, count_in g.C.Prepare.Prepare.reads (seat_of src) (map src c.args.sources) c.work_all.new.workers done)

pub close-bus-requires-clause-idle : goal.close-bus-requires-clause-idle
close-bus-requires-clause-idle g c κs within =
    let src = source_of g.S.Source.faults g.S.Source.left g.S.Source.name in
    idle_in g.C.Prepare.Prepare.reads (seat_of src) (map src c.args.sources) c.from_vec.result (view c.hire-workers.new.pass) (view c.gather-sources.new.pass) c.gather-sources.ensures.view
    (c.hire-workers.ensures.lead (origin_of c.requires.lead.0) c.requires.lead.1).idle

pub close-bus-requires-clause-all : goal.close-bus-requires-clause-all
close-bus-requires-clause-all g c κs within =
    let src = source_of g.S.Source.faults g.S.Source.left g.S.Source.name in
    let e : c.as_mut_slice.result.now ≡ c.hire-workers.result = search rules in
    let f : c.from_vec.result ≡ c.work_all.new.workers = c.from_vec.ensures ∙ take_at c.work_all.new.workers _ c.into_vec-workers.result.len (c.work_all.ensures.len ∙ c.as_mut_slice.ensures.len) in
    let done = c.work_all.ensures.done (map src c.args.sources) (ready_in g.C.Prepare.Prepare.reads (seat_of src) (map src c.args.sources) c.hire-workers.result c.as_mut_slice.result.now e c.hire-workers.ensures.ready) in
    all_in g.C.Prepare.Prepare.reads (seat_of src) (map src c.args.sources) c.from_vec.result (view c.hire-workers.new.pass) (view c.gather-sources.new.pass) (origin_of c.requires.lead.0) c.gather-sources.ensures.view
    (led (sym (length-map c.args.sources src)) (c.hire-workers.ensures.lead (origin_of c.requires.lead.0) c.requires.lead.1))
    (done_in g.C.Prepare.Prepare.reads (seat_of src) (map src c.args.sources) c.work_all.new.workers c.from_vec.result f done)

pub returns : goal.returns
returns g c = λ base lead.
    let src = source_of g.S.Source.faults g.S.Source.left g.S.Source.name in
    let e : c.as_mut_slice.result.now ≡ c.hire-workers.result = search rules in
    let f : c.from_vec.result ≡ c.work_all.new.workers = c.from_vec.ensures ∙ take_at c.work_all.new.workers _ c.into_vec-workers.result.len (c.work_all.ensures.len ∙ c.as_mut_slice.ensures.len) in
    let s : c.as_slice.result.now ≡ c.from_vec.result = (c.as_slice.ensures.value ∙ take_at c.work_all.new.workers _ c.into_vec-workers.result.len (c.work_all.ensures.len ∙ c.as_mut_slice.ensures.len)) ∙ sym f in
    let done = c.work_all.ensures.done (map src c.args.sources) (ready_in g.C.Prepare.Prepare.reads (seat_of src) (map src c.args.sources) c.hire-workers.result c.as_mut_slice.result.now e c.hire-workers.ensures.ready) in
    went g.C.Prepare.Prepare.reads (seat_of src) (map src c.args.sources) src (λ w. w.source) (λ w. refl) base c.close-bus.result c.from_vec.result (view c.hire-workers.new.pass) (view c.gather-sources.new.pass) c.gather-sources.result
    c.told_by-told.result c.gather-sources.ensures.view (led (sym (length-map c.args.sources src)) (c.hire-workers.ensures.lead (origin_of base) lead))
    (done_in g.C.Prepare.Prepare.reads (seat_of src) (map src c.args.sources) c.work_all.new.workers c.from_vec.result f done) c.close-bus.ensures.tells c.close-bus.ensures.running c.close-bus.ensures.stored c.gather-sources.ensures.sources
    (c.told_by-told.ensures ∙ ap (λ (z : List _). told_by 0 (map (λ w. w.end) z)) s)
