use Rattle.std.proofs.Common.{◌≡◌, ◌∙◌, ap, refl, sym, false}
use Rattle.std.specs.Prelude.{Some}
use Rattle.std.proofs.lemmas.Result.{on_ok_weaker}
use Rattle.ha_journal.specs.declared.entry.Entry.TheVariants.{Step}
use Rattle.ha_model.specs.Lawful.{pick}
use Rattle.ha_whole.specs.Whole.{ready}
use Rattle.bus_turn.specs.States.{keeper_of, outside_of, sink_of}
use Rattle.bus_turn.specs.Shown.{BusView, bus_view}
use Rattle.bus_turn.specs.Buses.{IsStep}
use Rattle.whole_laws.proofs.ClosingLemmas.{put-step}
use Rattle.whole_laws.proofs.PutLemmas.{step-is-put}
use Rattle.bus_turn.proofs.LastLemmas.{step-dated}
use Rattle.bus_turn.proofs.PutLemmas.{after-put, fresh-of}
use Rattle.bus_turn.proofs.bus.Bus.step.Goals as goal

pub write_put-self-inside-requires-clause-dated : goal.write_put-self-inside-requires-clause-dated
write_put-self-inside-requires-clause-dated g c κs within =
    let b = c.self.inside in
    let put = c.put_step-put in
    step-dated put.result (g.C.Core.entries put.new.self) (g.C.Core.entries b.core)
    (λ serial branch item. pick c.args.worker (ready (g.C.Core.runs b.core) (g.C.Core.entries b.core)) ≡ Some (serial, branch)) c.args.worker put.ensures.put

pub invariant_of-self : goal.invariant_of-self
invariant_of-self g c =
    let s = sink_of g.K.Sink.written g.K.Sink.faults g.K.Sink.zeros g.K.Sink.name in
    let q = keeper_of g.Q.Keeper.kept g.Q.Keeper.faults in
    let b = c.self.inside in
    let old : BusView = bus_view (g.C.Core.entries b.core) (g.C.Core.runs b.core) (g.C.Core.is_spent b.core) (outside_of s q b.calls b.errors b.trace b.keep) b.first in
    let put = c.put_step-put in
    let core = put.new.self in
    let out = c.write_put-self-inside in
    (after-put false (IsStep c.args.worker old) old c.self.invariant (ap (λ (v : BusView). v.first) c.self.view_is ∙ c.requires.open)
    (g.C.Core.entries core) (g.C.Core.runs core) (g.C.Core.is_spent core) out.result (outside_of s q out.new.calls out.new.errors out.new.trace out.new.keep)
    put.result (on_ok_weaker put.result (λ e. (Step c.args.worker e.0 e.1 e.2, record { serial = e.0; branch = e.1; item = e.2; picked = e.3; is = refl }, step-is-put c.args.worker e.0 e.1 e.2, refl, e.4 ∙ sym (put-step (g.C.Core.entries b.core) c.args.worker e.0 e.1 e.2))) put.ensures.put)
    put.ensures.room put.ensures.right put.ensures.stays put.ensures.full
    (fresh-of put.result (g.C.Core.is_spent core) put.ensures.spent) out.ensures.ok out.ensures.err).0

pub returns : goal.returns
returns g c =
    let s = sink_of g.K.Sink.written g.K.Sink.faults g.K.Sink.zeros g.K.Sink.name in
    let q = keeper_of g.Q.Keeper.kept g.Q.Keeper.faults in
    let b = c.self.inside in
    let old : BusView = bus_view (g.C.Core.entries b.core) (g.C.Core.runs b.core) (g.C.Core.is_spent b.core) (outside_of s q b.calls b.errors b.trace b.keep) b.first in
    let put = c.put_step-put in
    let core = put.new.self in
    let out = c.write_put-self-inside in
    rw (← c.self.view_is) ((after-put false (IsStep c.args.worker old) old c.self.invariant (ap (λ (v : BusView). v.first) c.self.view_is ∙ c.requires.open)
    (g.C.Core.entries core) (g.C.Core.runs core) (g.C.Core.is_spent core) out.result (outside_of s q out.new.calls out.new.errors out.new.trace out.new.keep)
    put.result (on_ok_weaker put.result (λ e. (Step c.args.worker e.0 e.1 e.2, record { serial = e.0; branch = e.1; item = e.2; picked = e.3; is = refl }, step-is-put c.args.worker e.0 e.1 e.2, refl, e.4 ∙ sym (put-step (g.C.Core.entries b.core) c.args.worker e.0 e.1 e.2))) put.ensures.put)
    put.ensures.room put.ensures.right put.ensures.stays put.ensures.full
    (fresh-of put.result (g.C.Core.is_spent core) put.ensures.spent) out.ensures.ok out.ensures.err).1)
