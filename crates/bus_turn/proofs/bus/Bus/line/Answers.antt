use Rattle.std.proofs.Common.{◌≡◌, ◌∙◌, ap, refl, subst, sym}
use Rattle.std.proofs.lemmas.Result.{on_ok_weaker}
use Rattle.ha_journal.specs.declared.entry.Entry.{Entry}
use Rattle.ha_journal.specs.declared.entry.Entry.TheVariants.{Line}
use Rattle.ha_config.specs.Fair.{prepared}
use Rattle.ha_journal.specs.Commands.{IsFair, put_as}
use Rattle.ha_journal.proofs.ReloadLemmas.{read-restarts}
use Rattle.ha_journal.specs.Entries.{restarts}
use Rattle.ha_whole.specs.Whole.{is_rested}
use Rattle.whole_laws.proofs.PutLemmas.{line-put}
use Rattle.bus_turn.specs.States.{keeper_of, outside_of, sink_of}
use Rattle.bus_turn.specs.Shown.{BusView, bus_view}
use Rattle.bus_turn.proofs.LastLemmas.{line-dated}
use Rattle.bus_turn.proofs.PutLemmas.{after-put, fresh-of}
use Rattle.whole_laws.proofs.PutLemmas.{put-restarts}
use Rattle.bus_turn.proofs.bus.Bus.line.Goals as goal

pub put_line-put-requires-clause-rested : goal.put_line-put-requires-clause-rested
put_line-put-requires-clause-rested g c = ap (λ (v : BusView). is_rested v.records c.args.source v.journal) c.self.view_is ∙ c.requires.rested

pub write_put-self-inside-requires-clause-dated : goal.write_put-self-inside-requires-clause-dated
write_put-self-inside-requires-clause-dated g c κs within =
    let b = c.self.inside in
    let put = c.put_line-put in
    line-dated put.result (g.C.Core.entries put.new.self) (g.C.Core.entries b.core) c.args.source c.args.number (put_as (g.C.Core.entries b.core) (prepared g.C.Prepare.Prepare.reads c.args.cmd)) put.ensures.put
    (subst (λ (v : BusView). IsFair v.journal (put_as v.journal (prepared g.C.Prepare.Prepare.reads c.args.cmd))) (sym c.self.view_is) c.requires.fair)

pub invariant_of-self : goal.invariant_of-self
invariant_of-self g c =
    let s = sink_of g.K.Sink.written g.K.Sink.faults g.K.Sink.zeros g.K.Sink.name in
    let q = keeper_of g.Q.Keeper.kept g.Q.Keeper.faults in
    let b = c.self.inside in
    let old : BusView = bus_view (g.C.Core.entries b.core) (g.C.Core.runs b.core) (g.C.Core.is_spent b.core) (outside_of s q b.calls b.errors b.trace b.keep) b.first in
    let put = c.put_line-put in
    let core = put.new.self in
    let out = c.write_put-self-inside in
    let x : Entry = Line c.args.source c.args.number (put_as (g.C.Core.entries b.core) (prepared g.C.Prepare.Prepare.reads c.args.cmd)) in
    (after-put (restarts c.args.cmd) (λ y. y ≡ x) old c.self.invariant (ap (λ (v : BusView). v.first) c.self.view_is ∙ c.requires.open)
    (g.C.Core.entries core) (g.C.Core.runs core) (g.C.Core.is_spent core) out.result (outside_of s q out.new.calls out.new.errors out.new.trace out.new.keep)
    put.result (on_ok_weaker put.result (λ e. (x, refl, line-put c.args.source c.args.number _, put-restarts (g.C.Core.entries b.core) c.args.source c.args.number (prepared g.C.Prepare.Prepare.reads c.args.cmd) ∙ read-restarts g.C.Prepare.Prepare.reads c.args.cmd, e)) put.ensures.put)
    put.ensures.room put.ensures.right put.ensures.stays put.ensures.full
    (fresh-of put.result (g.C.Core.is_spent core) put.ensures.spent) out.ensures.ok out.ensures.err).0

pub returns : goal.returns
returns g c =
    let s = sink_of g.K.Sink.written g.K.Sink.faults g.K.Sink.zeros g.K.Sink.name in
    let q = keeper_of g.Q.Keeper.kept g.Q.Keeper.faults in
    let b = c.self.inside in
    let old : BusView = bus_view (g.C.Core.entries b.core) (g.C.Core.runs b.core) (g.C.Core.is_spent b.core) (outside_of s q b.calls b.errors b.trace b.keep) b.first in
    let put = c.put_line-put in
    let core = put.new.self in
    let out = c.write_put-self-inside in
    let x : Entry = Line c.args.source c.args.number (put_as (g.C.Core.entries b.core) (prepared g.C.Prepare.Prepare.reads c.args.cmd)) in
    rw (← c.self.view_is) ((after-put (restarts c.args.cmd) (λ y. y ≡ x) old c.self.invariant (ap (λ (v : BusView). v.first) c.self.view_is ∙ c.requires.open)
    (g.C.Core.entries core) (g.C.Core.runs core) (g.C.Core.is_spent core) out.result (outside_of s q out.new.calls out.new.errors out.new.trace out.new.keep)
    put.result (on_ok_weaker put.result (λ e. (x, refl, line-put c.args.source c.args.number _, put-restarts (g.C.Core.entries b.core) c.args.source c.args.number (prepared g.C.Prepare.Prepare.reads c.args.cmd) ∙ read-restarts g.C.Prepare.Prepare.reads c.args.cmd, e)) put.ensures.put)
    put.ensures.room put.ensures.right put.ensures.stays put.ensures.full
    (fresh-of put.result (g.C.Core.is_spent core) put.ensures.spent) out.ensures.ok out.ensures.err).1)
