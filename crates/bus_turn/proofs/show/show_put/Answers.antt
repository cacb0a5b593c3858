use Rattle.std.proofs.Common.{◌∙◌, ◌-◌, ap, sym, length}
use Rattle.std.specs.Prelude.{slice_get}
use Rattle.std.specs.Option.{option_copied}
use Rattle.bus_turn.specs.States.{keeper_of, outside_of, sink_of}
use Rattle.bus_turn.specs.Writes.{fault_of}
use Rattle.bus_turn.proofs.LastLemmas.{again-dated, dated-one, dated-two, has-one, has-two, shown-one, shown-two}
use Rattle.bus_turn.proofs.show.show_put.Goals as goal

pub returns-in_default : goal.returns-in_default
returns-in_default g c = λ before x single is.
    absurd (has-one (g.C.Core.entries c.args.core.now) c.journal-entries.result.now before x is single c.journal-entries.ensures.value (sym (ap option_copied c.in_default.is) ∙ c.last.ensures.value))

pub show-requires-clause-dated : goal.show-requires-clause-dated
show-requires-clause-dated g c = λ _ _.
    dated-one (g.C.Core.entries c.args.core.now) c.in-Some.last.now
    (sym (ap option_copied c.in-Some.is) ∙ c.last.ensures.value ∙ (λ i. slice_get (c.journal-entries.ensures.value i) (length (c.journal-entries.ensures.value i) - 1)))
    (sym c.is_again.ensures ∙ c.if-not-is_again.true) c.requires.dated

pub returns-then-not-is_again : goal.returns-then-not-is_again
returns-then-not-is_again g c =
    let s = sink_of g.K.Sink.written g.K.Sink.faults g.K.Sink.zeros g.K.Sink.name in
    let q = keeper_of g.Q.Keeper.kept g.Q.Keeper.faults in
    let a = c.args in
    let out = c.show.new in
    λ before x single is.
    shown-one (g.C.Core.entries a.core.now) c.journal-entries.result.now before x is single c.journal-entries.ensures.value (g.C.Core.runs a.core.now)
    (outside_of s q a.calls.now a.errors.now a.trace.now a.keep.now) (outside_of s q out.calls out.errors out.trace out.keep) (fault_of c.show.result)
    c.in-Some.last.now (sym (ap option_copied c.in-Some.is) ∙ c.last.ensures.value) (sym c.is_again.ensures ∙ c.if-not-is_again.true) c.show.ensures

pub returns-in_default-before_last : goal.returns-in_default-before_last
returns-in_default-before_last g c = λ before x single is.
    absurd (has-two (g.C.Core.entries c.args.core.now) c.journal-entries.result.now before x is single c.journal-entries.ensures.value c.in-Some.last.now
    (sym (ap option_copied c.in-Some.is) ∙ c.last.ensures.value) (sym c.is_again.ensures ∙ c.if-not-is_again.false) (sym (ap option_copied c.in_default-before_last.is) ∙ c.before_last.ensures))

pub show_restart-requires-clause-dated : goal.show_restart-requires-clause-dated
show_restart-requires-clause-dated g c = λ _ _.
    let last = sym (ap option_copied c.in-Some.is) ∙ c.last.ensures.value ∙ (λ i. slice_get (c.journal-entries.ensures.value i) (length (c.journal-entries.ensures.value i) - 1)) in
    let opens = sym c.is_again.ensures ∙ c.if-not-is_again.false in (
      dated-two (g.C.Core.entries c.args.core.now) c.in-Some.last.now c.in-Some-before_last.restart.now last opens
          (sym (ap option_copied c.in-Some-before_last.is) ∙ c.before_last.ensures ∙ (λ i. slice_get (c.journal-entries.ensures.value i) (length (c.journal-entries.ensures.value i) - 2))) c.requires.dated,
      again-dated c.in-Some.last.now opens,
    )

pub returns : goal.returns
returns g c =
    let s = sink_of g.K.Sink.written g.K.Sink.faults g.K.Sink.zeros g.K.Sink.name in
    let q = keeper_of g.Q.Keeper.kept g.Q.Keeper.faults in
    let a = c.args in
    let out = c.show_restart.new in
    λ before x single is.
    shown-two (g.C.Core.entries a.core.now) c.journal-entries.result.now before x is single c.journal-entries.ensures.value (g.C.Core.runs a.core.now)
    (outside_of s q a.calls.now a.errors.now a.trace.now a.keep.now) (outside_of s q a.calls.now a.errors.now out.trace out.keep) (fault_of c.show_restart.result)
    c.in-Some.last.now c.in-Some-before_last.restart.now (sym (ap option_copied c.in-Some.is) ∙ c.last.ensures.value) (sym c.is_again.ensures ∙ c.if-not-is_again.false)
    (sym (ap option_copied c.in-Some-before_last.is) ∙ c.before_last.ensures) (c.show_restart.ensures (s a.calls.now) (s a.errors.now))
