use Rattle.std.proofs.Common.{◌∙◌, Some, ap, sym, refl}
use Rattle.script_step.specs.declared.thread.Thread.{Thread}
use Rattle.script_step.proofs.LeftLemmas.{is-open, not-open, open-stays}
use Rattle.script_step.proofs.ThreadLemmas.{settle-one, settle-last}
use Rattle.script_step.proofs.thread.Thread.settle.Goals as goal

pub loop-found-preserved : goal.loop-found-preserved
loop-found-preserved c =
    let list = c.args.list.now in
    let t = c.loop-found.self in
    let new : Thread = record { scopes = c.close.new.self; outer = c.pop.new.self; here = c.in-Some.frame } in
    let found = c.open_at-found.result in
    let none = not-open list t found c.loop-found.invariant.found (λ e. c.is_at.ensures.other c.loop-found-test.true (e ∙ ap Some (sym c.len.ensures))) in
    record {
      alike = λ b ps. c.loop-found.invariant.alike b ps ∙ settle-one list t new c.in-Some.frame none c.in-Some.ensures refl c.close.ensures b ps;
      found = open-stays list t new c.in-Some.frame found c.loop-found.invariant.found none c.in-Some.ensures refl;
    }

pub returns-in-None-clause-over : goal.returns-in-None-clause-over
returns-in-None-clause-over c _ b ps =
    let list = c.args.list.now in
    let t = c.loop-found.self in
    let none = not-open list t c.open_at-found.result c.loop-found.invariant.found (λ e. c.is_at.ensures.other c.loop-found-test.true (e ∙ ap Some (sym c.len.ensures))) in
    c.loop-found.invariant.alike b ps ∙ settle-last list t none c.in-None.ensures.0 b ps

pub returns-clause-next : goal.returns-clause-next
returns-clause-next c _ = is-open c.args.list.now c.loop-found.self c.open_at-found.result c.loop-found.invariant.found (c.is_at.ensures.so c.loop-found-test.false ∙ ap Some c.len.ensures)

pub returns-clause-alike : goal.returns-clause-alike
returns-clause-alike c _ = c.loop-found.invariant.alike
